use Rattle.smx_model.proofs.Common.{List, ap, ◌∙◌, values_of, is_some, Link, is_below}
use Rattle.smx_links.proofs.LowerLemmas.{some_above}
use Rattle.smx_links.proofs.links.Links.is_below.Goals as goal

pub returns : goal.returns
returns c =
    rw c.key_of.ensures at c.contains_key.ensures ∙ ap is_some (c.self.invariant.lowers c.args.lower)
    ∙ some_above (values_of c.self.inside.by_id.entries) c.args.lower
    ∙ ap (λ (ls : List Link). is_below ls c.args.lower) c.self.view_is
