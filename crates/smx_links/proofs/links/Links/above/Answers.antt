use Rattle.smx_model.proofs.Common.{List, find, sym, subst, ap, ◌∙◌, values_of, nat_lt, Link, same_stream, IsRising}
use Rattle.smx_links.proofs.KeyLemmas.{lookup_id}
use Rattle.smx_links.proofs.LowerLemmas.{above_found, above_none}
use Rattle.smx_links.proofs.links.Links.above.Goals as goal

pub returns-in_err-id : goal.returns-in_err-id
returns-in_err-id c = rw c.from_residual.ensures (sym (above_none c.self.inside.ids.entries
    (values_of c.self.inside.by_id.entries) c.args.lower c.self.invariant.lowers
    (sym (rw c.key_of.ensures at c.in_err-id.ensures.value)))
    ∙ ap (λ (ls : List Link). find (λ l. same_stream l.lower c.args.lower) ls) c.self.view_is)

pub returns : goal.returns
returns c =
    c.get-2.ensures.value ∙ lookup_id _ _ c.in_ok-id.field-0.now c.self.invariant
    ∙ above_found c.self.inside.ids.entries (values_of c.self.inside.by_id.entries) c.args.lower c.in_ok-id.field-0.now
    (subst (IsRising (λ l k. nat_lt l.id k.id)) (sym c.self.view_is) c.requires) c.self.invariant.lowers
    (sym (rw c.key_of.ensures at c.in_ok-id.ensures.value))
    ∙ ap (λ (ls : List Link). find (λ l. same_stream l.lower c.args.lower) ls) c.self.view_is
