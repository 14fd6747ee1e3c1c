use Rattle.smx_model.proofs.Common.{◌==◌, not, List, filter, sym, ap, ◌∙◌, Route}
use Rattle.smx_addresses.proofs.RouteLemmas.{unlinked}
use Rattle.smx_addresses.proofs.TargetLemmas.{link_unlinks, none_unlinks, unlinked_whole}
use Rattle.smx_addresses.proofs.routes.Routes.unroute_link.Goals as goal

pub invariant_of-self : goal.invariant_of-self
invariant_of-self c =
    unlinked_whole c.self.inside.ids.entries _ c.self.inside.targets.entries _ c.args.id c.self.invariant
    c.take_each.ensures.unique
    (link_unlinks _ _ _ c.args.id c.in-Some.keys c.self.invariant (sym c.in-Some.ensures.value)
    (rw c.as_slice.ensures.keys at c.take_each.ensures.rest))
    c.swap_remove.ensures.updates.0

pub returns-in-Some : goal.returns-in-Some
returns-in-Some c =
    unlinked c.self.inside.ids.entries _ c.args.id c.self.invariant.unique c.take_each.ensures.unique
    (link_unlinks _ _ _ c.args.id c.in-Some.keys c.self.invariant (sym c.in-Some.ensures.value)
    (rw c.as_slice.ensures.keys at c.take_each.ensures.rest))
    ∙ ap (λ (rs : List Route). filter (λ r. not (r.id == c.args.id)) rs) c.self.view_is

pub returns-in_default : goal.returns-in_default
returns-in_default c =
    unlinked c.self.inside.ids.entries _ c.args.id c.self.invariant.unique c.self.invariant.unique
    (none_unlinks _ _ c.args.id c.self.invariant (sym c.swap_remove.ensures.value ∙ c.in_default.is))
    ∙ ap (λ (rs : List Route). filter (λ r. not (r.id == c.args.id)) rs) c.self.view_is
