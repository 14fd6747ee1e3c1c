use Rattle.smx_model.proofs.Common.{◌==◌, ◌&&◌, not, List, filter, sym, ap, ◌∙◌, Route}
use Rattle.smx_addresses.proofs.RouteLemmas.{find_route, unrouted}
use Rattle.smx_addresses.proofs.routes.Routes.unroute.Goals as goal

pub returns-in_err-id-clause-route : goal.returns-in_err-id-clause-route
returns-in_err-id-clause-route c = c.from_residual.ensures
    ∙ sym (find_route _ _ c.args.driver c.args.addr _ c.self.view_is c.self.invariant.unique c.in_err-id.ensures.value)

pub returns-in_err-id-clause-rest : goal.returns-in_err-id-clause-rest
returns-in_err-id-clause-rest c =
    unrouted _ _ c.args.driver c.args.addr c.self.invariant.unique c.swap_remove.ensures.unique
    c.swap_remove.ensures.updates.0
    ∙ ap (λ (rs : List Route). filter (λ r. not ((r.driver == c.args.driver) && (r.addr == c.args.addr))) rs)
    c.self.view_is

pub returns-clause-route : goal.returns-clause-route
returns-clause-route c =
    sym (find_route _ _ c.args.driver c.args.addr _ c.self.view_is c.self.invariant.unique c.in_ok-id.ensures.value)

pub returns-clause-rest : goal.returns-clause-rest
returns-clause-rest c =
    unrouted _ _ c.args.driver c.args.addr c.self.invariant.unique c.swap_remove.ensures.unique
    c.swap_remove.ensures.updates.0
    ∙ ap (λ (rs : List Route). filter (λ r. not ((r.driver == c.args.driver) && (r.addr == c.args.addr))) rs)
    c.self.view_is
