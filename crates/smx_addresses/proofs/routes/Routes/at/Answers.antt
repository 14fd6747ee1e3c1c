use Rattle.smx_model.proofs.Common.{sym, ◌∙◌}
use Rattle.smx_addresses.proofs.RouteLemmas.{find_route}
use Rattle.smx_addresses.proofs.routes.Routes.at.Goals as goal

pub returns-in_err-id : goal.returns-in_err-id
returns-in_err-id c = c.from_residual.ensures
    ∙ sym (find_route _ _ c.args.driver c.args.addr _ c.self.view_is c.self.invariant.unique c.in_err-id.ensures.value)

pub returns : goal.returns
returns c =
    sym (find_route _ _ c.args.driver c.args.addr _ c.self.view_is c.self.invariant.unique c.in_ok-id.ensures.value)
