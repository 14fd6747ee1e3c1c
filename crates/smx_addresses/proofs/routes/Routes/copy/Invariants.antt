use Rattle.smx_model.proofs.Common.{◌≡◌, take}
use Rattle.smx_addresses.proofs.routes.Routes.copy.Given as goal

abbrev pub invariant-loop-route : goal.invariant-loop-route
invariant-loop-route l = l.copy ≡ take l.route-index l.route-items
