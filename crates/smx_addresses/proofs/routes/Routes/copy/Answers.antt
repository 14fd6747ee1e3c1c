use Rattle.smx_model.proofs.Common.{arith}
use Rattle.smx_addresses.proofs.CopyLemmas.{route_next}
use Rattle.smx_addresses.proofs.routes.Routes.copy.Goals as goal

pub loop-route-preserved : goal.loop-route-preserved
loop-route-preserved c = grind (arith, route_next c.deref-route-items.result.now c.loop-route.route-index)
