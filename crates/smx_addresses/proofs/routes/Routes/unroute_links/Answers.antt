use Rattle.smx_model.proofs.Common.{sym, arith}
use Rattle.smx_addresses.proofs.RouteLemmas.{unlinked_next, unlinked_none}
use Rattle.smx_addresses.proofs.routes.Routes.unroute_links.Goals as goal

pub loop-id-init : goal.loop-id-init
loop-id-init c = sym (unlinked_none c.args.self.now)

pub loop-id-preserved : goal.loop-id-preserved
loop-id-preserved c = grind (arith, unlinked_next c.args.self.now c.args.ids.now c.loop-id.id-index c.loop-id-test.true)
