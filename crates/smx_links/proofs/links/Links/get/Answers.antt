use Rattle.smx_model.proofs.Common.{arith}
use Rattle.smx_links.proofs.KeyLemmas.{lookup_id}
use Rattle.smx_links.proofs.links.Links.get.Goals as goal

pub returns : goal.returns
returns c = grind (arith, lookup_id _ _ c.args.id c.self.invariant)
