use Rattle.std.proofs.Common.{arith}
use Rattle.smx_config.proofs.NextPlaceLemmas.{next_known}
use Rattle.smx_config.proofs.PlaceNumberLemmas.{one_place}
use Rattle.smx_config.proofs.WayLemmas.{way_to}
use Rattle.smx_config.proofs.hops.look_up.Goals as goal

pub returns : goal.returns
returns c = grind (arith, one_place, next_known, way_to)
