use Rattle.std.proofs.Common.{arith}
use Rattle.smx_config.proofs.PlaceNumberLemmas.{none_found}
use Rattle.smx_config.proofs.waking.release_place.Goals as goal

pub returns-in_default : goal.returns-in_default
returns-in_default c = grind (arith, none_found)
