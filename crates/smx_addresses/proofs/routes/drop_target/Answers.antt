use Rattle.smx_model.proofs.Common.{arith}
use Rattle.smx_addresses.proofs.TargetLemmas.{no_set}
use Rattle.smx_addresses.proofs.routes.drop_target.Goals as goal

pub returns-in_default : goal.returns-in_default
returns-in_default c = grind (arith, no_set)
