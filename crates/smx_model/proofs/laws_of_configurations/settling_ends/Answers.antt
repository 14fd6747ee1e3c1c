use Rattle.smx_model.proofs.KeptLemmas.{always_is_kept}
use Rattle.smx_model.proofs.laws_of_configurations.settling_ends.Goals as goal

pub returns : goal.returns
returns c = λ drivers history. (always_is_kept drivers history).settled
