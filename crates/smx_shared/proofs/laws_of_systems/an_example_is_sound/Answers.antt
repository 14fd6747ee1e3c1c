use Rattle.std.proofs.Common.{arith}
use Rattle.smx_shared.proofs.WorkedSystemLemmas.{one_name, with_one}
use Rattle.smx_shared.proofs.laws_of_systems.an_example_is_sound.Goals as goal

pub returns-clause-sound : goal.returns-clause-sound
returns-clause-sound c = with_one c.legal_systems_are_sound.ensures 10 (omega arith) (omega arith)

pub returns-clause-full : goal.returns-clause-full
returns-clause-full c = with_one c.legal_systems_are_sound.ensures 1 (omega arith) (omega arith)

pub returns-clause-not_of_one_name : goal.returns-clause-not_of_one_name
returns-clause-not_of_one_name c = one_name
