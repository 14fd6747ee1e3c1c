use Rattle.smx_model.proofs.UnlawfulLemmas.{many, invalid, one_name}
use Rattle.smx_model.proofs.laws_of_configurations.some_drivers_are_refused.Goals as goal

pub returns-clause-many : goal.returns-clause-many
returns-clause-many c = many

pub returns-clause-invalid : goal.returns-clause-invalid
returns-clause-invalid c = invalid

pub returns-clause-one_name : goal.returns-clause-one_name
returns-clause-one_name c = one_name
