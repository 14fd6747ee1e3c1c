use Rattle.std.proofs.Common.{[], ◌∷◌, refl}
use Rattle.smx_model.specs.Worked.Common.{CloseAll, Dup}
use Rattle.smx_run.proofs.laws_of_runs.calls_of_an_example.Goals as goal

pub returns-clause-the_first : goal.returns-clause-the_first
returns-clause-the_first c = ((0, Dup 0) ∷ (1, CloseAll) ∷ [], refl)
