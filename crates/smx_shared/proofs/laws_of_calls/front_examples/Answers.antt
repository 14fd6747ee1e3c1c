use Rattle.std.proofs.Common.{refl}
use Rattle.smx_shared.specs.Fronts.{front_of}
use Rattle.smx_shared.proofs.laws_of_calls.front_examples.Goals as goal

pub returns-clause-word : goal.returns-clause-word
unfolding front_of
returns-clause-word c = refl
