use Rattle.smx_model.proofs.SweptLemmas.{swept_once}
use Rattle.smx_model.proofs.laws_of_configurations.outcomes_are_swept.Goals as goal

pub returns : goal.returns
returns c = λ drivers d process k h. swept_once drivers d process k h.swept
