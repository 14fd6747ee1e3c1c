use Rattle.smx_model.proofs.HungStreamLemmas.{others_leave_hungs}
use Rattle.smx_model.proofs.laws_of_configurations.hung_up_streams_go_with_their_end.Goals as goal

pub returns : goal.returns
returns c = λ drivers d process k h other. others_leave_hungs drivers d process k h.sound.swept other
