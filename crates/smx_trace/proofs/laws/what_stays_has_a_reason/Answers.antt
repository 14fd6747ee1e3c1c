use Rattle.smx_trace.proofs.WaitLemmas.{reason_or_moves}
use Rattle.smx_trace.proofs.laws.what_stays_has_a_reason.Goals as goal

pub returns : goal.returns
returns c = reason_or_moves
