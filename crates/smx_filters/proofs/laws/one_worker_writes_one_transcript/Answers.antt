use Rattle.smx_filters.proofs.AnswerLemmas.{in_turn_once}
use Rattle.smx_filters.proofs.laws.one_worker_writes_one_transcript.Goals as goal

pub returns : goal.returns
returns c = in_turn_once
