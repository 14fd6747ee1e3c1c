use Rattle.smx_trace.proofs.LawLemmas.{one_trace}
use Rattle.smx_trace.proofs.laws.a_transcript_has_one_trace.Goals as goal

pub returns : goal.returns
returns c = one_trace c.a_transcript_has_one_replay.ensures.one
