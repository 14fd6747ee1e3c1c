use Rattle.smx_trace.proofs.LawLemmas.{transcript_lines}
use Rattle.smx_trace.proofs.laws.a_trace_has_the_lines_of_the_transcript.Goals as goal

pub returns : goal.returns
returns c = transcript_lines
