use Rattle.smx_session.proofs.HistoryLemmas.{ends, grows}
use Rattle.smx_session.proofs.laws_of_sessions.what_is_written_is_a_transcript.Goals as goal

pub returns-clause-grows : goal.returns-clause-grows
returns-clause-grows c = grows

pub returns-clause-ends : goal.returns-clause-ends
returns-clause-ends c = ends
