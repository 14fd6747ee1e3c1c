use Rattle.smx_filters.proofs.ReplayTextLemmas.{judged_legal, one_replay}
use Rattle.smx_filters.proofs.laws.a_replay_is_one_legal_transcript.Goals as goal

pub returns-clause-legal : goal.returns-clause-legal
returns-clause-legal c = judged_legal c.replays_are_the_legal_transcripts.ensures.legal

pub returns-clause-one : goal.returns-clause-one
returns-clause-one c = one_replay c.one_transcript_has_one_reading.ensures c.a_transcript_has_one_replay.ensures.one
