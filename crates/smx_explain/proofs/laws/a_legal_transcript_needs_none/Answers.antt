use Rattle.smx_explain.proofs.ExplanationLemmas.{legal_reported, legal_unexplained, nothing_reported}
use Rattle.smx_explain.proofs.laws.a_legal_transcript_needs_none.Goals as goal

pub returns-clause-legal : goal.returns-clause-legal
returns-clause-legal c =
    legal_reported c.a_transcript_has_one_replay.ensures.one c.replays_are_the_legal_transcripts.ensures.own

pub returns-clause-other : goal.returns-clause-other
returns-clause-other c = nothing_reported c.replays_are_the_legal_transcripts.ensures.legal

pub returns-clause-none : goal.returns-clause-none
returns-clause-none c = legal_unexplained
