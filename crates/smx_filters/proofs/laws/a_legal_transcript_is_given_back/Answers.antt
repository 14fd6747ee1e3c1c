use Rattle.smx_filters.proofs.ReplayTextLemmas.{given_back}
use Rattle.smx_filters.proofs.laws.a_legal_transcript_is_given_back.Goals as goal

pub returns : goal.returns
returns c = given_back c.one_transcript_has_one_reading.ensures c.a_transcript_has_one_replay.ensures.one
    c.replays_are_the_legal_transcripts.ensures.own
