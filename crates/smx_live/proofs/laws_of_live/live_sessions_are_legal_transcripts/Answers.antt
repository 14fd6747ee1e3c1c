use Rattle.smx_live.proofs.LegalLiveLemmas.{is_legal}
use Rattle.smx_live.proofs.laws_of_live.live_sessions_are_legal_transcripts.Goals as goal

pub returns : goal.returns
returns c = λ explain read ended output o. is_legal c.one_entry_more.ensures.legal
    c.without_a_hangup_none_is_reported.ensures.replies c.without_a_hangup_none_is_reported.ensures.streams o
