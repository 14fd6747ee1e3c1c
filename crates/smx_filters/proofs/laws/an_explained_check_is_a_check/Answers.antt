use Rattle.smx_filters.proofs.ExplainLawLemmas.{is_check}
use Rattle.smx_filters.proofs.laws.an_explained_check_is_a_check.Goals as goal

pub returns : goal.returns
returns c = is_check c.a_legal_transcript_needs_none.ensures.legal
