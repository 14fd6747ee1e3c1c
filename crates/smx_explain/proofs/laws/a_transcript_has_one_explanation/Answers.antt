use Rattle.smx_explain.proofs.OneExplanationLemmas.{one_explanation}
use Rattle.smx_explain.proofs.laws.a_transcript_has_one_explanation.Goals as goal

pub returns : goal.returns
returns c = one_explanation c.a_transcript_has_one_replay.ensures.one
