use Rattle.smx_filters.proofs.CheckTextLemmas.{judged_answers, text_not_judged}
use Rattle.smx_filters.proofs.check.judge.Goals as goal

pub returns-in_err-transcript : goal.returns-in_err-transcript
returns-in_err-transcript c =
    text_not_judged _ _ c.as_slice.ensures.value c.in_err-transcript.field-0.0 _ c.from_residual.ensures.1
    c.in_err-transcript.ensures

pub returns : goal.returns
returns c =
    judged_answers _ _ c.as_slice.ensures.value c.in_ok-transcript.transcript c.in_ok-transcript.ensures
    c.judged.result c.judged.ensures.judged c.judged.ensures.refused
