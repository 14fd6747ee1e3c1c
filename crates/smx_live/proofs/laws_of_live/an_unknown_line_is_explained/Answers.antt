use Rattle.smx_live.proofs.AskedLineLemmas.{no_request}
use Rattle.smx_live.proofs.laws_of_live.an_unknown_line_is_explained.Goals as goal

pub returns : goal.returns
returns c = λ version count line refused none.
    no_request version count line refused (c.a_line_has_one_explanation.ensures.other version line none)
