use Rattle.smx_live.proofs.OneOutputLemmas.{one_output}
use Rattle.smx_live.proofs.laws_of_live.a_session_has_one_output.Goals as goal

pub returns : goal.returns
returns c =
    one_output c.one_text_has_one_reading.ensures c.one_value_each.ensures.call
    c.a_line_has_one_explanation.ensures.one
