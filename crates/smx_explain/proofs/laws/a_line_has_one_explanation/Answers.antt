use Rattle.smx_explain.proofs.SessionLineLemmas.{nothing_explained, one_explanation}
use Rattle.smx_explain.proofs.laws.a_line_has_one_explanation.Goals as goal

pub returns-clause-one : goal.returns-clause-one
returns-clause-one c = one_explanation

pub returns-clause-other : goal.returns-clause-other
returns-clause-other c = nothing_explained
