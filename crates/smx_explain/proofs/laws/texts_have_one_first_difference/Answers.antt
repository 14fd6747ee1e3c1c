use Rattle.smx_explain.proofs.LineLemmas.{not_both, one_difference, one_first_line}
use Rattle.smx_explain.proofs.laws.texts_have_one_first_difference.Goals as goal

pub returns-clause-one : goal.returns-clause-one
returns-clause-one c = one_difference

pub returns-clause-not_both : goal.returns-clause-not_both
returns-clause-not_both c = not_both

pub returns-clause-line : goal.returns-clause-line
returns-clause-line c = one_first_line
