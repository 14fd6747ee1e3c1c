use Rattle.smx_explain.proofs.OneColumnLemmas.{not_both, same_column}
use Rattle.smx_explain.proofs.laws.a_line_has_one_column.Goals as goal

pub returns-clause-column : goal.returns-clause-column
returns-clause-column c = same_column

pub returns-clause-not_both : goal.returns-clause-not_both
returns-clause-not_both c = not_both
