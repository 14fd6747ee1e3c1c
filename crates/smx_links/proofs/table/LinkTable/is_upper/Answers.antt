use Rattle.smx_model.proofs.Common.{arith}
use Rattle.smx_links.proofs.UpperLemmas.{any_is_upper}
use Rattle.smx_links.proofs.table.LinkTable.is_upper.Goals as goal

pub returns-clause-value : goal.returns-clause-value
returns-clause-value c = grind (arith, any_is_upper)
