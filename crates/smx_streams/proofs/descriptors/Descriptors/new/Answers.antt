use Rattle.smx_streams.proofs.RowOrderLemmas.{none_listed, rows_empty}
use Rattle.smx_streams.proofs.descriptors.Descriptors.new.Goals as goal

pub invariant_of-result : goal.invariant_of-result
invariant_of-result c = rw c.in_ok-new_rows.ensures rows_empty

pub returns : goal.returns
returns c = rw c.in_ok-new_rows.ensures (none_listed 0 64)
