use Rattle.std.proofs.Common.{length}
use Rattle.smx_explain.proofs.ColumnLemmas.{HasCome}
use Rattle.smx_explain.proofs.columns.column_of.Given as goal
use Rattle.smx_explain.specs.Columns.{left_of}

abbrev pub invariant-words : goal.invariant-words
invariant-words l = HasCome l.fn.kind l.version l.fn.line l.column l.rest l.row.values.now l.row.next

abbrev pub decreases-words : goal.decreases-words
decreases-words l = length (left_of l.rest)
