-- Columns, to be typed in.
use Rattle.std.specs.Prelude.{ℕ}
use Rattle.smx_explain.specs.declared.kinds.Choice.{Choice}
use Rattle.smx_explain.specs.declared.kinds.Value.{Value}
use Rattle.smx_explain.specs.declared.kinds.Wanted.TheVariants as wanted
use Rattle.smx_explain.specs.declared.columns.LineColumn.{LineColumn}

-- a value is expected in this column
abbrev pub value_at : ℕ → Value → LineColumn
value_at column value = record { column = column; wanted = wanted.Value value }

-- one of some fixed words is expected in this column
abbrev pub choice_at : ℕ → Choice → LineColumn
choice_at column choice = record { column = column; wanted = wanted.Choice choice }
