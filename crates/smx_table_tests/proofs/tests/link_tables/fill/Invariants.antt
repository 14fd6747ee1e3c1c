use Rattle.std.proofs.Common.{◌≡◌}
use Rattle.smx_table_tests.proofs.tests.link_tables.fill.Given as goal

abbrev pub invariant-loop-k : goal.invariant-loop-k
invariant-loop-k g l = record { drivers : l.table.drivers ≡ 128 }
