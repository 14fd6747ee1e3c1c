use Rattle.std.proofs.Common.{◌≡◌}
use Rattle.smx_shared_tests.proofs.tests.stage.calls_often.Given as goal

abbrev pub invariant-loop : goal.invariant-loop
invariant-loop g l = record { shared : l.seat.shared ≡ l.shared.name }
