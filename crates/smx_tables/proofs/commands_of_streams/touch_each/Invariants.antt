use Rattle.smx_tables.proofs.Common.{◌≡◌, ℕ, ◌<◌, ◌≤◌, true, Some, length, list_any, StreamId, same_stream}
use Rattle.std.proofs.Common.{◌+◌}
use Rattle.std.specs.Prelude.{vec_capacity}
use Rattle.smx_streams.specs.StreamTables.{stream_at}
use Rattle.smx_tables.proofs.commands_of_streams.touch_each.Given as goal

abbrev pub invariant-loop-fd : goal.invariant-loop-fd
invariant-loop-fd l = record {
  named : (n : ℕ) (s : StreamId) → n < l.fd → stream_at l.streams.fds l.process n ≡ Some s
      → list_any (same_stream s) l.touched.items ≡ true;
  few : length l.touched.items ≤ length l.initial.touched.items + l.fd;
  capacity : vec_capacity l.touched ≡ vec_capacity l.initial.touched;
}
