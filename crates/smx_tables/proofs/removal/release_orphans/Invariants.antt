use Rattle.smx_tables.proofs.Common.{◌≡◌, ◌+◌, ◌≤◌, ◌||◌, true, list_any, vec_capacity, StreamId, same_stream}
use Rattle.smx_tables.proofs.Common.{LeavesHungs, holds_below, is_there_or_touched, AreReleased}
use Rattle.std.proofs.Common.{length}
use Rattle.smx_tables.specs.TouchedStreams.{IsCascade}
use Rattle.smx_tables.proofs.removal.release_orphans.Given as goal

abbrev pub decreases-loop-stream : goal.decreases-loop-stream
decreases-loop-stream l = length l.touched.items + holds_below l.links.links l.streams

abbrev pub invariant-loop-stream : goal.invariant-loop-stream
invariant-loop-stream l = record {
  fds : l.streams.fds ≡ l.initial.streams.fds;
  minors : l.streams.minors ≡ l.initial.streams.minors;
  hungs : LeavesHungs l.initial.streams l.streams;
  cascade : IsCascade l.links.links l.streams l.touched.items (vec_capacity l.touched);
  room : length l.seen.items + (length l.touched.items + holds_below l.links.links l.streams)
      ≤ vec_capacity l.seen;
  seen : (s : StreamId) → is_there_or_touched l.initial.streams l.initial.touched.items s ≡ true
      → (is_there_or_touched l.streams l.touched.items s || list_any (same_stream s) l.seen.items) ≡ true;
  gone : AreReleased l.links.links l.streams l.gone.items (vec_capacity l.gone);
}
