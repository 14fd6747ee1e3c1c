use Rattle.smx_tables.proofs.Common.{◌≡◌, ◌+◌, ◌≤◌, true, take, vec_capacity, StreamId, others_of, LeavesHungs}
use Rattle.smx_tables.proofs.Common.{AreHeld, is_there_or_touched}
use Rattle.std.proofs.Common.{length}
use Rattle.smx_streams.specs.StreamTables.{exists as is_there}
use Rattle.smx_tables.proofs.removal.release_each.Given as goal

abbrev pub invariant-loop-id : goal.invariant-loop-id
invariant-loop-id l = record {
  held : AreHeld (others_of (take l.id-index l.gone) l.links.links) l.streams;
  fds : l.streams.fds ≡ l.initial.streams.fds;
  minors : l.streams.minors ≡ l.initial.streams.minors;
  hungs : LeavesHungs l.initial.streams l.streams;
  touched : (s : StreamId) → is_there l.initial.streams s ≡ true
      → is_there_or_touched l.streams l.touched.items s ≡ true;
  few : length l.touched.items ≤ length l.initial.touched.items + l.id-index;
  capacity : vec_capacity l.touched ≡ vec_capacity l.initial.touched;
}
