use Rattle.smx_tables.proofs.Common.{◌≡◌, ℕ, ◌+◌, ◌≤◌, ◌++◌, ◌∷◌, [], true, take, vec_capacity, list_all, StreamId}
use Rattle.smx_tables.proofs.Common.{LeavesHungs, holds_below, IsReleasing, is_there_or_touched, is_watched}
use Rattle.smx_tables.proofs.Common.{AreReleased}
use Rattle.std.proofs.Common.{length}
use Rattle.smx_streams.specs.StreamTables.{exists as is_there}
use Rattle.smx_tables.proofs.removal.release_below.Given as goal

abbrev pub invariant-loop-link : goal.invariant-loop-link
invariant-loop-link l = record {
  fds : l.streams.fds ≡ l.initial.streams.fds;
  minors : l.streams.minors ≡ l.initial.streams.minors;
  hungs : LeavesHungs l.initial.streams l.streams;
  there : (s : StreamId) → is_there l.streams s ≡ true → is_there l.initial.streams s ≡ true;
  releasing : (climbs : ℕ) → IsReleasing l.links.links climbs l.streams;
  all : list_all (is_watched l.streams (l.touched.items ++ l.ctl ∷ [])) l.links.links ≡ true;
  so_far : list_all (is_watched l.streams l.touched.items) (take l.link-index l.links.links) ≡ true;
  enough : length l.touched.items + holds_below l.links.links l.streams ≤ vec_capacity l.touched;
  less : length l.touched.items + holds_below l.links.links l.streams
      ≤ length l.initial.touched.items + holds_below l.links.links l.initial.streams;
  touched : (s : StreamId) → is_there_or_touched l.initial.streams l.initial.touched.items s ≡ true
      → is_there_or_touched l.streams l.touched.items s ≡ true;
  gone : AreReleased l.links.links l.streams l.gone.items (vec_capacity l.gone);
}
