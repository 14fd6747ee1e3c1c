-- The memory that is reserved for a sweep.
use Rattle.std.specs.Prelude.{◌≡◌, ℕ, ◌+◌, ◌≤◌, List, [], length, vec_capacity}
use Rattle.smx_types.specs.declared.link.Link.{Link}
use Rattle.smx_model.specs.Configuration.{QueuedMessage}
use Rattle.smx_tables.specs.DroppedMessages.{HasRoom}
use Rattle.smx_tables.specs.declared.sweep.SweepReserve.{SweepReserve}

-- room in both lists of streams for the touched streams, this number of further ones, and one for each link; room for
-- the ids of the links, and for the serials of these messages; no stream is seen and no id is listed yet
pub record IsReserveFor (streams : ℕ) (links : List Link) (flow : List QueuedMessage) (r : SweepReserve) : Type 0 where
  pub touched_room : length r.touched.items + (streams + length links) ≤ vec_capacity r.touched
  pub seen_empty : r.seen.items ≡ []
  pub seen_room : length r.touched.items + (streams + length links) ≤ vec_capacity r.seen
  pub orphaned_empty : r.orphaned.items ≡ []
  pub orphaned_room : length links ≤ vec_capacity r.orphaned
  pub dropped_room : HasRoom r.dropped flow
