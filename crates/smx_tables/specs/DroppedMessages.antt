-- Messages that a change drops.
use Rattle.std.specs.Prelude.{◌≡◌, ◌≢◌, ℕ, ◌+◌, ◌≤◌, Bool, ◌&&◌, not, List, filter, length, vec_capacity, Vec}
use Rattle.std.specs.List.{AllPairs}
use Rattle.std.specs.List.Sorted.{IsPermutation}
use Rattle.smx_types.specs.declared.command.Sides.{Sides}
use Rattle.smx_types.specs.declared.reply.Reply.{Reply}
use Rattle.smx_types.specs.declared.reply.Reply.TheVariants.{Done}
use Rattle.smx_types.specs.declared.stream.Place.{Place}
use Rattle.smx_types.specs.declared.stream.Side.{Side}
use Rattle.smx_types.specs.declared.stream.StreamId.{StreamId}
use Rattle.smx_model.specs.Commands.{is_side}
use Rattle.smx_model.specs.Configuration.{QueuedMessage, same_side, same_stream}
use Rattle.smx_model.specs.Removal.{serials, serials_that_left}
use Rattle.smx_queues.specs.FlowTables.{FlowLists}

-- the new messages are the old ones that pass some test, and the list has the serials of the others, in some order
pub record AreDropped (old new : List QueuedMessage) (dropped : List ℕ) : Type 0 where
  pub keep : QueuedMessage → Bool
  pub left : new ≡ filter keep old
  pub gone : IsPermutation (serials (filter (λ h. not (keep h)) old)) dropped

-- for any old messages: if they were split into the dropped ones, with serials `dropped`, and the rest `flow`, they are
-- now split into those with serials `more` and the rest `left`
abbrev pub DropsMore : List QueuedMessage → List ℕ → List QueuedMessage → List ℕ → Type 0
DropsMore flow dropped left more = (old : List QueuedMessage) → AreDropped old flow dropped → AreDropped old left more

-- the list has room for the serials of a flow
abbrev pub HasRoom : {A : Type 0} → Vec ℕ A → List QueuedMessage → Type 0
HasRoom dropped flow = length dropped.items + length flow ≤ vec_capacity dropped

-- the places that pass the test have lost their messages and full marks, and the list names all dropped messages
pub record EmptiesPlaces {A : Type 0} (goes : Place → Bool) (old : FlowLists) (before : Vec ℕ A)
    (new : FlowLists) (after : Vec ℕ A) : Type 0 where
  pub flow : new.flow ≡ filter (λ h. not (goes h.place)) old.flow
  pub fulls : new.fulls ≡ filter (λ p. not (goes p)) old.fulls
  pub drivers : new.drivers ≡ old.drivers
  pub dropped : DropsMore old.flow before.items new.flow after.items
  pub room : HasRoom after new.flow

-- for any old messages of which no two have the same serial: the reply names those that are gone, in rising order
abbrev pub NamesDropped : List QueuedMessage → List ℕ → List QueuedMessage → Reply → Type 0
NamesDropped flow dropped left reply = (old : List QueuedMessage) → AllPairs (λ m n. m ≢ n) (serials old)
    → AreDropped old flow dropped → reply ≡ Done (serials_that_left old left)

-- the place is this side of the stream, and the side is named
abbrev pub is_flushed_at : StreamId → Sides → Side → Place → Bool
is_flushed_at stream sides side place =
    is_side sides side && (same_stream place.stream stream && same_side place.side side)
