-- Places whose first message waits, and marks for the places whose first message may not.
use Rattle.std.specs.Prelude.{◌≡◌, ◌⊎◌, ℕ, Bool, true, false, ◌&&◌, ◌||◌, not, ◌==◌, List, Option, Some, None}
use Rattle.std.specs.List.{list_any}
use Rattle.std.specs.Option.{is_some}
use Rattle.smx_types.specs.declared.driver.DriverSpec.{DriverSpec}
use Rattle.smx_types.specs.declared.message.Message.{Message}
use Rattle.smx_types.specs.declared.stream.Place.{Place}
use Rattle.smx_types.specs.declared.stream.Side.TheVariants as side
use Rattle.smx_types.specs.declared.stream.StreamId.{StreamId}
use Rattle.smx_model.specs.Configuration.{Configuration, place_before, same_place, same_side, same_stream}
use Rattle.smx_model.specs.Queues.{after_leaving, first_message, is_full}
use Rattle.smx_model.specs.Settling.{next_open_place, next_place}

-- the place that a message goes to next, full or not; `None` if there is no message or no such place
abbrev pub next_of : List DriverSpec → Configuration → Place → Option Message → Option Place
next_of drivers c p None = None
next_of drivers c p (Some m) = next_place drivers c p m.addr

-- the place that the first message of a place goes to next
abbrev pub next_of_first : List DriverSpec → Configuration → Place → Option Place
next_of_first drivers c p = next_of drivers c p (first_message c.flow p)

-- there is no next place, or the next place is full and has a wanted mark
abbrev pub is_held_up : Configuration → (Place → Bool) → Option Place → Bool
is_held_up c wanted None = true
is_held_up c wanted (Some q) = is_full c q && wanted q

-- the place waits: its first message has no next place, or a full one with a wanted mark
abbrev pub is_waiting : List DriverSpec → Configuration → (Place → Bool) → Place → Bool
is_waiting drivers c wanted p = is_held_up c wanted (next_of_first drivers c p)

-- each place without a run mark waits. So each movable place has a run mark. Each full place that blocks the first
-- message of a place without a run mark has a wanted mark (similar to back-enabling in the STREAMS guide)
abbrev pub AreMarked : List DriverSpec → Configuration → (Place → Bool) → (Place → Bool) → Type 0
AreMarked drivers c run wanted = (p : Place) → run p ≡ false → is_waiting drivers c wanted p ≡ true

-- the least place with a run mark
pub record IsLeastMarked (run : Place → Bool) (p : Place) : Type 0 where
  pub marked : run p ≡ true
  pub none_before : (q : Place) → place_before q p ≡ true → run q ≡ false

-- no place
abbrev pub nowhere : Place → Bool
nowhere p = false

-- a place of either kind
abbrev pub either : (Place → Bool) → (Place → Bool) → Place → Bool
either these those p = these p || those p

-- the place was full and is not full any more
abbrev pub is_freed : Configuration → Configuration → Place → Bool
is_freed old new p = is_full old p && not (is_full new p)

-- the next place is the same as before, or there is no next place any more
abbrev pub Stays : Option Place → Option Place → Type 0
Stays was now = (now ≡ was) ⊎ (now ≡ None)

-- except at the turned places, the first message of each place goes where the first one went before, or nowhere
abbrev pub TurnsOnly : List DriverSpec → Configuration → Configuration → (Place → Bool) → Type 0
TurnsOnly drivers old new turned =
    (p : Place) → turned p ≡ false → Stays (next_of_first drivers old p) (next_of_first drivers new p)

-- a message that arrives at this place is its first one
abbrev pub is_first_at : Configuration → Place → Place → Bool
is_first_at c p q = same_place p q && not (is_some (first_message c.flow p))

-- after the first message left a place, its arrival turns the place where it arrives, if that was empty
abbrev pub is_first_there : List DriverSpec → Configuration → Place → Option Place → Place → Bool
is_first_there drivers c p None = nowhere
is_first_there drivers c p (Some q) = is_first_at (after_leaving drivers c p) q

-- a move turns the place that the message leaves, and the place that it goes to, if that was empty
abbrev pub turned_by_move : List DriverSpec → Configuration → Place → Place → Bool
turned_by_move drivers c p = either (same_place p) (is_first_there drivers c p (next_open_place drivers c p))

-- the message has this address
abbrev pub has_addr : ℕ → Option Message → Bool
has_addr addr None = false
has_addr addr (Some m) = m.addr == addr

-- the first message at a write side of the driver has this address
abbrev pub asks_down : Configuration → ℕ → ℕ → Place → Bool
asks_down c driver addr p =
    (same_side p.side side.Write && (p.stream.driver == driver)) && has_addr addr (first_message c.flow p)

-- the stream is below a link of the driver
abbrev pub is_below_driver : Configuration → ℕ → StreamId → Bool
is_below_driver c driver s = list_any (λ l. same_stream l.lower s && (l.ctl.driver == driver)) c.links

-- the first message at the read side of a stream below a link of the driver has this address
abbrev pub asks_up : Configuration → ℕ → ℕ → Place → Bool
asks_up c driver addr p =
    (same_side p.side side.Read && is_below_driver c driver p.stream) && has_addr addr (first_message c.flow p)
