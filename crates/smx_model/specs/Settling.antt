-- Settling: messages move on through the multiplexers until none can.
use Rattle.std.specs.Prelude.{◌≡◌, ℕ, zero, suc, ◌*◌, Bool, false, ◌&&◌, ◌==◌, List, length, find, Option, Some, None}
use Rattle.std.specs.Prelude.{if◌then◌else◌}
use Rattle.std.specs.Option.{is_some, option_map}
use Rattle.smx_types.specs.declared.driver.DriverSpec.{DriverSpec}
use Rattle.smx_types.specs.declared.link.Binding.{Binding}
use Rattle.smx_types.specs.declared.link.Link.{Link}
use Rattle.smx_types.specs.declared.link.Route.{Route}
use Rattle.smx_types.specs.declared.message.Message.{Message}
use Rattle.smx_types.specs.declared.stream.Place.{Place}
use Rattle.smx_types.specs.declared.stream.Side.{Side}
use Rattle.smx_types.specs.declared.stream.Side.TheVariants as side
use Rattle.smx_types.specs.declared.stream.StreamId.{StreamId}
use Rattle.smx_model.specs.Configuration.{Configuration, read_side, same_stream, write_side}
use Rattle.smx_model.specs.DriverList.{is_mux}
use Rattle.smx_model.specs.Hangups.{is_hung}
use Rattle.smx_model.specs.Queues.{is_full, first_message, after_arrival, after_leaving}

-- applies a function to a value, if there is one
infixl 10 ◌>>=◌
abbrev pub ◌>>=◌ : {A B : Type 0} → Option A → (A → Option B) → Option B
None >>= f = None
(Some x) >>= f = f x

-- the write side of a stream, unless its device has hung up
abbrev pub live_write_side : List StreamId → StreamId → Option Place
live_write_side hungs s = if is_hung hungs s then None else Some (write_side s)

-- down along the driver's route for the address: the lower stream of the link that the route names
abbrev pub place_below : List Link → List Route → List StreamId → ℕ → ℕ → Option Place
place_below links routes hungs driver addr = do
  r ← find (λ r. (r.driver == driver) && (r.addr == addr)) routes
  l ← find (λ l. l.id == r.id) links
  live_write_side hungs l.lower

-- up along a binding: the read side of the stream that is bound to the address on the upper driver of the link above
abbrev pub place_above : List Link → List Binding → StreamId → ℕ → Option Place
place_above links binds s addr = do
  l ← find (λ l. same_stream l.lower s) links
  b ← find (λ b. (b.driver == l.ctl.driver) && (b.addr == addr)) binds
  Some (read_side (record { driver = b.driver; minor = b.minor }))

-- the next place of a message with this address: down from a multiplexer's write side, up from a read side (similar
-- to the internet driver in the STREAMS guide)
abbrev pub next_place : List DriverSpec → Configuration → Place → ℕ → Option Place
next_place drivers c p addr = toward p.side where
  toward : Side → Option Place
  toward side.Write =
      if is_mux drivers p.stream.driver then place_below c.links c.routes c.hungs p.stream.driver addr else None
  toward side.Read = place_above c.links c.binds p.stream addr

-- the place that the first message of a place may move to: its next place, unless that is full (STREAMS guide, canput)
abbrev pub next_open_place : List DriverSpec → Configuration → Place → Option Place
next_open_place drivers c p = do
  m ← first_message c.flow p
  q ← next_place drivers c p m.addr
  if is_full c q then None else Some q

-- the first message of the place has a next place that is not full
abbrev pub is_movable : List DriverSpec → Configuration → Place → Bool
is_movable drivers c p = is_some (next_open_place drivers c p)

-- the first movable place of the flow, which is the least one, since places rise in the flow
abbrev pub least_movable : List DriverSpec → Configuration → Option Place
least_movable drivers c = option_map (λ h. h.place) (find (λ h. is_movable drivers c h.place) c.flow)

-- a message moves from one place to another, if both exist
abbrev pub after_move_to : List DriverSpec → Configuration → Place → Option Place → Option Message → Configuration
after_move_to drivers c p (Some q) (Some m) = after_arrival drivers (after_leaving drivers c p) q m
after_move_to drivers c p to m = c

-- the configuration with the first message of one place moved to the end of another's queue
abbrev pub after_move_between : List DriverSpec → Configuration → Place → Place → Configuration
after_move_between drivers c p q = after_move_to drivers c p (Some q) (first_message c.flow p)

-- the first message of a place leaves it and arrives at its next place
abbrev pub after_move : List DriverSpec → Configuration → Place → Configuration
after_move drivers c p = after_move_to drivers c p (next_open_place drivers c p) (first_message c.flow p)

-- at most n moves, each from the least movable place
abbrev pub after_settling_within : List DriverSpec → ℕ → Configuration → Configuration
after_settling_within drivers zero c = c
after_settling_within drivers (suc n) c =
    elim (least_movable drivers c) [ None ↦ c | Some p ↦ after_settling_within drivers n (after_move drivers c p) ]

-- as many moves as there are messages times drivers (similar to the joining of both sides in the guide)
abbrev pub after_settling : List DriverSpec → Configuration → Configuration
after_settling drivers c = after_settling_within drivers (length c.flow * length drivers) c

-- no place is movable
abbrev pub IsSettled : List DriverSpec → Configuration → Type 0
IsSettled drivers c = (p : Place) → is_movable drivers c p ≡ false
