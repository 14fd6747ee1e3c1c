-- The waits of a configuration: each queue whose first message can't move, and why.
use Rattle.std.specs.Prelude.{ℕ, ◌&&◌, ◌==◌, if◌then◌else◌, List, [], ◌∷◌, find, Option, Some, None}
use Rattle.std.specs.List.{filter_map, list_any}
use Rattle.std.specs.Option.{option_map_or}
use Rattle.smx_types.specs.declared.driver.DriverSpec.{DriverSpec}
use Rattle.smx_types.specs.declared.link.Link.{Link}
use Rattle.smx_types.specs.declared.link.Route.{Route}
use Rattle.smx_types.specs.declared.stream.Place.{Place}
use Rattle.smx_types.specs.declared.stream.Side.{Side}
use Rattle.smx_types.specs.declared.stream.Side.TheVariants as side
use Rattle.smx_types.specs.declared.stream.StreamId.{StreamId}
use Rattle.smx_model.specs.Configuration.{Configuration, QueuedMessage, is_at, same_stream}
use Rattle.smx_model.specs.DriverList.{is_mux}
use Rattle.smx_model.specs.Hangups.{is_hung}
use Rattle.smx_model.specs.Queues.{first_message, is_full}
use Rattle.smx_model.specs.Settling.{◌>>=◌, next_place}

-- no route for this address; nobody is bound to this address on this driver; this place is full; this stream has hung
-- up; it waits for the device of a leaf, or for a read
pub data Reason : Type 0 where
  NoRoute : ℕ → Reason
  NotBound : ℕ → ℕ → Reason
  FullPlace : Place → Reason
  HungStream : StreamId → Reason
  ForDevice : Reason
  ForRead : Reason

-- the place of a queue, the serial of its first message, and why this can't move
pub record Wait : Type 0 where
  pub place : Place
  pub serial : ℕ
  pub reason : Reason

-- the link that the driver's route for the address names
abbrev pub routed_link : List Link → List Route → ℕ → ℕ → Option Link
routed_link links routes driver addr = do
  r ← find (λ r. (r.driver == driver) && (r.addr == addr)) routes
  find (λ l. l.id == r.id) links

-- the link whose lower stream is this one
abbrev pub link_above : List Link → StreamId → Option Link
link_above links s = find (λ l. same_stream l.lower s) links

-- the reason why a message with this address can't leave this place: it has no next place
abbrev pub reason_of_end : List DriverSpec → Configuration → Place → ℕ → Reason
reason_of_end drivers c p addr = toward p.side where
  toward : Side → Reason
  toward side.Write =
      if is_mux drivers p.stream.driver
      then option_map_or (λ l. HungStream l.lower) (routed_link c.links c.routes p.stream.driver addr) (NoRoute addr)
      else if is_hung c.hungs p.stream then HungStream p.stream else ForDevice
  toward side.Read = option_map_or (λ l. NotBound addr l.ctl.driver) (link_above c.links p.stream) ForRead

-- why a message with this address can't move from this place, by its next place; `None` if it can (STREAMS guide,
-- canput)
abbrev pub reason_at : List DriverSpec → Configuration → Place → ℕ → Option Reason
reason_at drivers c p addr = elim (next_place drivers c p addr) [
  | None ↦ Some (reason_of_end drivers c p addr)
  | Some q ↦ if is_full c q then Some (FullPlace q) else None
]

-- the wait at a place, if it has messages and the first of them can't move
abbrev pub wait_at : List DriverSpec → Configuration → Place → Option Wait
wait_at drivers c p = do
  m ← first_message c.flow p
  why ← reason_at drivers c p m.addr
  Some (record { place = p; serial = m.serial; reason = why })

-- the places with messages, each once: in the order of their last messages
abbrev pub places_in : List QueuedMessage → List Place
places_in [] = []
places_in (h ∷ hs) = if list_any (is_at h.place) hs then places_in hs else h.place ∷ places_in hs

-- all waits of a configuration, in the order of the places
abbrev pub waits : List DriverSpec → Configuration → List Wait
waits drivers c = filter_map (wait_at drivers c) (places_in c.flow)
