-- Waiting places, and changes that keep a place waiting.
use Rattle.smx_model.proofs.Common.{◌≡◌, ℕ, Bool, true, false, ◌&&◌, not, List, [], ◌∷◌, ◌++◌, Option, Some, None, refl}
use Rattle.smx_model.proofs.Common.{◌∙◌, is_some, slice_get, if◌then◌else◌, and_parts, false≢true, DriverSpec, Message}
use Rattle.smx_model.proofs.Common.{Place, Side, StreamId, Configuration, QueuedMessage, queued_before, is_at}
use Rattle.smx_model.proofs.Common.{same_place, is_mux, IsInOrder, with_inserted, without_first, first_message, is_full}
use Rattle.smx_model.proofs.Common.{next_of_first, is_movable, next_place, place_above, place_below, arith}
use Rattle.smx_types.specs.declared.stream.Side.TheVariants as side
use Rattle.smx_model.specs.RunMarks.{is_held_up, is_waiting}
use Rattle.smx_model.specs.Settling.{◌>>=◌}
use Rattle.smx_model.proofs.QueueLemmas.{arrived_queue, left_queue, front_is}
use Rattle.smx_model.proofs.SettlingLemmas.{same_place_is}

-- the next place by the stream and the side
abbrev pub next_by : List DriverSpec → Configuration → StreamId → ℕ → Side → Option Place
next_by drivers c s addr side.Write =
    if is_mux drivers s.driver then place_below c.links c.routes c.hungs s.driver addr else None
next_by drivers c s addr side.Read = place_above c.links c.binds s addr

-- the next place from a place is the one from its stream and its side
pub next_is : (drivers : List DriverSpec) (c : Configuration) (p : Place) (addr : ℕ)
    → next_place drivers c p addr ≡ next_by drivers c p.stream addr p.side
next_is drivers c p addr = grind arith

-- with the same links, routes, bindings and hung-up streams, the next place by stream and side is the same
next_same : (drivers : List DriverSpec) (c d : Configuration) (s : StreamId) (addr : ℕ) (x : Side) → d.links ≡ c.links
    → d.routes ≡ c.routes → d.binds ≡ c.binds → d.hungs ≡ c.hungs
    → next_by drivers d s addr x ≡ next_by drivers c s addr x
next_same drivers c d s addr side.Write l r b u = rw (l, r, u) refl
next_same drivers c d s addr side.Read l r b u = rw (l, b) refl

-- with the same links, routes, bindings and hung-up streams, a first message that stays goes where it went
pub next_of_same : (drivers : List DriverSpec) (c d : Configuration) (p : Place) → d.links ≡ c.links
    → d.routes ≡ c.routes → d.binds ≡ c.binds → d.hungs ≡ c.hungs → first_message d.flow p ≡ first_message c.flow p
    → next_of_first drivers d p ≡ next_of_first drivers c p
next_of_same drivers c d p l r b u f = grind arith

-- a place, unless it is full
abbrev pub if_open : Configuration → Option Place → Option Place
if_open c o = o >>= (λ q. if is_full c q then None else Some q)

-- a place is movable exactly if its first message has a next place that isn't full
pub movable_by : (drivers : List DriverSpec) (c : Configuration) (p : Place)
    → is_movable drivers c p ≡ is_some (if_open c (next_of_first drivers c p))
movable_by drivers c p = grind arith

-- if a message is blocked, its next place isn't open
waits_not_open : (c : Configuration) (wanted : Place → Bool) (o : Option Place) → is_held_up c wanted o ≡ true
    → is_some (if_open c o) ≡ false
waits_not_open c wanted None h = refl
waits_not_open c wanted (Some q) h = rw (and_parts (is_full c q) (wanted q) h).0 refl

-- a place that waits isn't movable
pub waiting_stays : (drivers : List DriverSpec) (c : Configuration) (wanted : Place → Bool) (p : Place)
    → is_waiting drivers c wanted p ≡ true → is_movable drivers c p ≡ false
waiting_stays drivers c wanted p h = movable_by drivers c p ∙ waits_not_open c wanted (next_of_first drivers c p) h

-- when the first message leaves a place, that of another place stays
pub first_left : (flow : List QueuedMessage) (p r : Place) → same_place p r ≡ false
    → first_message (without_first (is_at p) flow) r ≡ first_message flow r
first_left flow p r f = grind (arith, front_is (without_first (is_at p) flow) r, left_queue flow p r, front_is flow r)

-- if there are messages, the first of them is the first with one more at the end
first_stays : (ms : List Message) (m : Message) → is_some (slice_get ms 0) ≡ true
    → slice_get (ms ++ m ∷ []) 0 ≡ slice_get ms 0
first_stays [] m h = absurd (false≢true h)
first_stays (k ∷ ks) m h = refl

-- an arriving message keeps each first message, except at its own place if that was empty
pub first_arrived : (flow : List QueuedMessage) (q r : Place) (m : Message) → IsInOrder flow
    → (same_place q r && not (is_some (first_message flow q))) ≡ false
    → first_message (with_inserted queued_before flow (record { place = q; message = m })) r ≡ first_message flow r
first_arrived flow q r m o asleep = grind (arith, front_is, arrived_queue, first_stays, same_place_is)
