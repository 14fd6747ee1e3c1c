-- Places from which no message moves on: the read side of a stream that is not linked below, and the write side of a
-- leaf driver's stream. So if a message was read or transmitted, the messages after it still don't move on.
use Rattle.smx_config.proofs.Common.{◌≡◌, ℕ, Bool, true, false, List, [], ◌∷◌, None, Some, Ok, refl, arith, list_any}
use Rattle.smx_config.proofs.Common.{DriverSpec, Link, Message, Reply, Place, StreamId, outcome, Configuration}
use Rattle.smx_config.proofs.Common.{same_place, next_of, next_of_first, place_is}
use Rattle.std.proofs.Common.{find}
use Rattle.smx_types.specs.declared.command.Command.TheVariants as command
use Rattle.smx_types.specs.declared.stream.Side.TheVariants as side
use Rattle.smx_model.specs.Configuration.{read_side, write_side}
use Rattle.smx_model.specs.DriverList.{is_mux}
use Rattle.smx_model.specs.Lookups.{free_stream, live_leaf}
use Rattle.smx_model.specs.Standing.{is_below}
use Rattle.smx_model.specs.TurnedPlaces.{of_stream}
use Rattle.smx_tables.proofs.AcceptedLemmas.{bound, free_says, leaf_says}
use Rattle.smx_config.proofs.WayLemmas.{read_keeps}

-- ---- what an accepted lookup says

-- the driver of a live device's stream is not a multiplexing driver
live_is : (drivers : List DriverSpec) (c : Configuration) (name : List ℕ) (minor : ℕ) (s : StreamId)
    → live_leaf drivers c name minor ≡ Ok s → is_mux drivers s.driver ≡ false
live_is drivers c name minor s e = grind (arith, bound, leaf_says)

-- ---- places from which no message moves on

-- if no link passes a test, a search with this test finds no link
none_found : (test : Link → Bool) (links : List Link) → list_any test links ≡ false → find test links ≡ None
none_found test [] h = refl
none_found test (l ∷ ls) h = grind (arith, none_found test ls)

-- if no message has a next place from here, neither has the first message
nowhere_next : (drivers : List DriverSpec) (c : Configuration) (p : Place)
    → ((m : Message) → next_of drivers c p (Some m) ≡ None) → next_of_first drivers c p ≡ None
nowhere_next drivers c p none = grind arith

-- no message goes up from a stream that is not below a link
read_side_stays : (drivers : List DriverSpec) (c : Configuration) (p : Place) → p.side ≡ side.Read
    → is_below c.links p.stream ≡ false → next_of_first drivers c p ≡ None
read_side_stays drivers c p at free = grind (arith, nowhere_next drivers c p, none_found)

-- no message goes down from a leaf driver's stream
write_side_stays : (drivers : List DriverSpec) (c : Configuration) (s : StreamId) → is_mux drivers s.driver ≡ false
    → next_of_first drivers c (write_side s) ≡ None
write_side_stays drivers c s leaf = nowhere_next drivers c (write_side s) (λ m. rw leaf refl)

-- if the first message of a place has no next place, the same is true of a place that is the same
stays_at : (drivers : List DriverSpec) (c : Configuration) (q p : Place) → same_place q p ≡ true
    → next_of_first drivers c q ≡ None → next_of_first drivers c p ≡ None
stays_at drivers c q p same none = grind (arith, place_is q p same)

-- after a read, no message moves on from the place that was read
pub read_stays : (drivers : List DriverSpec) (c : Configuration) (process fd : ℕ) (x : Configuration × Reply)
    (p : Place) → outcome drivers c process (command.Read fd) ≡ Ok x
    → of_stream (free_stream c process fd) (λ s. same_place (read_side s)) p ≡ true
    → next_of_first drivers x.0 p ≡ None
read_stays drivers c process fd x p e t = grind (arith, bound, read_keeps, stays_at, read_side_stays, free_says)

-- after a transmit, no message moves on from the place whose message was taken
pub transmit_stays : (drivers : List DriverSpec) (c : Configuration) (process : ℕ) (name : List ℕ) (minor : ℕ)
    (x : Configuration × Reply) (p : Place) → outcome drivers c process (command.Transmit name minor) ≡ Ok x
    → of_stream (live_leaf drivers c name minor) (λ s. same_place (write_side s)) p ≡ true
    → next_of_first drivers x.0 p ≡ None
transmit_stays drivers c process name minor x p e t = grind (arith, bound, stays_at, write_side_stays, live_is)
