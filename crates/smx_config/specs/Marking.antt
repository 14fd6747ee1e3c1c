-- Run marks, wanted marks and waiting places, by the numbers of places, and how a change sets and clears marks. No
-- public clause needs this.
use Rattle.std.specs.Prelude.{◌≡◌, ◌≢◌, ◌⊎◌, ℕ, suc, ◌<◌, ◌≤◌, Bool, true, false, ◌&&◌, ◌==◌, List, length}
use Rattle.std.specs.Prelude.{None, Some, slice_get}
use Rattle.smx_types.specs.declared.driver.DriverSpec.{DriverSpec}
use Rattle.smx_types.specs.declared.stream.Place.{Place}
use Rattle.smx_types.specs.declared.stream.Side.{Side}
use Rattle.smx_model.specs.Configuration.{Configuration, QueuedMessage, same_side}
use Rattle.smx_model.specs.Queues.{first_message, is_full}
use Rattle.smx_model.specs.RunMarks.{asks_up, has_addr, next_of_first}
use Rattle.smx_queues.specs.Bits.{BitTable, has_bit}
use Rattle.smx_queues.specs.PlaceLists.{places_of}
use Rattle.smx_queues.specs.Rings.{at}
use Rattle.smx_config.specs.declared.marks.Marks.{Marks}

-- the place has this number
abbrev pub IsAt : List DriverSpec → ℕ → Place → Type 0
IsAt drivers n p = slice_get (places_of drivers) n ≡ Some p

-- some place has this number
abbrev pub IsNumber : List DriverSpec → ℕ → Type 0
IsNumber drivers n = n < length (places_of drivers)

-- the marks are for this count of numbers
pub record AreFor (count : ℕ) (m : Marks) : Type 0 where
  pub run : m.run.count ≡ count
  pub wanted : m.wanted.count ≡ count
  pub waits : m.waits.count ≡ count
  pub many : count ≤ length m.waits.owners

-- there are marks for the places of these drivers
abbrev pub AreOver : List DriverSpec → Marks → Type 0
AreOver drivers m = AreFor (length (places_of drivers)) m

-- the marks note that the place with the first number waits for the place with the second
abbrev pub IsNotedFor : Marks → ℕ → ℕ → Type 0
IsNotedFor m i j = (i < m.waits.count) × (at m.waits.owners i ≡ suc j)

-- each number for which another one waits is wanted
abbrev pub IsListed : Marks → Type 0
IsListed m = (i j : ℕ) → IsNotedFor m i j → has_bit m.wanted j ≡ true

-- the marks note that the place with this number waits for place `q`
pub record IsWaitingFor (drivers : List DriverSpec) (m : Marks) (i : ℕ) (q : Place) : Type 0 where
  pub number : ℕ
  pub there : IsAt drivers number q
  pub noted : IsNotedFor m i number

-- Over these drivers: if a place has no run mark, and its first message has a next place, then that next place is full,
-- and the place waits for it. Each place for which another one waits is wanted.
pub record AreMarks (drivers : List DriverSpec) (c : Configuration) (m : Marks) : Type 0 where
  pub over : AreOver drivers m
  pub held_up : (i : ℕ) (p q : Place) → IsAt drivers i p → has_bit m.run i ≡ false → next_of_first drivers c p ≡ Some q
      → (is_full c q ≡ true) × IsWaitingFor drivers m i q
  pub listed : IsListed m

-- no number is marked
abbrev pub HasNoBit : BitTable → Type 0
HasNoBit b = (n : ℕ) → has_bit b n ≡ false

-- the first message on this side of a stream of the driver has this address
abbrev pub asks_at : Configuration → ℕ → Side → ℕ → Place → Bool
asks_at c driver s addr p =
    (same_side p.side s && (p.stream.driver == driver)) && has_addr addr (first_message c.flow p)

-- the first message at the read side of a stream of this lower driver, below the upper one, has this address
abbrev pub asks_between : Configuration → ℕ → ℕ → ℕ → Place → Bool
asks_between c driver addr lower p = asks_up c driver addr p && (p.stream.driver == lower)

-- a place has a mark if it had one before, or if it passes the test and has a message
pub record IsMarkedWhere (drivers : List DriverSpec) (flow : List QueuedMessage) (test : Place → Bool)
    (old new : BitTable) : Type 0 where
  pub kept : (i : ℕ) → has_bit old i ≡ true → has_bit new i ≡ true
  pub marked : (i : ℕ) (p : Place) → IsAt drivers i p → first_message flow p ≢ None → test p ≡ true
      → has_bit new i ≡ true
  pub count : new.count ≡ old.count

-- a number has a mark if it had one before, or if it is that of the place and the first message there has the address
pub record IsMarkedIf (drivers : List DriverSpec) (c : Configuration) (addr : ℕ) (place : Place) (old new : BitTable)
    : Type 0 where
  pub here : (i : ℕ) → IsAt drivers i place → has_addr addr (first_message c.flow place) ≡ true → has_bit new i ≡ true
  pub kept : (i : ℕ) → has_bit old i ≡ true → has_bit new i ≡ true
  pub count : new.count ≡ old.count

-- a number has a mark if it had one before, or if it is this number and its place had no message before
pub record IsMarkedUnless (filled : Bool) (n : ℕ) (old new : BitTable) : Type 0 where
  pub here : filled ≡ false → has_bit new n ≡ true
  pub kept : (i : ℕ) → has_bit old i ≡ true → has_bit new i ≡ true
  pub count : new.count ≡ old.count

-- run marks are kept; a place that waited for another one has a run mark, or still waits for it
pub record AreKept (old new : Marks) : Type 0 where
  pub kept : (i : ℕ) → has_bit old.run i ≡ true → has_bit new.run i ≡ true
  pub waiting : (i j : ℕ) → IsNotedFor old i j → (has_bit new.run i ≡ true) ⊎ IsNotedFor new i j
  pub few : (i j : ℕ) → IsNotedFor new i j → IsNotedFor old i j
  pub listed : IsListed new
  pub over : (count : ℕ) → AreFor count old → AreFor count new

-- the same, and no place waits for this number any more
pub record AreWaitersMarked (j : ℕ) (old new : Marks) : Type 0 where
  pub kept : AreKept old new
  pub none : (i : ℕ) → IsNotedFor new i j → ⊥

-- the same as `AreKept`, and no place waits any more for a freed place that is not full
pub record IsReleased (drivers : List DriverSpec) (c : Configuration) (freed : Place → Bool) (old new : Marks)
    : Type 0 where
  pub kept : AreKept old new
  pub gone : (i j : ℕ) (q : Place) → IsAt drivers j q → IsNotedFor new i j → freed q ≡ true → is_full c q ≡ true

-- the same, and the turned places with a message have a run mark
pub record IsWoken (drivers : List DriverSpec) (c : Configuration) (turned freed : Place → Bool) (old new : Marks)
    : Type 0 where
  pub released : IsReleased drivers c freed old new
  pub turned_ones : (i : ℕ) (p : Place) → IsAt drivers i p → first_message c.flow p ≢ None → turned p ≡ true
      → has_bit new.run i ≡ true
