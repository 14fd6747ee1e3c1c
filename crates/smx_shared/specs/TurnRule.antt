-- The rule of the turn: what holds of the words, the slot and all seats of a shared system between any two steps.
use Rattle.std.specs.Prelude.{◌≡◌, ℕ, ◌+◌, ◌<◌, ◌≤◌, List, [], ◌∷◌, true, false, Option, Some}
use Rattle.std.specs.List.{AllByRecursion}
use mathlib.Core.Option as maybe
use mathlib.Core.Option.{none, some}
use lib.ListN.{get_elem?}
use Rattle.atomic_table.specs.Table.{State}
use Rattle.smx_types.specs.declared.command.Entry.{Entry}
use Rattle.smx_types.specs.declared.driver.DriverSpec.{DriverSpec}
use Rattle.smx_shared.specs.Fronts.{front_of}
use Rattle.smx_shared.specs.Recorded.{Recorded, IsSoundSystem}
use Rattle.smx_shared.specs.Seats.{entries_of, AreMetBy, GoesOnNamed, IsBeginningOf, IsNotMet}
use Rattle.smx_shared.specs.declared.seat_view.MetSeat.{MetSeat}
use Rattle.smx_shared.specs.declared.seat_view.SeatView.{SeatView}

-- the contents of the slot: the system, or nothing
abbrev pub Slot : Type 0
Slot = Option Recorded

-- a system with these drivers, this limit and this history
abbrev pub system_with : List DriverSpec → ℕ → List Entry → Recorded
system_with drivers limit history = record { drivers = drivers; limit = limit; history = history }

-- the turn is free, or the seat with this number has it
pub data Turn : Type 0 where
  free : Turn
  held : ℕ → Turn

-- what the turn adds to the word
abbrev pub bit_of : Turn → ℕ
bit_of free = 0
bit_of (held j) = 1

-- while the turn is free, the slot belongs to the table and contains the system; while it is held, the slot belongs to
-- a seat
abbrev pub home_of : Recorded → Turn → maybe.Option Slot
home_of s free = some (Some s)
home_of s (held j) = none

-- the processes of all met seats are below `names`
abbrev pub AreMetBelow : ℕ → List MetSeat → Type 0
AreMetBelow names met = AllByRecursion (λ m. m.process < names) met

-- a seat has a name, and was not given up in a meeting
abbrev pub IsNamed : SeatView → Type 0
IsNamed v = (v.spent ≡ false) × (v.named ≡ true)

-- what holds of one seat, number `j` with the view `v`
pub record Fits (drivers : List DriverSpec) (limit : ℕ) (history : List Entry) (t : Turn) (names namer j : ℕ)
    (v : SeatView) : Type 0 where
  -- The drivers and the limit are the same in every seat that is not spent.
  pub same : v.spent ≡ false → (v.drivers ≡ drivers) × (v.limit ≡ limit)
  -- The history begins with what it has seen. The seats that it met were named, and what they knew holds.
  pub seen : IsBeginningOf v.seen history
  pub met : AreMetBy (system_with drivers limit history) v.met
  pub met_named : AreMetBelow names v.met
  -- The seat that has the turn has seen the whole history, and has a name.
  pub turn : v.turn ≡ true → (t ≡ held j) × (v.seen ≡ history) × IsNamed v
  -- Every seat that is not spent has seen every entry of a process that is not named yet.
  pub later : v.spent ≡ false → GoesOnNamed names v.seen history
  -- A named seat's process is below the number of names given, and its own entries are those of its process.
  pub own : v.spent ≡ false → v.named ≡ true → (v.process < names) × (v.own ≡ entries_of v.process history)
  -- One seat may take the next name, and knows which one that is.
  pub right : v.may_name ≡ true → (namer ≡ j) × (v.next ≡ names) × (v.spent ≡ false)

-- two named seats of one process are one seat
abbrev pub AreNamedApart : List SeatView → Type 0
AreNamedApart views = (i j : ℕ) (v w : SeatView) →
    get_elem? views i ≡ some v → get_elem? views j ≡ some w → IsNamed v → IsNamed w → v.process ≡ w.process → i ≡ j

-- no named seat has the process of a met seat
abbrev pub AreMetApart : List SeatView → Type 0
AreMetApart views = (i j : ℕ) (v w : SeatView) →
    get_elem? views i ≡ some v → get_elem? views j ≡ some w → IsNamed w → IsNotMet w.process v.met

-- what holds of the words, the slot and all seats, for a system with these drivers, this limit and this history that
-- was shared among `processes` processes
pub record TurnRule (drivers : List DriverSpec) (limit : ℕ) (start : List Entry) (processes : ℕ)
    (s : State Slot SeatView) : Type 0 where
  -- There is one history, and each seat has seen a beginning of it. These are the number of names given, the seat
  -- that may take the next one, and the turn.
  pub history : List Entry
  pub names : ℕ
  pub namer : ℕ
  pub turn : Turn
  -- The history is within the limit, legal, and lawful after each entry.
  pub sound : IsSoundSystem (system_with drivers limit history)
  -- It continues the history that was shared, by entries of the processes among which it was shared. No seat has the
  -- name of another process.
  pub begun : GoesOnNamed processes start history
  pub few : names ≤ processes
  -- The first word is the front of the history, plus 1 while the turn is held. The second is the number of names
  -- given.
  pub words : s.words ≡ (front_of drivers history + bit_of turn) ∷ names ∷ []
  -- While the turn is free, the slot belongs to the table and contains the system with the whole history.
  pub home : s.homes ≡ home_of (system_with drivers limit history) turn ∷ []
  -- `Fits` holds of each seat.
  pub each : (j : ℕ) (v : SeatView) → get_elem? s.views j ≡ some v → Fits drivers limit history turn names namer j v
  -- While the turn is held, one seat has it.
  pub holder : (j : ℕ) → turn ≡ held j → (v : SeatView) × (get_elem? s.views j ≡ some v) × (v.turn ≡ true)
  -- Named seats have different processes, and no named seat has the process of a met seat.
  pub apart : AreNamedApart s.views
  pub met_apart : AreMetApart s.views
