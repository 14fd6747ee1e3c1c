-- Seats, as contracts see them.
use Rattle.std.specs.Prelude.{◌≡◌, ◌≢◌, ℕ, ◌<◌, ◌==◌, Bool, false, List, [], ◌++◌, filter}
use Rattle.std.specs.List.{AllByRecursion}
use Rattle.atomic_table.specs.Seated.{TableId}
use Rattle.smx_types.specs.declared.command.Entry.{Entry}
use Rattle.smx_types.specs.declared.driver.DriverSpec.{DriverSpec}
use Rattle.smx_shared.specs.Recorded.{Recorded}
use Rattle.smx_shared.specs.declared.seat_view.MetSeat.{MetSeat}

-- a shared system's name, which no other has
abbrev pub SharedId : Type 0
SharedId = TableId

-- a shared system: its name, the system as it was when it was shared, and the number of processes
pub record SharedAs : Type 0 where
  pub name : SharedId
  pub start : Recorded
  pub processes : ℕ

abbrev pub shared_as : SharedId → Recorded → ℕ → SharedAs
shared_as name start processes = record { name = name; start = start; processes = processes }

-- the entries of one process, in order
abbrev pub entries_of : ℕ → List Entry → List Entry
entries_of process history = filter (λ e. e.process == process) history

-- the second history begins with the first, or is the same
abbrev pub IsBeginningOf : List Entry → List Entry → Type 0
IsBeginningOf first whole = (more : List Entry) × (first ++ more ≡ whole)

-- the processes of all these entries are below `names`
abbrev pub AreNamedBelow : ℕ → List Entry → Type 0
AreNamedBelow names es = AllByRecursion (λ e. e.process < names) es

-- the history begins with `first`, and each entry after that is of a named process
abbrev pub GoesOnNamed : ℕ → List Entry → List Entry → Type 0
GoesOnNamed names first whole = (more : List Entry) × (first ++ more ≡ whole) × AreNamedBelow names more

-- what a caller for a process knows
pub record Known : Type 0 where
  -- The drivers, and the limit of the history.
  pub drivers : List DriverSpec
  pub limit : ℕ
  -- The process.
  pub process : ℕ
  -- The history that was seen.
  pub seen : List Entry
  -- The entries that were made here, under the process.
  pub own : List Entry

-- a seat: its system, what it knows, and what it has done
pub record Seated : Type 0 where
  -- The shared system to which it belongs.
  pub shared : SharedId
  pub known : Known
  -- The word that it read last, and the number of its steps on that word.
  pub last : ℕ
  pub looks : ℕ
  -- Whether it has the turn.
  pub turn : Bool
  -- The seats that it met, and those that they had met.
  pub met : List MetSeat

-- the knowledge of a seat that was met
abbrev pub met_seat : Known → MetSeat
met_seat k = record { drivers = k.drivers; limit = k.limit; process = k.process; seen = k.seen; own = k.own }

-- what a met seat knew holds of a system
pub record IsMetBy (s : Recorded) (m : MetSeat) : Type 0 where
  pub drivers : m.drivers ≡ s.drivers
  pub limit : m.limit ≡ s.limit
  -- The history begins with what the seat had seen. Its entries of the seat's process are exactly those that were made
  -- with the seat.
  pub seen : IsBeginningOf m.seen s.history
  pub exact : entries_of m.process s.history ≡ m.own

-- what the met seats knew holds of a system
abbrev pub AreMetBy : Recorded → List MetSeat → Type 0
AreMetBy s met = AllByRecursion (IsMetBy s) met

-- no seat of this process was met
abbrev pub IsNotMet : ℕ → List MetSeat → Type 0
IsNotMet process met = AllByRecursion (λ m. m.process ≢ process) met

-- a seat of each process below this number was met, except possibly of the seat's own process
abbrev pub HasMetAll : ℕ → Known → List MetSeat → Type 0
HasMetAll processes k met = (p : ℕ) → p < processes → IsNotMet p met → p ≡ k.process

-- the system with the history that was seen
abbrev pub seen_by : Known → Recorded
seen_by k = record { drivers = k.drivers; limit = k.limit; history = k.seen }

-- the seat of a process before its first call: it has seen the history up to now
abbrev pub first_seat : SharedId → Recorded → ℕ → Seated
first_seat shared s process = record {
  shared = shared;
  known = record {
    drivers = s.drivers;
    limit = s.limit;
    process = process;
    seen = s.history;
    own = entries_of process s.history;
  };
  last = 0;
  looks = 0;
  turn = false;
  met = [];
}
