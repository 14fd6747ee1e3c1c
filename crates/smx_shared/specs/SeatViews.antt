-- How each kind of step changes a seat's view, and what the step shows.
use Rattle.std.specs.Prelude.{◌≡◌, ℕ, ◌+◌, ◌%◌, ◌⊎◌, List, [], ◌∷◌, ◌++◌, Bool, true, false, Some, None}
use Rattle.atomic_table.specs.Seated.{TableId}
use Rattle.atomic_table.specs.Table.{Me, Step, rest}
use Rattle.smx_types.specs.declared.command.Entry.{Entry}
use Rattle.smx_shared.specs.Fronts.{front_of}
use Rattle.smx_shared.specs.Recorded.{Recorded, IsSoundSystem}
use Rattle.smx_shared.specs.Seats.{Known, Seated, entries_of, met_seat, AreMetBy, IsBeginningOf}
use Rattle.smx_shared.specs.TurnRule.{Slot, Turn, bit_of, system_with}
use Rattle.smx_shared.specs.declared.seat_view.SeatView.{SeatView}

-- a seat: its view, and the slots that belong to it
abbrev pub Mine : Type 0
Mine = Me Slot SeatView

-- the knowledge of a seat
abbrev pub known_of : SeatView → Known
known_of v = record { drivers = v.drivers; limit = v.limit; process = v.process; seen = v.seen; own = v.own }

-- the system, with the history that the seat has seen
abbrev pub system_of : SeatView → Recorded
system_of v = system_with v.drivers v.limit v.seen

-- ---- views

-- a seat that has seen a system and has no name yet
abbrev pub unnamed : Recorded → Bool → ℕ → SeatView
unnamed s may_name next = record {
  drivers = s.drivers;
  limit = s.limit;
  process = 0;
  seen = s.history;
  own = [];
  last = 0;
  looks = 0;
  turn = false;
  met = [];
  spent = false;
  named = false;
  may_name = may_name;
  next = next;
}

-- the first seat, which may take the first name
abbrev pub first_view : Recorded → SeatView
first_view s = unnamed s true 0

-- a seat that was given up in a meeting
abbrev pub spent_view : SeatView
spent_view = record (unnamed (system_with [] 0 []) false 0) { spent = true }

-- a new seat, split off another: it has seen the same history, and takes over the right to the next name
abbrev pub view_beside : SeatView → SeatView
view_beside v = record (unnamed (system_with v.drivers v.limit v.seen) v.may_name v.next) { spent = v.spent }

-- a seat that has given away the right to the next name
abbrev pub without_right : SeatView → SeatView
without_right v = record v { may_name = false; next = 0 }

-- a seat that takes the next name
abbrev pub with_next_name : SeatView → SeatView
with_next_name v = record v { named = true; process = v.next; own = entries_of v.next v.seen; next = v.next + 1 }

-- a seat that takes over what another has seen
abbrev pub after_meeting : SeatView → SeatView → SeatView
after_meeting v w = record v { met = met_seat (known_of w) ∷ w.met ++ v.met }

-- a seat after a step on the first word: it has seen this history, found or left this word, and has the turn or not
abbrev pub after_step : SeatView → List Entry → ℕ → Bool → List Entry → SeatView
after_step v history word turn own =
    record v { seen = history; last = word; looks = v.looks + 1; turn = turn; own = own }

-- ---- what the steps show

-- the history, as the rule shows it to a seat
pub record Shows (v : SeatView) (history : List Entry) : Type 0 where
  pub grown : IsBeginningOf v.seen history
  pub sound : IsSoundSystem (system_with v.drivers v.limit history)
  pub met : AreMetBy (system_with v.drivers v.limit history) v.met
  pub own : v.named ≡ true → v.own ≡ entries_of v.process history

-- a load: the word is the history's front, with the turn free or held
abbrev pub Looked : Step Slot → Mine → ℕ → Mine → Type 0
Looked st m n m' =
    (h : List Entry) × (t : Turn) × Shows m.0 h
    × (n ≡ front_of m.0.drivers h + bit_of t)
    × (m' ≡ (after_step m.0 h n false m.0.own, m.1))

-- The turn bit is set. Either the turn was held before; or it was free, and now this seat has it, and the slot with
-- the system.
abbrev pub Taken : Step Slot → Mine → ℕ → Mine → Type 0
Taken st m n m' =
    (h : List Entry) × Shows m.0 h
    × (((n ≡ front_of m.0.drivers h + 1) × (m' ≡ (after_step m.0 h n false m.0.own, m.1)))
    ⊎ ((n ≡ front_of m.0.drivers h)
    × (m' ≡ (after_step m.0 h n true m.0.own, (0, Some (system_with m.0.drivers m.0.limit h)) ∷ m.1))))

-- the history in a slot
abbrev pub history_at : Slot → List Entry
history_at None = []
history_at (Some s) = s.history

-- the history in the slot that was taken last
abbrev pub history_in : List (ℕ × Slot) → List Entry
history_in [] = []
history_in (x ∷ xs) = history_at x.1

-- one entry of a process was added to a history, or none
abbrev pub AddsFor : ℕ → List Entry → List Entry → Type 0
AddsFor process old new = (new ≡ old) ⊎ ((e : Entry) × (e.process ≡ process) × (new ≡ old ++ e ∷ []))

-- a store: the history is that of the slot, which goes back to the table; it has one more entry of the process, or none
abbrev pub Published : Step Slot → Mine → ℕ → Mine → Type 0
Published st m n m' =
    AddsFor m.0.process m.0.seen (history_in m.1)
    × (m' ≡ (after_step m.0 (history_in m.1) n false (entries_of m.0.process (history_in m.1)), rest m.1))

-- the next name is taken
abbrev pub TookName : Step Slot → Mine → ℕ → Mine → Type 0
TookName st m n m' = (n ≡ m.0.next) × (m' ≡ (with_next_name m.0, m.1))

-- ---- seats at rest and with the turn

-- a seat that doesn't have the turn
abbrev pub IsAtRest : Mine → Type 0
IsAtRest m = (m.1 ≡ []) × (m.0.turn ≡ false) × (m.0.spent ≡ false)

-- what a seat knows is true: its history is sound, and its own entries are exactly those of its process there
pub record IsInformed (v : SeatView) : Type 0 where
  pub sound : IsSoundSystem (system_with v.drivers v.limit v.seen)
  pub own : v.named ≡ true → v.own ≡ entries_of v.process v.seen

-- a seat that has the turn, with this in the slot
pub record HasTurn (m : Mine) (slot : Slot) : Type 0 where
  pub turn : m.0.turn ≡ true
  pub whole : m.0.spent ≡ false
  pub has : m.1 ≡ (0, slot) ∷ []
  pub informed : IsInformed m.0

-- a seat has seen more, and is otherwise the same
pub record HasGrown (v w : SeatView) : Type 0 where
  pub drivers : w.drivers ≡ v.drivers
  pub limit : w.limit ≡ v.limit
  pub met : w.met ≡ v.met
  pub spent : w.spent ≡ v.spent
  pub named : w.named ≡ v.named
  pub process : w.process ≡ v.process
  pub seen : IsBeginningOf v.seen w.seen

-- the seat is at rest afterwards, has seen more, and what it knows is true
abbrev pub RestsAfter : SeatView → Mine → Type 0
RestsAfter v m = IsAtRest m × HasGrown v m.0 × IsInformed m.0

-- The seat made one more step on the first word, and added nothing. The word that it found is the front of the history
-- that it has seen, with the turn bit.
pub record FoundWord (v w : SeatView) (word : ℕ) : Type 0 where
  pub looks : w.looks ≡ v.looks + 1
  pub last : w.last ≡ word
  pub own : w.own ≡ v.own
  pub front : word ≡ front_of w.drivers w.seen + word % 2

-- the word is a front with the turn bit; its history begins with what a seat has seen
pub record IsWordFrom (v : SeatView) (word : ℕ) : Type 0 where
  pub history : List Entry
  pub seen : IsBeginningOf v.seen history
  pub sound : IsSoundSystem (system_with v.drivers v.limit history)
  pub front : word ≡ front_of v.drivers history + word % 2

-- it is the same seat, and has seen what either seat had seen
pub record HasMet (v other w : SeatView) : Type 0 where
  pub drivers : w.drivers ≡ v.drivers
  pub limit : w.limit ≡ v.limit
  pub named : w.named ≡ v.named
  pub process : w.process ≡ v.process
  pub own : w.own ≡ v.own
  pub seen : IsBeginningOf v.seen w.seen
  pub met : w.met ≡ met_seat (known_of other) ∷ other.met ++ v.met
  pub all_met : AreMetBy (system_of w) w.met

-- ---- what contracts see

abbrev pub seated_of : TableId → SeatView → Seated
seated_of id v = record {
  shared = id;
  known = known_of v;
  last = v.last;
  looks = v.looks;
  turn = v.turn;
  met = v.met;
}

-- a seat in the hands of a caller: at rest, and named as its process
abbrev pub IsSeatOf : ℕ → Mine → Type 0
IsSeatOf process m = IsAtRest m × (m.0.named ≡ true) × (m.0.process ≡ process)
