-- The knowledge of a caller before a call and after it.
use Rattle.std.specs.Prelude.{◌≡◌, ◌+◌, ◌<◌, true, false, List, [], ◌∷◌, ◌++◌, length}
use Rattle.smx_types.specs.declared.command.Command.{Command}
use Rattle.smx_types.specs.declared.command.Entry.{Entry}
use Rattle.smx_model.specs.Histories.{call_of}
use Rattle.smx_shared.specs.Fronts.{word_of, IsFrontOf}
use Rattle.smx_shared.specs.Recorded.{Recorded, IsSoundSystem}
use Rattle.smx_shared.specs.Seats.{Known, Seated, SharedAs, GoesOnNamed, seen_by, entries_of, met_seat, AreMetBy}
use Rattle.smx_shared.specs.Seats.{IsBeginningOf}
use Rattle.smx_shared.specs.declared.shared_fault.ApplyFault.{ApplyFault}
use Rattle.smx_shared.specs.declared.shared_fault.ApplyFault.TheVariants as apply
use Rattle.smx_shared.specs.declared.front.Front.{Front}
use Rattle.smx_shared.specs.declared.seat_view.MetSeat.{MetSeat}
use Rattle.smx_shared.specs.declared.shared_fault.TryFault.{TryFault}
use Rattle.smx_shared.specs.declared.shared_fault.TryFault.TheVariants as try

-- the caller knows no less than before
pub record HasSeenMore (old new : Known) : Type 0 where
  -- The drivers, the limit and the process are unchanged.
  pub drivers : new.drivers ≡ old.drivers
  pub limit : new.limit ≡ old.limit
  pub process : new.process ≡ old.process
  -- The history that had been seen is a beginning of the one that has been seen now.
  pub seen : IsBeginningOf old.seen new.seen
  -- That history is within the limit, legal, and lawful after each entry.
  pub sound : IsSoundSystem (seen_by new)
  -- The entries that were made with the seat are exactly the entries of its process in this history.
  pub exact : new.own ≡ entries_of new.process new.seen

-- the call added this one entry, which has the process and the command
pub record AnswersEntry (old new : Known) (command : Command) (e : Entry) : Type 0 where
  pub call : call_of e ≡ (old.process, command)
  -- It is the last entry that has been seen.
  pub seen : (before : List Entry) × (new.seen ≡ before ++ e ∷ [])
  -- It was added to the entries that were made with the seat.
  pub own : new.own ≡ old.own ++ e ∷ []

-- the call added one entry, which has the process and the command, but doesn't return it
abbrev pub AddsEntry : Known → Command → Known → Type 0
AddsEntry old command new = (e : Entry) × AnswersEntry old new command e

-- the call added no entry: the history was full, or it was not full and memory ran out
abbrev pub Refuses : Known → Known → ApplyFault → Type 0
Refuses old new apply.HistoryFull = (new.own ≡ old.own) × (length new.seen ≡ new.limit)
Refuses old new apply.NoMemory = (new.own ≡ old.own) × (length new.seen < new.limit)

-- the front is that of the history that has been seen, and nothing was added
pub record SeesFront (old new : Known) (front : Front) : Type 0 where
  pub numbers : IsFrontOf front new.drivers new.seen
  pub own : new.own ≡ old.own

-- the seat belongs to the same shared system and doesn't have the turn
pub record Rests (old new : Seated) : Type 0 where
  pub shared : new.shared ≡ old.shared
  pub turn : new.turn ≡ false

-- the seat has met the other seat, and the seats that the other had met
pub record Meets (old other new : Seated) : Type 0 where
  pub own : new.known.own ≡ old.known.own
  pub met : new.met ≡ met_seat other.known ∷ other.met ++ old.met
  -- It has seen all that they had seen, and what they knew of their processes is true.
  pub known : AreMetBy (seen_by new.known) new.met

-- the call read one word: it is this front, which is that of the history that has now been seen; nothing was added
pub record LooksOnce (old new : Seated) (front : Front) : Type 0 where
  pub looks : new.looks ≡ old.looks + 1
  pub last : new.last ≡ word_of front
  pub sees : SeesFront old.known new.known front

-- the fault of a try that got the turn, from the fault of its call
abbrev pub try_fault_of : ApplyFault → TryFault
try_fault_of apply.HistoryFull = try.HistoryFull
try_fault_of apply.NoMemory = try.NoMemory

-- the try added no entry: the one word that it read showed that a seat had the turn; or it was refused as a call is
abbrev pub RefusesTry : Seated → Seated → TryFault → Type 0
RefusesTry old new (try.Busy front) = LooksOnce old new front × (front.held ≡ true)
RefusesTry old new try.HistoryFull = Refuses old.known new.known apply.HistoryFull
RefusesTry old new try.NoMemory = Refuses old.known new.known apply.NoMemory

-- the returned system continues the system that was shared
pub record GoesOnFrom (shared : SharedAs) (s : Recorded) : Type 0 where
  pub drivers : s.drivers ≡ shared.start.drivers
  pub limit : s.limit ≡ shared.start.limit
  -- Each later entry is of one of the processes among which the system was shared.
  pub history : GoesOnNamed shared.processes shared.start.history s.history

-- the system that is returned to a caller who knew this and had met these seats, whatever other callers did with it
pub record EndsAs (old : Known) (met : List MetSeat) (s : Recorded) : Type 0 where
  -- It has the drivers and the limit with which it was shared.
  pub drivers : s.drivers ≡ old.drivers
  pub limit : s.limit ≡ old.limit
  -- Its history is within the limit, legal and lawful, and begins with the history that had been seen.
  pub sound : IsSoundSystem s
  pub seen : IsBeginningOf old.seen s.history
  -- Its entries of the process are exactly those made with the seat. The same holds for each seat that was met.
  pub exact : entries_of old.process s.history ≡ old.own
  pub others : AreMetBy s met
