-- The processes that workers are assigned, and what the workers return.
use Rattle.std.specs.Prelude.{◌≡◌, ℕ, ◌%◌, ◌==◌, List, [], ◌++◌, All, length, map, filter, Vec}
use Rattle.std.specs.List.{range_with_len}
use Rattle.smx_types.specs.declared.command.Command.{Command}
use Rattle.smx_types.specs.declared.command.Entry.{Entry}
use Rattle.smx_model.specs.Histories.{call_of}
use Rattle.smx_shared.specs.Fronts.{IsFrontOf}
use Rattle.smx_shared.specs.Seats.{Known, Seated, SharedId, entries_of}
use Rattle.smx_shared.specs.declared.front.Front.{Front}
use Rattle.smx_run.specs.ProgramOrder.{Calls, calls_of}
use Rattle.smx_run.specs.declared.worker.SeatedProgram.{SeatedProgram}
use Rattle.smx_run.specs.declared.worker.EndedProgram.{EndedProgram}

-- the process of a seat, and the calls that it is to make
abbrev pub given : {S : Type 0} → (S → Known) → SeatedProgram S → Calls
given known job = ((known job.seat).process, calls_of (known job.seat).process job.program)

-- the calls of these entries
abbrev pub calls_in : List Entry → List (ℕ × Command)
calls_in entries = map call_of entries

-- the process of a seat, and the calls made with it
abbrev pub called : {S : Type 0} → (S → Known) → EndedProgram S → Calls
called known done = ((known done.seat).process, calls_in (known done.seat).own)

-- the history that was seen is full
abbrev pub KnowsItFull : Known → Type 0
KnowsItFull k = length k.seen ≡ k.limit

-- the process is the same, and it has made exactly these further calls
pub record HasCalled (old : Known) (commands : List Command) (new : Known) : Type 0 where
  pub process : new.process ≡ old.process
  pub calls : calls_in new.own ≡ calls_in old.own ++ calls_of old.process commands

-- The knowledge after a program has ended. The entries made here are exactly those of the process in the history that
-- was seen, and the front is that of this history.
pub record HasEnded (k : Known) (front : Front) : Type 0 where
  pub exact : k.own ≡ entries_of k.process k.seen
  pub numbers : IsFrontOf front k.drivers k.seen

-- a process is to be run, with a seat of some door, and no call was made with that seat yet
abbrev pub IsToRunWith : {S : Type 0} → (S → Type 0) → (S → Known) → SeatedProgram S → Type 0
IsToRunWith is_seat known job = is_seat job.seat × ((known job.seat).own ≡ [])

-- a process has ended, with a seat of some door
abbrev pub HasEndedWith : {S : Type 0} → (S → Type 0) → (S → Known) → EndedProgram S → Type 0
HasEndedWith is_seat known done = is_seat done.seat × HasEnded (known done.seat) done.front

-- some seat of a door has seen the history full
abbrev pub SomeKnowsItFull : {S : Type 0} → (S → Type 0) → (S → Known) → Type 0
SomeKnowsItFull {S = S} is_seat known = (seat : S) × is_seat seat × KnowsItFull (known seat)

-- what a seat of a shared system knows
abbrev pub known_at : Seated → Known
known_at seat = seat.known

-- the calls that the processes of an assignment are to make, in order
abbrev pub assigned_calls : {A : Type 0} → Vec (SeatedProgram Seated) A → List Calls
assigned_calls assignment = map (given known_at) assignment.items

-- the calls that the processes of an assignment have made, in order
abbrev pub made_calls : {A : Type 0} → Vec (EndedProgram Seated) A → List Calls
made_calls assignment = map (called known_at) assignment.items

-- a seat of this shared system, with which no call was made yet
abbrev pub IsFresh : SharedId → Seated → Type 0
IsFresh name seat = (seat.shared ≡ name) × (seat.known.own ≡ [])

-- all seats of an assignment are such seats
abbrev pub AreFresh : {A : Type 0} → SharedId → Vec (SeatedProgram Seated) A → Type 0
AreFresh name assignment = All (λ job. IsFresh name job.seat) assignment.items

-- a seat of this shared system has seen its history full
abbrev pub IsSeenFull : SharedId → Type 0
IsSeenFull name = (seat : Seated) × (seat.shared ≡ name) × KnowsItFull seat.known

-- a process has ended, at this shared system
abbrev pub EndsAt : SharedId → EndedProgram Seated → Type 0
EndsAt name done = (done.seat.shared ≡ name) × HasEnded done.seat.known done.front

-- all processes of an assignment have ended
abbrev pub HaveEnded : {A : Type 0} → SharedId → Vec (EndedProgram Seated) A → Type 0
HaveEnded name assignment = All (EndsAt name) assignment.items

-- all processes of all assignments have ended
abbrev pub AllHaveEnded : {A B : Type 0} → SharedId → Vec (Vec (EndedProgram Seated) A) B → Type 0
AllHaveEnded name assignments = All (HaveEnded name) assignments.items

-- each assignment has made the calls that it was to make
abbrev pub HaveCalled : {A B : Type 0} → Vec (Vec (SeatedProgram Seated) A) B → Vec (Vec (EndedProgram Seated) A) B
    → Type 0
HaveCalled given ended = map made_calls ended.items ≡ map assigned_calls given.items

-- the processes of one of `workers` workers: those whose number modulo `workers` is its own, in order
abbrev pub assignment_of : ℕ → List Calls → ℕ → List Calls
assignment_of workers all worker = filter (λ one. one.0 % workers == worker) all

-- the processes of each worker
abbrev pub assignments_of : ℕ → List Calls → List (List Calls)
assignments_of workers all = map (assignment_of workers all) (range_with_len 0 workers)
