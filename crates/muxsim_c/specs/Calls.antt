-- The effect of each call on a handle, which has a session or none.
use Rattle.std.specs.Prelude.{◌≡◌, ◌≢◌, ◌<◌, ◌≤◌, ◌⊎◌, ℕ, ℤ, List, [], ◌++◌, drop, length, Option, Some, None}
use Rattle.std.specs.Prelude.{IsSome, Result, Ok, Err, IfErr}
use Rattle.smx_session.specs.Sessions.{IsLastLine, IsNotPerformed, StartsAs, State, shown_lines}
use Rattle.smx_session.specs.Sessions.{Performs as Steps}
use Rattle.smx_session.specs.FaultWords.{start_fault_words}
use Rattle.smx_session.specs.declared.faults.LineFault.{LineFault}
use Rattle.smx_session.specs.declared.faults.StartFault.{StartFault}
use Rattle.smx_session.specs.declared.faults.StartFault.TheVariants.{NoMemory as memory}
use Rattle.muxsim_c.specs.Codes.{Outcome, code, fault_of_line, fault_of_start}
use Rattle.muxsim_c.specs.declared.call_fault.CallFault.{CallFault}
use Rattle.muxsim_c.specs.declared.call_fault.CallFault.TheVariants.{NoMemory, NoEntry, NoRoom, Closed, IsOpen}

-- `n` is the code of an outcome for which `Holds` holds
abbrev pub Answers : ℤ → (Outcome → Type 0) → Type 0
Answers n Holds = (outcome : Outcome) × Holds outcome × (n ≡ code outcome)

-- the text's first fault, or that of its drivers, or out-of-memory, as C gets it
abbrev pub HasFault : List ℕ → CallFault → Type 0
HasFault text t = (fault : StartFault) × StartsAs text (Err fault) × (t ≡ fault_of_start fault)

-- if there is no session, one over the drivers of the text; if there is one, it stays
abbrev pub Opens : Option State → List ℕ → Option State → Outcome → Type 0
Opens None text (Some s) (Ok _) = StartsAs text (Ok s)
Opens None text None (Ok _) = ⊥
Opens None text new (Err t) = (new ≡ None) × HasFault text t
Opens (Some s) text new outcome = (new ≡ Some s) × (outcome ≡ Err IsOpen)

-- the command of the line is performed; or the session is unchanged, because the line is not a call, or memory ran
-- out for it
abbrev pub Performs : Option State → List ℕ → Option State → Outcome → Type 0
Performs None line new outcome = (new ≡ None) × (outcome ≡ Err Closed)
Performs (Some s) line (Some n) (Ok _) = Steps s line n
Performs (Some s) line None (Ok _) = ⊥
Performs (Some s) line new (Err t) =
    (new ≡ Some s) × (fault : LineFault) × IsNotPerformed s.version line fault × (t ≡ fault_of_line fault)

-- the text is at the start of the buffer; or it is longer than the buffer, which is unchanged
abbrev pub Copies : List ℕ → List ℕ → List ℕ → ℕ → Outcome → Type 0
Copies text old new len (Ok _) =
    (len ≡ length text) × (length text ≤ length old) × (new ≡ text ++ drop (length text) old)
Copies text old new len (Err t) =
    (len ≡ length text) × (length old < length text) × (new ≡ old) × (t ≡ NoRoom)

-- neither the buffer nor the length is written
abbrev pub WritesNothing : List ℕ → List ℕ → ℕ → ℕ → Type 0
WritesNothing old new was len = (new ≡ old) × (len ≡ was)

-- a text for which `IsText` holds is copied; or memory ran out for it
abbrev pub Writes : (List ℕ → Type 0) → List ℕ → List ℕ → ℕ → ℕ → Outcome → Type 0
Writes IsText old new was len outcome =
    ((text : List ℕ) × IsText text × Copies text old new len outcome)
    ⊎ (WritesNothing old new was len × (outcome ≡ Err NoMemory))

-- the words in which a fault prints itself; none for a session
abbrev pub why_words : Result State StartFault → List ℕ
why_words (Ok s) = []
why_words (Err fault) = start_fault_words fault

-- the words of the text's first fault, or of that of its drivers; none if a session starts over its drivers
abbrev pub IsWhy : List ℕ → List ℕ → Type 0
IsWhy text words = (start : Result State StartFault) × StartsAs text start × IfErr start (λ t. t ≢ memory)
    × (words ≡ why_words start)

-- the words that say why no session starts over the text are written, none if one starts; or memory ran out
abbrev pub TellsWhy : List ℕ → List ℕ → List ℕ → ℕ → ℕ → Outcome → Type 0
TellsWhy text old new was len outcome = Writes (IsWhy text) old new was len outcome

-- the line of the last entry is written; or there is no entry, or no session
abbrev pub Tells : Option State → List ℕ → List ℕ → ℕ → ℕ → Outcome → Type 0
Tells None old new was len outcome = WritesNothing old new was len × (outcome ≡ Err Closed)
Tells (Some s) old new was len outcome =
    (IsSome s.last × Writes (IsLastLine s) old new was len outcome)
    ⊎ ((s.last ≡ None) × WritesNothing old new was len × (outcome ≡ Err NoEntry))

-- the lines of the configuration are written, as in a transcript; or there is no session
abbrev pub Shows : Option State → List ℕ → List ℕ → ℕ → ℕ → Outcome → Type 0
Shows None old new was len outcome = WritesNothing old new was len × (outcome ≡ Err Closed)
Shows (Some s) old new was len outcome = Writes (λ lines. lines ≡ shown_lines s) old new was len outcome

-- there is no session afterwards
abbrev pub Closes : Option State → Option State → Outcome → Type 0
Closes None new outcome = (new ≡ None) × (outcome ≡ Err Closed)
Closes (Some s) new outcome = (new ≡ None) × (outcome ≡ Ok tt)
