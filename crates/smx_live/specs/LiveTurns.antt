-- The output of one turn of a live session.
use Rattle.std.specs.Prelude.{◌≡◌, ℕ, ◌++◌, ◌⊎◌, Bool, true, false, List, Option, Result, Ok, Err, codes}
use Rattle.std.specs.Io.KnownBytes.{Appends, Keeps}
use Rattle.smx_model.specs.Views.{view}
use Rattle.smx_run.specs.declared.run_fault.RunFault.TheVariants as run
use Rattle.smx_text.specs.TranscriptText.{IsSpellableView}
use Rattle.smx_session.specs.Sessions.{Performs, State}
use Rattle.smx_live.specs.LiveText.{closing_text}
use Rattle.smx_run.specs.Devices.{AppendsBeginning}
use Rattle.smx_live.specs.Turns.{Answer, IsBelow, IsTaken, NotDone, answer_text}
use Rattle.smx_run.specs.declared.main_fault.MainFault.{MainFault}
use Rattle.smx_run.specs.declared.main_fault.MainFault.TheVariants.{Refused, Text, TooLong, ReadFailed, WriteFailed}
use Rattle.smx_live.specs.declared.talk.Progress.{Progress}
use Rattle.smx_live.specs.declared.talk.TurnFault.TheVariants.{NoCommand}

-- why no text was written: the writer failed within a text that `Possible` allows; or memory ran out before anything
-- was written, as `Wanting` says
abbrev pub FailsToSay : (List ℕ → Type 0) → Type 0 → Option (List ℕ) → Option (List ℕ) → ℕ → MainFault → Type 0
FailsToSay Possible Wanting before after failures WriteFailed =
    (failures ≡ 1) × (text : List ℕ) × AppendsBeginning before after text × Possible text
FailsToSay Possible Wanting before after failures (Refused fault) =
    (failures ≡ 0) × (fault ≡ run.NoMemory) × Keeps before after × Wanting
FailsToSay Possible Wanting before after failures (Text fault) = ⊥
FailsToSay Possible Wanting before after failures TooLong = ⊥
FailsToSay Possible Wanting before after failures ReadFailed = ⊥

-- a text that is right for the result, as `Right` says, was written and flushed; or none was
abbrev pub Says : {A : Type 0} → (A → List ℕ → Type 0) → (List ℕ → Type 0) → Type 0 → Option (List ℕ)
    → Option (List ℕ) → Bool → ℕ → Result A MainFault → Type 0
Says Right Possible Wanting before after flushed failures (Ok x) =
    (failures ≡ 0) × (flushed ≡ true) × (text : List ℕ) × Appends before after text × Right x text
Says Right Possible Wanting before after flushed failures (Err fault) =
    FailsToSay Possible Wanting before after failures fault

-- this text was written and flushed, with this result, or the writer failed within it
abbrev pub Writes : {A : Type 0} → List ℕ → A → Option (List ℕ) → Option (List ℕ) → Bool → ℕ → Result A MainFault
    → Type 0
Writes text result = Says (λ x t. (x ≡ result) × (t ≡ text)) (λ t. t ≡ text) ⊥

-- this text is the rest of the transcript, and the line asks for it; or it is an answer to the line and what is below
-- it, and the session goes on with this state and is this far
abbrev pub IsTurnText : Bool → State → Progress → List ℕ → State → Progress → Bool → List ℕ → Type 0
IsTurnText explain s far line next more true text =
    (line ≡ codes "end") × IsSpellableView (view s.drivers s.configuration) × (text ≡ closing_text s)
IsTurnText explain s far line next more false text = (a : Answer) × (below : List ℕ) × IsTaken s far line a next more
    × IsBelow explain s.version s.drivers far.tracing s.configuration next.configuration line a below
    × (text ≡ answer_text a ++ below)

-- The output, if a turn returns whether the session has ended. If it fails as out of memory, the command was performed,
-- and memory ran out for the line of its entry or for its changes; or the line is not a command, and memory ran out for
-- its explanation.
abbrev pub TakesTurn : Bool → State → Progress → List ℕ → State → Progress → Option (List ℕ) → Option (List ℕ) → Bool
    → ℕ → Result Bool MainFault → Type 0
TakesTurn explain s far line next more = Says (IsTurnText explain s far line next more)
    (λ text. ((later : State) × (many : Progress) × IsTurnText explain s far line later many false text)
    ⊎ IsTurnText explain s far line next more true text)
    (Performs s line next ⊎ ((explain ≡ true) × IsTaken s far line (NotDone NoCommand) next more))
