-- The turns of a live session: a line and its answer.
use Rattle.std.specs.Prelude.{◌≡◌, ◌≢◌, ℕ, ◌+◌, ◌<◌, ◌≤◌, ◌⊎◌, List, [], ◌∷◌, ◌++◌, length, Option}
use Rattle.std.specs.Prelude.{Some, None, codes, Bool, true, false, ◌||◌, ◌&&◌, not, bytes_eq, if◌then◌else◌}
use Rattle.std.specs.List.{AllByRecursion, flat_map}
use Rattle.smx_types.specs.declared.command.Entry.{Entry}
use Rattle.smx_types.specs.declared.driver.DriverSpec.{DriverSpec}
use Rattle.smx_types.specs.declared.limits.TheConstants.{MAX_COMMANDS}
use Rattle.smx_types.specs.declared.version.Version.{Version}
use Rattle.smx_types.specs.declared.view.ConfigView.{ConfigView}
use Rattle.smx_model.specs.Changes.{changes}
use Rattle.smx_model.specs.Commands.{step}
use Rattle.smx_model.specs.Configuration.{Configuration}
use Rattle.smx_model.specs.Histories.{after, call_of}
use Rattle.smx_model.specs.KeptConfigurations.{IsKept}
use Rattle.smx_model.specs.Views.{view}
use Rattle.smx_words.specs.LineReading.{IsCallLine, IsNoCallLine}
use Rattle.smx_words.specs.Spellable.{FitsCallIn, FitsEntry}
use Rattle.smx_words.specs.Spelling.{call_words, entry_line}
use Rattle.smx_words.specs.Words.{LINE_FEED, line_of}
use Rattle.smx_text.specs.TranscriptText.{view_lines}
use Rattle.smx_trace.specs.TraceWords.{changes_text}
use Rattle.smx_explain.specs.ColumnWords.{IsExplanationOf}
use Rattle.smx_session.specs.Sessions.{Performs, State}
use Rattle.smx_live.specs.Inboxes.{IsShort}
use Rattle.smx_live.specs.declared.talk.Progress.{Progress}
use Rattle.smx_live.specs.declared.talk.TurnFault.{TurnFault}
use Rattle.smx_live.specs.declared.talk.TurnFault.TheVariants.{NoCommand, NoMemory, Full}

-- ---- what is written

-- the line that says why a line is refused
abbrev pub fault_line : TurnFault → List ℕ
fault_line NoCommand = codes "? no command\n"
fault_line NoMemory = codes "? no memory\n"
fault_line Full = codes "? history full\n"

-- the answer to a line: the entry of its command, the configuration, or why it is refused
pub data Answer : Type 0 where
  Entered : Entry → Answer
  Shown : ConfigView → Answer
  NotDone : TurnFault → Answer

-- the text of an answer
abbrev pub answer_text : Answer → List ℕ
answer_text (Entered e) = entry_line e
answer_text (Shown v) = view_lines v ++ codes "shown\n"
answer_text (NotDone w) = fault_line w

-- a line with its answer, and what is written below that
pub record Turn : Type 0 where
  pub line : List ℕ
  pub answer : Answer
  pub below : List ℕ

-- the lines of these turns, each with its line feed
abbrev pub asked_text : List Turn → List ℕ
asked_text turns = flat_map (λ t. t.line ++ LINE_FEED ∷ []) turns

-- the text of a turn: its answer, and what is written below it
abbrev pub turn_text : Turn → List ℕ
turn_text t = answer_text t.answer ++ t.below

-- the texts of these turns
abbrev pub said_text : List Turn → List ℕ
said_text turns = flat_map turn_text turns

-- the entry of an answer, if it is one
abbrev pub entries_in : Answer → List Entry
entries_in (Entered e) = e ∷ []
entries_in (Shown v) = []
entries_in (NotDone w) = []

-- the entries among the answers of these turns
abbrev pub entries_of : List Turn → List Entry
entries_of turns = flat_map (λ t. entries_in t.answer) turns

-- ---- which answers a line can have

-- the line asks for the configuration; it may also begin or end to trace entries
abbrev pub AsksToShow : List ℕ → Type 0
AsksToShow line =
    (line ≡ []) ⊎ ((line ≡ codes "show") ⊎ ((line ≡ codes "trace on") ⊎ (line ≡ codes "trace off")))

-- the line is the process and command of this entry, and its reply is the model's, after the entries of
-- `history`
pub record IsEntryOf (version : Version) (drivers : List DriverSpec) (history : List Entry) (line : List ℕ)
    (e : Entry) : Type 0 where
  pub in_version : FitsCallIn version (call_of e)
  pub is_read : line ≡ line_of (call_words (call_of e))
  pub legal : (step drivers (after drivers history) e.process e.command).1 ≡ e.reply
  pub spelled : FitsEntry e
  pub room : length history < MAX_COMMANDS

-- the line asks neither for the configuration nor for the end
abbrev pub AsksForNeither : List ℕ → Type 0
AsksForNeither line = (AsksToShow line → ⊥) × (line ≢ codes "end")

-- why a line is refused after `count` entries
abbrev pub IsRefusedFor : Version → ℕ → List ℕ → TurnFault → Type 0
IsRefusedFor version count line NoCommand =
    AsksForNeither line × IsNoCallLine version line × (count < MAX_COMMANDS)
IsRefusedFor version count line NoMemory =
    AsksForNeither line → IsCallLine version line × (count < MAX_COMMANDS)
IsRefusedFor version count line Full = AsksForNeither line × (MAX_COMMANDS ≤ count)

-- the answers that a line can have after these entries
abbrev pub IsAnswer : Version → List DriverSpec → List Entry → List ℕ → Answer → Type 0
IsAnswer version drivers history line (Entered e) = IsEntryOf version drivers history line e
IsAnswer version drivers history line (Shown v) = AsksToShow line × (v ≡ view drivers (after drivers history))
IsAnswer version drivers history line (NotDone w) = IsRefusedFor version (length history) line w

-- each turn has one line within the limit, with an answer that it can have after these entries and those of
-- earlier turns
abbrev pub AreAnswered : Version → List DriverSpec → List Entry → List Turn → Type 0
AreAnswered version drivers history [] = Unit {0}
AreAnswered version drivers history (t ∷ ts) = IsShort t.line × IsAnswer version drivers history t.line t.answer
    × AreAnswered version drivers (history ++ entries_in t.answer) ts

-- ---- what is below an answer

-- whether entries are traced after a line that asks for the configuration
abbrev pub switched : Bool → List ℕ → Bool
switched tracing line =
    bytes_eq line (codes "trace on") || (tracing && not (bytes_eq line (codes "trace off")))

-- whether entries are traced after a line with this answer
abbrev pub traces_after : Bool → List ℕ → Answer → Bool
traces_after tracing line (Entered e) = tracing
traces_after tracing line (Shown v) = switched tracing line
traces_after tracing line (NotDone w) = tracing

-- the changes from one configuration to another, if entries are traced
abbrev pub traced_changes : Bool → List DriverSpec → Configuration → Configuration → List ℕ
traced_changes tracing drivers c d = if tracing then changes_text (changes (view drivers c) (view drivers d)) else []

-- the explanation of a line that is not a command of this version, if lines are explained
abbrev pub IsExplained : Bool → Version → List ℕ → List ℕ → Type 0
IsExplained true version line below = IsExplanationOf version line below
IsExplained false version line below = below ≡ []

module _ (explain : Bool) (version : Version) (drivers : List DriverSpec) where
  -- The text below the answer to a line, which leads from one configuration to another: the changes of an entry, if
  -- entries are traced; the explanation of a line that is not a command, if lines are explained; and else nothing.
  abbrev pub IsBelow : Bool → Configuration → Configuration → List ℕ → Answer → List ℕ → Type 0
  IsBelow tracing c d line (Entered e) below = below ≡ traced_changes tracing drivers c d
  IsBelow tracing c d line (Shown v) below = below ≡ []
  IsBelow tracing c d line (NotDone NoCommand) below = IsExplained explain version line below
  IsBelow tracing c d line (NotDone NoMemory) below = below ≡ []
  IsBelow tracing c d line (NotDone Full) below = below ≡ []

  -- each answer is followed by what belongs below it
  abbrev pub AreFollowed : List Entry → Bool → List Turn → Type 0
  AreFollowed history tracing [] = Unit {0}
  AreFollowed history tracing (t ∷ ts) = IsBelow tracing (after drivers history)
      (after drivers (history ++ entries_in t.answer)) t.line t.answer t.below
      × AreFollowed (history ++ entries_in t.answer) (traces_after tracing t.line t.answer) ts

-- whether entries are traced after these turns
abbrev pub traces_behind : Bool → List Turn → Bool
traces_behind tracing [] = tracing
traces_behind tracing (t ∷ ts) = traces_behind (traces_after tracing t.line t.answer) ts

-- none of these turns is refused for lack of memory
abbrev pub HasEnoughMemory : List Turn → Type 0
HasEnoughMemory turns = AllByRecursion (λ t. t.answer ≢ NotDone NoMemory) turns

-- ---- how a session takes a turn

-- a session performs the line as this entry, its next one
pub record IsEntered (s : State) (far : Progress) (line : List ℕ) (e : Entry) (next : State) (more : Progress)
    : Type 0 where
  pub performs : Performs s line next
  pub last : next.last ≡ Some e
  pub spelled : FitsEntry e
  pub room : far.entries < MAX_COMMANDS
  pub counted : more.entries ≡ far.entries + 1
  pub tracing : more.tracing ≡ far.tracing

-- a session gives this answer to the line, and has this state and is this far afterwards
abbrev pub IsTaken : State → Progress → List ℕ → Answer → State → Progress → Type 0
IsTaken s far line (Entered e) next more = IsEntered s far line e next more
IsTaken s far line (Shown v) next more = AsksToShow line × (v ≡ view s.drivers s.configuration) × (next ≡ s)
    × (more ≡ record { entries = far.entries; tracing = switched far.tracing line })
IsTaken s far line (NotDone w) next more = IsRefusedFor s.version far.entries line w × (next ≡ s) × (more ≡ far)

-- the line was performed, and `text` is the line of its entry, and its changes if entries are traced; or it was refused
-- for this reason
abbrev pub IsPerformed : State → Progress → List ℕ → Option TurnFault → State → Progress → List ℕ → Type 0
IsPerformed s far line None next more text = (e : Entry) × IsEntered s far line e next more
    × (text ≡ entry_line e ++ traced_changes far.tracing s.drivers s.configuration next.configuration)
IsPerformed s far line (Some w) next more text = IsRefusedFor s.version far.entries line w × (next ≡ s) × (more ≡ far)

-- the view of a configuration that has the invariant
abbrev pub IsViewOfKept : List DriverSpec → ConfigView → Type 0
IsViewOfKept drivers v = (c : Configuration) × IsKept drivers c × (v ≡ view drivers c)

-- the view of a session's configuration, if entries are traced
abbrev pub IsTracedView : Bool → State → Option ConfigView → Type 0
IsTracedView tracing s None = tracing ≡ false
IsTracedView tracing s (Some v) =
    (tracing ≡ true) × (v ≡ view s.drivers s.configuration) × IsViewOfKept s.drivers v

-- the changes since a view, if there is one
abbrev pub changes_since : Option ConfigView → State → List ℕ
changes_since None s = []
changes_since (Some v) s = changes_text (changes v (view s.drivers s.configuration))
