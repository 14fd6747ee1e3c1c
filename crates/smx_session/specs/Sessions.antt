-- Sessions: what a contract sees of one, how it starts, and what it does with a line.
use Rattle.std.specs.Prelude.{◌≡◌, ◌≢◌, ◌⊎◌, ℕ, List, Option, Some, None, IsSome, Result, Ok, Err}
use Rattle.smx_types.specs.ProgramLists.{ProgramLists}
use Rattle.smx_types.specs.declared.command.Entry.{Entry}
use Rattle.smx_types.specs.declared.driver.DriverSpec.{DriverSpec}
use Rattle.smx_types.specs.declared.version.Version.{Version}
use Rattle.smx_config.specs.DriverFaults.{RefusesDrivers}
use Rattle.smx_config.specs.declared.config_fault.ConfigFault.TheVariants as config
use Rattle.smx_model.specs.Commands.{step}
use Rattle.smx_model.specs.Configuration.{Configuration, empty}
use Rattle.smx_model.specs.DriverList.{IsDriverList}
use Rattle.smx_model.specs.Histories.{IsLegal, after, call_of}
use Rattle.smx_model.specs.Views.{view}
use Rattle.smx_text.specs.Grammar.{ReadsAny, Spells}
use Rattle.smx_text.specs.ProgramsText.{programs_grammar}
use Rattle.smx_text.specs.TranscriptText.{view_lines}
use Rattle.smx_text.specs.declared.text_fault.Cause.TheVariants as cause
use Rattle.smx_text.specs.declared.text_fault.TextFault.{TextFault}
use Rattle.smx_words.specs.LineReading.{IsCallLine, IsNoCallLine}
use Rattle.smx_words.specs.Spellable.{FitsCallIn}
use Rattle.smx_words.specs.Spelling.{call_words, entry_line}
use Rattle.smx_words.specs.Words.{line_of}
use Rattle.smx_session.specs.declared.faults.EntryFault.{EntryFault}
use Rattle.smx_session.specs.declared.faults.EntryFault.TheVariants as entry_fault
use Rattle.smx_session.specs.declared.faults.LineFault.{LineFault}
use Rattle.smx_session.specs.declared.faults.LineFault.TheVariants as line_fault
use Rattle.smx_session.specs.declared.faults.StartFault.{StartFault}
use Rattle.smx_session.specs.declared.faults.StartFault.TheVariants as start
use Rattle.smx_session.specs.declared.faults.StartFault.TheVariants.{Text, Drivers}

-- the version of its texts, its drivers, its configuration, and its last entry
pub record State : Type 0 where
  pub version : Version
  pub drivers : List DriverSpec
  pub configuration : Configuration
  pub last : Option Entry

-- the text spells programs of this version; the session has their drivers, and nothing is open
pub record IsStartOf (text : List ℕ) (s : State) : Type 0 where
  pub programs : ProgramLists
  pub spelled : Spells (programs_grammar s.version) text programs
  pub drivers : s.drivers ≡ programs.drivers
  pub valid_drivers : IsDriverList s.drivers
  pub nothing : s.configuration ≡ empty
  pub no_entry : s.last ≡ None

-- the text spells programs, and `AreSuch` holds of their drivers
abbrev pub HasDrivers : List ℕ → (List DriverSpec → Type 0) → Type 0
HasDrivers text AreSuch =
    (version : Version) × (p : ProgramLists) × Spells (programs_grammar version) text p × AreSuch p.drivers

-- memory ran out for the text, before a fault of it was seen, or for drivers that are valid
abbrev pub WantsMemory : List ℕ → Type 0
WantsMemory text =
    ((fault : TextFault) × ReadsAny programs_grammar text (Err fault) × (fault.cause ≡ cause.NoMemory))
    ⊎ HasDrivers text IsDriverList

-- a session over the drivers of a text; or the text's first fault, or that of its drivers, or out-of-memory
abbrev pub StartsAs : List ℕ → Result State StartFault → Type 0
StartsAs text (Ok s) = IsStartOf text s
StartsAs text (Err start.NoMemory) = WantsMemory text
StartsAs text (Err (Text fault)) = ReadsAny programs_grammar text (Err fault) × (fault.cause ≢ cause.NoMemory)
StartsAs text (Err (Drivers fault)) =
    HasDrivers text (λ drivers. RefusesDrivers drivers fault) × (fault ≢ config.NoMemory)

-- The line is a process and a command that the version allows, as at the start of an entry's line. The session has
-- made the model's step and keeps the entry.
pub record Performs (old : State) (line : List ℕ) (new : State) : Type 0 where
  pub entry : Entry
  pub fits : FitsCallIn old.version (call_of entry)
  pub is_read : line ≡ line_of (call_words (call_of entry))
  pub does : step old.drivers old.configuration entry.process entry.command ≡ (new.configuration, entry.reply)
  pub last : new.last ≡ Some entry
  pub drivers : new.drivers ≡ old.drivers
  pub version : new.version ≡ old.version

-- why a line is not performed: memory ran out for the call that it is, or it is not a call that the version allows
abbrev pub IsNotPerformed : Version → List ℕ → LineFault → Type 0
IsNotPerformed version line line_fault.NoMemory = IsCallLine version line
IsNotPerformed version line line_fault.NoCommand = IsNoCallLine version line

-- the line of the last entry, with its line feed
abbrev pub IsLastLine : State → List ℕ → Type 0
IsLastLine s line = (e : Entry) × (s.last ≡ Some e) × (line ≡ entry_line e)

-- why there is no such line: memory ran out for it, or there is no entry
abbrev pub HasNoLine : State → EntryFault → Type 0
HasNoLine s entry_fault.NoMemory = IsSome s.last
HasNoLine s entry_fault.NoEntry = s.last ≡ None

-- the lines of the configuration, as in a transcript before its last line
abbrev pub shown_lines : State → List ℕ
shown_lines s = view_lines (view s.drivers s.configuration)

-- the session's configuration is the one after this history, which is legal
pub record IsAfter (history : List Entry) (s : State) : Type 0 where
  pub legal : IsLegal s.drivers history
  pub now : s.configuration ≡ after s.drivers history
