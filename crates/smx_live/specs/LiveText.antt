-- The input and the output of a live session.
use Rattle.std.specs.Prelude.{◌≡◌, ◌≢◌, ℕ, ◌+◌, ◌^◌, ◌≤◌, ◌⊎◌, Bool, true, false, List, [], ◌∷◌, ◌++◌, length, map}
use Rattle.std.specs.Prelude.{take}
use Rattle.std.specs.Prelude.{Option, Result, Ok, Err, codes}
use Rattle.std.specs.Io.KnownBytes.{Consumes, Appends}
use Rattle.smx_types.specs.ProgramLists.{ProgramLists}
use Rattle.smx_types.specs.declared.limits.TheConstants.{MAX_COMMANDS}
use Rattle.smx_types.specs.declared.transcript.Transcript.{Transcript}
use Rattle.smx_model.specs.DriverList.{IsDriverList}
use Rattle.smx_model.specs.Histories.{after}
use Rattle.smx_model.specs.Views.{view}
use Rattle.smx_run.specs.RunFaults.{RefusesAlone}
use Rattle.smx_run.specs.declared.run_fault.RunFault.{RunFault}
use Rattle.smx_run.specs.declared.run_fault.RunFault.TheVariants.{NoMemory}
use Rattle.smx_words.specs.Spelling.{entry_words}
use Rattle.smx_words.specs.Words.{text_of}
use Rattle.smx_text.specs.Grammar.{IsOneLine, ReadsAny, Spells}
use Rattle.smx_text.specs.GrowingTranscripts.{transcript_with, BeginsTranscript}
use Rattle.smx_text.specs.ProgramsText.{programs_grammar}
use Rattle.smx_text.specs.TranscriptText.{IsSpellableView, SpellsTranscript, view_lines}
use Rattle.smx_text.specs.declared.text_fault.Cause.TheVariants as cause
use Rattle.smx_config.specs.Verdicts.{IsVerdict}
use Rattle.smx_config.specs.declared.verdict.Verdict.TheVariants.{Legal}
use Rattle.smx_session.specs.Sessions.{State, HasDrivers}
use Rattle.smx_run.specs.declared.input.TheConstants.{MAX_INPUT}
use Rattle.smx_live.specs.Inboxes.{IsShort, IsTooLong}
use Rattle.smx_live.specs.Tables.{HasShortTableOf, IsEndlessTable, IsTable, IsUnfinished, table_text}
use Rattle.smx_live.specs.Turns.{AreAnswered, AreFollowed, Turn, asked_text, entries_of, said_text, traces_behind}
use Rattle.smx_live.specs.declared.talk.Progress.{Progress}
use Rattle.smx_run.specs.declared.main_fault.MainFault.{MainFault}
use Rattle.smx_run.specs.declared.main_fault.MainFault.TheVariants.{Refused, Text, TooLong, ReadFailed, WriteFailed}

-- ---- a session up to now

-- A session that has read and written these bytes so far. It has this state and this progress, and holds these bytes.
-- Its input has ended or not, and it explains lines that are not commands, or doesn't.
pub record IsLive (explain : Bool) (read : List ℕ) (ended : Bool) (output : List ℕ) (s : State) (far : Progress)
    (held : List ℕ) : Type 0 where
  -- It read a driver table, the lines that it answered, and the bytes that it holds.
  pub table : List ℕ
  pub turns : List Turn
  pub read_is : read ≡ table ++ (asked_text turns ++ held)
  -- The table ends after its last line, not earlier, and is not too long.
  pub over : IsTable ended table (asked_text turns ++ held)
  pub fits : length table ≤ MAX_INPUT
  -- It spells programs whose drivers are valid.
  pub programs : ProgramLists
  pub spelled : Spells (programs_grammar s.version) (table_text table) programs
  pub drivers : s.drivers ≡ programs.drivers
  pub valid_drivers : IsDriverList s.drivers
  -- Each line is answered by the entry of its command, by the configuration, or by why it is refused.
  pub answered : AreAnswered s.version s.drivers [] turns
  pub few : length (entries_of turns) ≤ MAX_COMMANDS
  -- Below the line of an entry are its changes, if entries are traced then. Below the answer to a line that is not a
  -- command is its explanation, if lines are explained.
  pub followed : AreFollowed explain s.version s.drivers [] false turns
  pub tracing : far.tracing ≡ traces_behind false turns
  -- It wrote the beginning of a transcript, and these answers.
  pub opening : List ℕ
  pub begins : BeginsTranscript s.version s.drivers [] opening
  pub written : output ≡ opening ++ said_text turns
  -- The session's configuration is the one after these entries.
  pub now : s.configuration ≡ after s.drivers (entries_of turns)
  pub counted : far.entries ≡ length (entries_of turns)

-- some session is `IsLive` with these bytes read and written
abbrev pub HasComeSoFar : Bool → List ℕ → Bool → List ℕ → Type 0
HasComeSoFar explain read ended output =
    (s : State) × (far : Progress) × (held : List ℕ) × IsLive explain read ended output s far held

-- ---- its end

-- the last lines of its transcript
abbrev pub closing_text : State → List ℕ
closing_text s = view_lines (view s.drivers s.configuration) ++ codes "end\n"

-- the answer to a last line without a line feed
abbrev pub cut_words : List ℕ → List ℕ
cut_words [] = []
cut_words (b ∷ bs) = codes "? cut\n"

-- the line `end` comes next, or the input has ended, within a line or not
abbrev pub IsAtEnd : Bool → List ℕ → List ℕ → Type 0
IsAtEnd ended held words = ((more : List ℕ) × (held ≡ codes "end\n" ++ more) × (words ≡ []))
    ⊎ ((ended ≡ true) × IsShort held × (words ≡ cut_words held))

-- A session that has ended; its input has ended or not.
pub record IsOver (explain : Bool) (read : List ℕ) (ended : Bool) (output : List ℕ) : Type 0 where
  -- It wrote this before its end,
  pub before : List ℕ
  pub s : State
  pub far : Progress
  pub held : List ℕ
  pub live : IsLive explain read ended before s far held
  -- has reached its end,
  pub words : List ℕ
  pub at_end : IsAtEnd ended held words
  -- and then wrote the last lines of its transcript, and nothing else.
  pub written : output ≡ before ++ (words ++ closing_text s)
  pub spellable : IsSpellableView (view s.drivers s.configuration)

module _ {explain : Bool} {read : List ℕ} {ended : Bool} {output : List ℕ} (o : IsOver explain read ended output) where
  -- the transcript of the session's entries, with the configuration after them
  abbrev pub transcript_of : Transcript
  transcript_of = transcript_with o.s.version o.s.drivers (entries_of o.live.turns) (view o.s.drivers o.s.configuration)

  -- what was written without the answers that are not entries: the opening, each entry, the last lines
  abbrev pub transcript_part : List ℕ
  transcript_part = o.live.opening ++ text_of (map entry_words (entries_of o.live.turns)) ++ closing_text o.s

  -- that part is the transcript of a legal history, and a check finds it legal
  pub record IsLegalTranscript : Type 0 where
    pub spelled : SpellsTranscript transcript_part transcript_of
    pub legal : IsVerdict o.s.drivers (entries_of o.live.turns) (view o.s.drivers o.s.configuration) Legal

-- ---- from bytes to bytes

-- nothing was written yet, or some session is `IsLive` so far
abbrev pub IsBroken : Bool → List ℕ → Bool → List ℕ → Type 0
IsBroken explain read ended output = (output ≡ []) ⊎ HasComeSoFar explain read ended output

-- nothing was written, because the table had not ended; or each whole line was answered, and the answers are
-- flushed
abbrev pub HasAnsweredAll : Bool → List ℕ → Bool → List ℕ → Bool → Type 0
HasAnsweredAll explain read ended output flushed = ((output ≡ []) × IsUnfinished read)
    ⊎ ((flushed ≡ true) × (s : State) × (far : Progress) × (held : List ℕ)
    × IsLive explain read ended output s far held × IsOneLine held)

-- the table or the line after it has more than 16,777,216 bytes; or a session is `IsLive` so far, and a line
-- of it has more bytes, or so many bytes were read that the count of lines can overflow
abbrev pub IsEndless : Bool → List ℕ → Bool → List ℕ → Type 0
IsEndless explain read ended output = ((output ≡ []) × IsEndlessTable read)
    ⊎ ((s : State) × (far : Progress) × (held : List ℕ) × IsLive explain read ended output s far held
    × (IsTooLong held ⊎ (2 ^ 64 ≤ length read + 1)))

-- neither the reader nor the writer has failed
abbrev pub AreFine : ℕ → ℕ → Type 0
AreFine read_failures write_failures = (read_failures ≡ 0) × (write_failures ≡ 0)

-- the text spells programs whose drivers are refused with this fault
abbrev pub RefusesDriversOf : RunFault → List ℕ → Type 0
RefusesDriversOf fault text = HasDrivers text (λ drivers. RefusesAlone drivers fault)

module _ (explain : Bool) (read output : List ℕ) (ended flushed : Bool) (read_failures write_failures : ℕ) where
  -- The bytes read and written, if a session returns this result.
  abbrev pub IsOutcome : Result (Unit {0}) MainFault → Type 0
  -- The session has ended, and all is flushed.
  IsOutcome (Ok done) = AreFine read_failures write_failures × (flushed ≡ true) × IsOver explain read ended output
  -- There was no session: the text of the table has a fault, and is not too long. Out-of-memory is not
  -- reported this way.
  IsOutcome (Err (Text fault)) = AreFine read_failures write_failures × (output ≡ [])
      × (fault.cause ≢ cause.NoMemory)
      × HasShortTableOf read ended (λ text. ReadsAny programs_grammar text (Err fault))
  -- The drivers are refused, and the table is not too long; or memory ran out, before there was a session or
  -- after any line of it.
  IsOutcome (Err (Refused fault)) = AreFine read_failures write_failures
      × (((fault ≡ NoMemory) × IsBroken explain read ended output)
      ⊎ ((output ≡ []) × HasShortTableOf read ended (RefusesDriversOf fault)))
  -- The table or a line has more than 16,777,216 bytes.
  IsOutcome (Err TooLong) = AreFine read_failures write_failures × IsEndless explain read ended output
  -- The reader failed, and every whole line had been answered.
  IsOutcome (Err ReadFailed) =
      (read_failures ≡ 1) × (write_failures ≡ 0) × HasAnsweredAll explain read ended output flushed
  -- The writer failed: a part of what was to be written next has been written.
  IsOutcome (Err WriteFailed) = (read_failures ≡ 0) × (write_failures ≡ 1) × (n : ℕ) × (whole : List ℕ)
      × (output ≡ take n whole) × (HasComeSoFar explain read ended whole ⊎ IsOver explain read ended whole)

-- A session that has returned this result, after it read these bytes. Its input has ended or not. It explains lines, or
-- doesn't; its output is flushed, or not; and its reader and its writer have failed this number of times.
pub record Returned (read : List ℕ) (ended : Bool) (result : Result (Unit {0}) MainFault) : Type 0 where
  pub explain : Bool
  pub output : List ℕ
  pub flushed : Bool
  pub reads : ℕ
  pub writes : ℕ
  pub outcome : IsOutcome explain read output ended flushed reads writes result

-- A session from bytes to bytes, which explains lines that are not commands, or doesn't. The reader had `had` and has
-- `left`, and has ended or not. The writer held `before` and holds `after`, flushed or not. In this call each has
-- failed this number of times.
pub record LivesText (explain : Bool) (had left : Option (List ℕ)) (ended : Bool) (read_failures : ℕ)
    (before after : Option (List ℕ)) (flushed : Bool) (write_failures : ℕ)
    (answer : Result (Unit {0}) MainFault) : Type 0 where
  -- These bytes were read, and no others.
  pub read : List ℕ
  pub consumed : Consumes had left read
  -- These were written, and no others.
  pub output : List ℕ
  pub appended : Appends before after output
  -- They are what a session reads and writes if it returns this result.
  pub outcome : IsOutcome explain read output ended flushed read_failures write_failures answer
