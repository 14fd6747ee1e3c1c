-- The stages of a live session: its table, its beginning, a turn, all turns, its end.
use Rattle.std.specs.Prelude.{◌≡◌, ◌≢◌, ℕ, ◌<◌, ◌≤◌, ◌⊎◌, Bool, true, false, List, [], ◌++◌, length, Option, Result}
use Rattle.std.specs.Prelude.{Vec, Ok, Err, ⊤, codes, nat_eq}
use Rattle.std.specs.Global.{Global}
use Rattle.std.specs.Io.KnownBytes.{Consumes, Appends}
use Rattle.std.specs.List.{ends_with}
use Rattle.smx_run.specs.declared.run_fault.RunFault.TheVariants.{NoMemory}
use Rattle.smx_text.specs.Grammar.{ReadsAny}
use Rattle.smx_text.specs.GrowingTranscripts.{BeginsTranscript}
use Rattle.smx_text.specs.ProgramsText.{programs_grammar}
use Rattle.smx_text.specs.declared.text_fault.Cause.TheVariants as cause
use Rattle.smx_session.specs.Sessions.{IsStartOf, State, WantsMemory}
use Rattle.smx_run.specs.declared.input.TheConstants.{MAX_INPUT}
use Rattle.smx_live.specs.Inboxes.{FailsToRead}
use Rattle.smx_live.specs.LiveText.{HasComeSoFar, IsOutcome, IsOver, RefusesDriversOf}
use Rattle.smx_live.specs.LiveTurns.{Says}
use Rattle.smx_live.specs.Tables.{IsEndlessTable, IsTable, IsUnfinished, begins_driver, table_text}
use Rattle.smx_run.specs.declared.main_fault.MainFault.{MainFault}
use Rattle.smx_run.specs.declared.main_fault.MainFault.TheVariants.{Refused, Text, TooLong, ReadFailed, WriteFailed}
use Rattle.smx_live.specs.declared.inbox.Inbox.{Inbox}
use Rattle.smx_live.specs.declared.talk.Talk.{Talk}

-- A table of what was read, `all`, was taken, and what was read after it is held; or no table ends in what was read.
abbrev pub TableComes : Bool → ℕ → Inbox → List ℕ → Result (Vec ℕ Global) MainFault → Type 0
TableComes ended failures new all (Ok table) = record {
  parts : all ≡ table.items ++ new.held.items;
  over : IsTable ended table.items new.held.items;
  end : ended ≡ new.ended;
  fine : failures ≡ 0;
  fits : length table.items ≤ MAX_INPUT;
}
TableComes ended failures new all (Err fault) = FailsToRead (IsEndlessTable all) (IsUnfinished all) failures fault

-- these bytes were read for a table, and no others
pub record HasTable (had left : Option (List ℕ)) (ended : Bool) (failures : ℕ) (old new : Inbox) (read : List ℕ)
    (result : Result (Vec ℕ Global) MainFault) : Type 0 where
  pub consumed : Consumes had left read
  pub came : TableComes ended failures new (old.held.items ++ read) result

-- What `with_cut_line` does at the end of the input. The held bytes join the table if it has a line and they
-- begin like a driver line; else they stay held. It fails if the table would become too long, or if memory
-- runs out.
abbrev pub TakesCutLine : List ℕ → List ℕ → List ℕ → Result (Vec ℕ Global) MainFault → Type 0
TakesCutLine table held now (Ok made) =
    ((made.items ≡ table) × (now ≡ held) × ((table ≡ []) ⊎ (begins_driver held ≡ false)))
    ⊎ ((made.items ≡ table ++ held) × (now ≡ []) × (table ≢ []) × (begins_driver held ≡ true)
    × (length (table ++ held) ≤ MAX_INPUT))
TakesCutLine table held now (Err TooLong) =
    (table ≢ []) × (begins_driver held ≡ true) × (MAX_INPUT < length (table ++ held))
TakesCutLine table held now (Err (Refused fault)) = fault ≡ NoMemory
TakesCutLine table held now (Err ReadFailed) = ⊥
TakesCutLine table held now (Err (Text fault)) = ⊥
TakesCutLine table held now (Err WriteFailed) = ⊥

-- A session begins over the drivers of a table, or the text of the table or its drivers have a fault. Or
-- memory ran out: for the line `end`, if the last line is whole, or in any way that can occur when a session
-- starts.
abbrev pub Begins : List ℕ → Result Talk MainFault → Type 0
Begins table (Ok talk) = IsStartOf (table_text table) talk.session
    × (talk.progress ≡ record { entries = 0; tracing = false })
Begins table (Err (Text fault)) =
    ReadsAny programs_grammar (table_text table) (Err fault) × (fault.cause ≢ cause.NoMemory)
Begins table (Err (Refused fault)) = ((fault ≡ NoMemory)
    × ((ends_with nat_eq table (codes "\n") ≡ true) ⊎ WantsMemory (table_text table)))
    ⊎ RefusesDriversOf fault (table_text table)
Begins table (Err TooLong) = ⊥
Begins table (Err ReadFailed) = ⊥
Begins table (Err WriteFailed) = ⊥

-- the beginning of the transcript was written and flushed, or not
abbrev pub Opens : State → Option (List ℕ) → Option (List ℕ) → Bool → ℕ → Result (Unit {0}) MainFault → Type 0
Opens s = Says (λ done text. BeginsTranscript s.version s.drivers [] text)
    (λ text. BeginsTranscript s.version s.drivers [] text) ⊤

module _ (explain : Bool) (read output : List ℕ) (ended : Bool) where
  -- with this text, some session is `IsLive` so far, or it has ended
  abbrev pub IsPossible : List ℕ → Type 0
  IsPossible text = HasComeSoFar explain read ended (output ++ text) ⊎ IsOver explain read ended (output ++ text)

  -- the session `IsLive` up to here ends, because its input has ended
  abbrev pub Finishes : Option (List ℕ) → Option (List ℕ) → Bool → ℕ → Result (Unit {0}) MainFault → Type 0
  Finishes = Says (λ done text. IsOver explain read ended (output ++ text)) IsPossible ⊤

-- the session `IsLive` up to here goes on to its end, with this answer
pub record Converses (explain : Bool) (read output : List ℕ) (had left : Option (List ℕ)) (ended : Bool)
    (read_failures : ℕ) (before after : Option (List ℕ)) (flushed : Bool) (write_failures : ℕ)
    (answer : Result (Unit {0}) MainFault) : Type 0 where
  pub more : List ℕ
  pub consumed : Consumes had left more
  pub said : List ℕ
  pub appended : Appends before after said
  pub outcome : IsOutcome explain (read ++ more) (output ++ said) ended flushed read_failures write_failures answer
