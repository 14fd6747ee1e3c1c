-- The main theorem over bytes: the answer of a run to the bytes that it read, and its output.
use Rattle.std.specs.Prelude.{◌≡◌, ◌≤◌, ◌⊎◌, ℕ, Bool, true, false, List, length, map, Option, Result, Vec}
use Rattle.std.specs.Prelude.{Ok, Err}
use Rattle.std.specs.Global.{Global}
use Rattle.smx_types.specs.ProgramLists.{ProgramLists}
use Rattle.smx_types.specs.declared.transcript.Transcript.{Transcript}
use Rattle.smx_model.specs.Headline.{IsReportOf}
use Rattle.smx_model.specs.Histories.{call_of}
use Rattle.smx_run.specs.Fronts.{AreFrontsFrom}
use Rattle.smx_run.specs.ProgramOrder.{calls_from}
use Rattle.smx_run.specs.RunFaults.{RefusesAlone, RefusesRun}
use Rattle.smx_run.specs.declared.run_fault.RunFault.{RunFault}
use Rattle.smx_shared.specs.declared.front.Front.{Front}
use Rattle.smx_text.specs.ProgramLines.{Line}
use Rattle.smx_text.specs.ProgramsText.{programs_grammar}
use Rattle.smx_text.specs.TranscriptText.{SpellsTranscript}
use Rattle.smx_filters.specs.Filters.{Filter, FiltersText}
use Rattle.smx_filters.specs.FrontsText.{fronts_text}
use Rattle.smx_run.specs.declared.main_fault.MainFault.{MainFault}

-- the transcript of a report that is promised for the programs, in their version, for a run by this number of workers;
-- for one worker there is at most one such report
pub record IsTranscriptFor (workers : ℕ) (programs : ProgramLists) (output : List ℕ) : Type 0 where
  -- There is a report that is promised for these programs, in their version. On one worker one program comes after the
  -- other.
  pub report : Transcript
  pub promised : IsReportOf programs report
  pub in_turn : workers ≤ 1 → map call_of report.entries ≡ calls_from 0 programs.programs
  pub version : report.version ≡ programs.version
  -- The output is its transcript, and nothing else.
  pub written : SpellsTranscript output report

-- the fronts of such a report, of a run by this number of workers
pub record IsFrontsTextFor (workers : ℕ) (programs : ProgramLists) (output : List ℕ) : Type 0 where
  -- There is a report that is promised for these programs. On one worker it has one program after the other.
  pub report : Transcript
  pub promised : IsReportOf programs report
  pub in_turn : workers ≤ 1 → map call_of report.entries ≡ calls_from 0 programs.programs
  -- There is one front for each program, that of a beginning of the history which holds all commands of the program.
  pub fronts : List Front
  pub seen : AreFrontsFrom report.drivers report.entries 0 programs.programs fronts
  -- The output is their text, and nothing else.
  pub written : output ≡ fronts_text fronts

-- the output of this number of workers: the fronts or the transcript
abbrev pub IsWrittenFor : Bool → ℕ → ProgramLists → List ℕ → Type 0
IsWrittenFor true workers programs output = IsFrontsTextFor workers programs output
IsWrittenFor false workers programs output = IsTranscriptFor workers programs output

-- how a run by this number of workers may be refused: if one worker runs everything, not by faults of sharing
abbrev pub IsRefusedFor : ℕ → ProgramLists → RunFault → Type 0
IsRefusedFor workers programs fault = RefusesRun programs.drivers fault
    × ((workers ≤ 1) ⊎ (length programs.programs ≤ 1) → RefusesAlone programs.drivers fault)

-- A run by this number of workers reads programs and writes the fronts or the transcript of a report. Its answer says
-- only that it is done.
abbrev pub running : Bool → ℕ → Filter ProgramLists Line (Unit {0})
running fronts workers = record {
  grammar = programs_grammar;
  Gives = λ programs done output. IsWrittenFor fronts workers programs output;
  Refuses = IsRefusedFor workers;
}

-- an answer with only a text, as the list of its bytes
abbrev pub items_of : Result (Vec ℕ Global) MainFault → Result (Unit {0} × List ℕ) MainFault
items_of (Ok v) = Ok (tt, v.items)
items_of (Err e) = Err e

-- a run from bytes to bytes
abbrev pub RunsText : Bool → ℕ → Option (List ℕ) → Option (List ℕ) → Bool → ℕ
    → Option (List ℕ) → Option (List ℕ) → Bool → ℕ → Result (Unit {0}) MainFault → Type 0
RunsText fronts workers = FiltersText (running fronts workers)
