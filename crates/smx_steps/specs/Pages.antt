-- The page of a transcript, and the faults of a transcript without a page.
use Rattle.std.specs.Prelude.{◌≡◌, ℕ, suc, ◌+◌, ◌<◌, ◌≤◌, ◌⊎◌, List, ◌++◌, codes, length}
use Rattle.smx_types.specs.declared.command.Entry.{Entry}
use Rattle.smx_types.specs.declared.driver.DriverSpec.{DriverSpec}
use Rattle.smx_types.specs.declared.transcript.Transcript.{Transcript}
use Rattle.smx_model.specs.Configuration.{empty}
use Rattle.smx_model.specs.Histories.{after}
use Rattle.smx_model.specs.Views.{view}
use Rattle.smx_config.specs.DriverFaults.{RefusesDrivers}
use Rattle.smx_text.specs.GrowingTranscripts.{opening_text}
use Rattle.smx_trace.specs.Prefixes.{first_entries}
use Rattle.smx_trace.specs.Replays.{IsReplayOf}
use Rattle.smx_steps.specs.Steps.{AddsEntry, AddsStep, AddsSteps}
use Rattle.smx_steps.specs.declared.frame.TheConstants.{FOOT, HEAD}
use Rattle.smx_steps.specs.declared.pages.PageFault.{PageFault}
use Rattle.smx_steps.specs.declared.pages.PageFault.TheVariants.{Refused, TooLong}
use Rattle.smx_steps.specs.declared.pages.TheConstants.{MAX_PAGE, MAX_STEPS}

-- the step of the beginning: its lines are the header and the lines of the drivers, and its picture is that of the empty
-- configuration
abbrev pub AddsBeginning : Transcript → List ℕ → List ℕ → Type 0
AddsBeginning t before after = AddsStep t.drivers (view t.drivers empty) (codes "beginning")
    (opening_text t.version t.drivers) before after

-- The page of a transcript: a head; the step of the beginning; a step for each entry of its replay; a foot; and nothing
-- else.
pub record IsPageOf (t : Transcript) (output : List ℕ) : Type 0 where
  pub replay : Transcript
  pub replays : IsReplayOf t replay
  pub begun : List ℕ
  pub beginning : AddsBeginning t HEAD.now begun
  pub stepped : List ℕ
  pub steps : AddsSteps t.drivers empty 0 replay.entries begun stepped
  pub ends : output ≡ stepped ++ FOOT.now

-- the text contains the step of this entry, which is performed after these; entries are counted from 1
abbrev pub HasStepOf : List DriverSpec → List Entry → Entry → List ℕ → Type 0
HasStepOf drivers before e output =
    (front back rest : List ℕ) × AddsEntry drivers (after drivers before) (suc (length before)) e front back
    × (output ≡ back ++ rest)

-- a page of this number of entries is over a limit: there are more entries than a page can have, or such a page is too
-- long
abbrev pub IsOver : Transcript → ℕ → Type 0
IsOver t count =
    ((MAX_STEPS < length t.entries) × (count ≡ MAX_STEPS + 1))
    ⊎ ((length t.entries ≤ MAX_STEPS) × (count ≤ length t.entries)
    × (text : List ℕ) × IsPageOf (first_entries count t) text × (MAX_PAGE < length text))

-- the page is over a limit; or it has few enough entries, and the drivers are refused, or memory ran out
abbrev pub RefusesPage : Transcript → PageFault → Type 0
RefusesPage t (TooLong count) = IsOver t count
RefusesPage t (Refused fault) = (length t.entries ≤ MAX_STEPS) × RefusesDrivers t.drivers fault
