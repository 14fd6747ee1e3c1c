-- A page that is being written. No public clause needs this.
use Rattle.std.specs.Prelude.{◌≡◌, ℕ, ◌+◌, ◌<◌, ◌≤◌, List, length, take}
use Rattle.smx_types.specs.declared.command.Entry.{Entry}
use Rattle.smx_types.specs.declared.driver.DriverSpec.{DriverSpec}
use Rattle.smx_model.specs.Commands.{step}
use Rattle.smx_model.specs.Configuration.{empty}
use Rattle.smx_model.specs.Histories.{after}
use Rattle.smx_config.specs.Machine.{Machine}
use Rattle.smx_config.specs.declared.config_fault.ConfigFault.TheVariants.{NoMemory}
use Rattle.smx_trace.specs.Answers.{answered, answers}
use Rattle.smx_steps.specs.Steps.{AddsEntry, AddsSteps}
use Rattle.smx_steps.specs.declared.frame.TheConstants.{FOOT}
use Rattle.smx_steps.specs.declared.pages.PageFault.{PageFault}
use Rattle.smx_steps.specs.declared.pages.PageFault.TheVariants.{Refused, TooLong}
use Rattle.smx_steps.specs.declared.pages.TheConstants.{MAX_PAGE}

-- the command of an entry is performed, and its step is appended, with the reply that it gets
pub record PerformsStep (number : ℕ) (e : Entry) (m n : Machine) (before after : List ℕ) : Type 0 where
  pub drivers : n.drivers ≡ m.drivers
  pub performed : n.configuration ≡ (step m.drivers m.configuration e.process e.command).0
  pub added : AddsEntry m.drivers m.configuration number (answered m.drivers m.configuration e) before after

-- A page up to these entries: its configuration is the one after them, and after its beginning it has their steps, with
-- the replies that they get.
pub record HasStepped (drivers : List DriverSpec) (begun : List ℕ) (asked : List Entry) (m : Machine)
    (text : List ℕ) : Type 0 where
  pub same : m.drivers ≡ drivers
  pub now : m.configuration ≡ after drivers asked
  pub written : AddsSteps drivers empty 0 (answers drivers asked) begun text

-- a page was given up: up to this number of entries it is too long, or memory ran out
abbrev pub IsStopped : List DriverSpec → List ℕ → List Entry → PageFault → Type 0
IsStopped drivers begun entries (TooLong count) =
    (m : Machine) × (text : List ℕ) × HasStepped drivers begun (take count entries) m text
    × (count ≤ length entries) × (MAX_PAGE < length text + length FOOT.now)
IsStopped drivers begun entries (Refused fault) = fault ≡ NoMemory
