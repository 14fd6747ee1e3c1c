-- A trace that is being written.
use Rattle.std.specs.Prelude.{◌≡◌, ℕ, Bool, List, ◌++◌}
use Rattle.smx_types.specs.declared.command.Entry.{Entry}
use Rattle.smx_types.specs.declared.driver.DriverSpec.{DriverSpec}
use Rattle.smx_types.specs.declared.view.ConfigView.{ConfigView}
use Rattle.smx_model.specs.Configuration.{empty}
use Rattle.smx_model.specs.Histories.{after}
use Rattle.smx_model.specs.KeptConfigurations.{IsKept}
use Rattle.smx_model.specs.Views.{view}
use Rattle.smx_config.specs.Machine.{Machine}
use Rattle.smx_model.specs.Commands.{step}
use Rattle.smx_trace.specs.Answers.{answered, answers}
use Rattle.smx_trace.specs.Traces.{entry_lines_from, lines_of_entry, trace_lines_text}

-- the view of this configuration, which has the invariant
pub record IsNow (m : Machine) (v : ConfigView) : Type 0 where
  pub kept : IsKept m.drivers m.configuration
  pub is : v ≡ view m.drivers m.configuration

-- An entry is traced: its command is performed, and its line, with the reply that it gets, and the lines below it are
-- appended to the text.
pub record TracesEntry (each : Bool) (e : Entry) (m n : Machine) (text more : List ℕ) : Type 0 where
  pub drivers : n.drivers ≡ m.drivers
  pub performed : n.configuration ≡ (step m.drivers m.configuration e.process e.command).0
  pub written : more ≡ text
      ++ trace_lines_text m.drivers
      (lines_of_entry each m.drivers m.configuration (answered m.drivers m.configuration e))

-- A trace up to these entries: its configuration is the one after them, and after its opening it has their lines, with
-- the replies that they get, and the lines below each.
pub record HasTraced (each : Bool) (drivers : List DriverSpec) (opening : List ℕ) (asked : List Entry) (m : Machine)
    (text : List ℕ) : Type 0 where
  pub same : m.drivers ≡ drivers
  pub now : m.configuration ≡ after drivers asked
  pub written : text ≡ opening ++ trace_lines_text drivers (entry_lines_from each drivers empty (answers drivers asked))
