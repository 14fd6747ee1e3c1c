-- The main theorem: the properties of every report of a run, for any programs.
use Rattle.std.specs.Prelude.{◌≡◌}
use Rattle.smx_types.specs.ProgramLists.{ProgramLists}
use Rattle.smx_types.specs.declared.transcript.Transcript.{Transcript}
use Rattle.smx_model.specs.DriverList.{IsDriverList}
use Rattle.smx_model.specs.Histories.{IsLegal, after, HoldsPrograms}
use Rattle.smx_model.specs.LawfulHistories.{AreDropsAllowed, IsLawfulThroughout}
use Rattle.smx_model.specs.Views.{view}

-- The report of a run of these programs. `lawful` and `drops` follow from `legal` (`lawful_after_each_entry`,
-- `few_commands_drop`); they are here for the reader.
pub record IsReportOf (programs : ProgramLists) (report : Transcript) : Type 0 where
  -- The drivers are those of the programs, and a configuration can have them.
  pub drivers : report.drivers ≡ programs.drivers
  pub valid_drivers : IsDriverList programs.drivers
  -- The entries are one history of the sequential configuration, with its replies and faults.
  pub legal : IsLegal programs.drivers report.entries
  -- The history has the commands of each program in order, each once, and no others.
  pub holds : HoldsPrograms report.entries programs.programs
  -- The view is that of the configuration after the whole history.
  pub shown : report.view ≡ view programs.drivers (after programs.drivers report.entries)
  -- After each entry the links form no cycle, and no stream is below two links. Every message taken in was delivered
  -- once, is queued, or is named as dropped.
  pub lawful : IsLawfulThroughout programs.drivers report.entries
  -- Only unlink, punlink, close, exit and flush name dropped messages.
  pub drops : AreDropsAllowed report.entries
