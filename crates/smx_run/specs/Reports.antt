-- The report of a system.
use Rattle.std.specs.Prelude.{◌≡◌}
use Rattle.smx_types.specs.declared.transcript.Transcript.{Transcript}
use Rattle.smx_types.specs.declared.version.Version.{Version}
use Rattle.smx_model.specs.Histories.{after}
use Rattle.smx_model.specs.Views.{view}
use Rattle.smx_shared.specs.Recorded.{Recorded, IsSoundSystem}
use Rattle.smx_run.specs.declared.gathering.Report.{Report}

-- the transcript of a report, in a text of this version: everything except the fronts
abbrev pub transcript_of : Version → Report → Transcript
transcript_of version report = record {
  version = version;
  drivers = report.drivers;
  entries = report.entries;
  view = report.view;
}

-- the drivers, the history and the view after it of a system, as a transcript in a text of this version
abbrev pub transcript_in : Version → Recorded → Transcript
transcript_in version s = record {
  version = version;
  drivers = s.drivers;
  entries = s.history;
  view = view s.drivers (after s.drivers s.history);
}

-- its drivers, its history, and the view of the configuration after it
pub record Reports (s : Recorded) (report : Report) : Type 0 where
  pub sound : IsSoundSystem s
  pub drivers : report.drivers ≡ s.drivers
  pub entries : report.entries ≡ s.history
  pub shown : report.view ≡ view s.drivers (after s.drivers s.history)
