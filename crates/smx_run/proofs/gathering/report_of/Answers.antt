use Rattle.smx_run.proofs.Common.{rules}
use Rattle.smx_run.proofs.gathering.report_of.Goals as goal

pub returns-clause-report : goal.returns-clause-report
returns-clause-report c =
    let parts = c.into_parts-entries.ensures in
    record {
      sound = parts.sound;
      drivers = search rules;
      entries = search rules;
      shown = rw (parts.drivers, parts.now) at c.in_ok-view.ensures;
    }
