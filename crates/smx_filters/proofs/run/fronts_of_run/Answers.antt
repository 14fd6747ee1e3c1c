use Rattle.std.proofs.Common.{rules, inl}
use Rattle.smx_run.specs.Reports.{transcript_in}
use Rattle.smx_filters.proofs.run.fronts_of_run.Goals as goal

pub returns-clause-written : goal.returns-clause-written
returns-clause-written g c =
    let run = c.in_ok-_system.ensures in
    record {
      report = transcript_in c.args.programs.version c.in_ok-_system._system;
      promised = run.report;
      in_turn = λ few. run.in_turn (inl few);
      fronts = c.in_ok-_system.fronts;
      seen = run.fronts;
      written = search rules;
    }
