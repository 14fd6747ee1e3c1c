use Rattle.smx_run.proofs.Common.{◌<◌, All, take, Entry, MAX_PROCESSES, IsMet}
use Rattle.smx_run.specs.Gathering.{entries_of}
use Rattle.smx_run.proofs.gathering.is_borne_out.Given as goal

abbrev pub invariant-loop-entry : goal.invariant-loop-entry
invariant-loop-entry l = record {
  processes : All (λ (e : Entry). e.process < MAX_PROCESSES) (take l.entry-index l.history);
  met : IsMet l.transcript (entries_of l.number (take l.entry-index l.history)) l.met;
}
