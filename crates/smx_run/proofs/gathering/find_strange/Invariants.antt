use Rattle.smx_run.proofs.Common.{ℕ, ◌<◌, All, Entry, MAX_PROCESSES, IsBorneOut}
use Rattle.smx_run.proofs.gathering.find_strange.Given as goal

abbrev pub invariant-loop-number : goal.invariant-loop-number
invariant-loop-number l = record {
  borne_out : (p : ℕ) → p < l.number → IsBorneOut l.history l.transcripts p;
  processes : 0 < l.number → All (λ (e : Entry). e.process < MAX_PROCESSES) l.history;
}
