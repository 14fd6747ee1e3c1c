use Rattle.smx_run.proofs.Common.{◌≡◌, ◌≤◌, ◌<◌, ℕ, ◌++◌, [], All, drop, map, get_or, vec_len, vec_capacity, SharedId}
use Rattle.smx_run.proofs.Common.{made_calls, assignment_of, numbered}
use Rattle.smx_run.specs.Assignments.{HaveEnded}
use Rattle.smx_run.proofs.assignments.collect.Given as goal

abbrev pub invariant-loop-process : goal.invariant-loop-process
invariant-loop-process g l = record {
  room : l.processes ≤ vec_capacity l.ended;
  counted : vec_len l.ended ≡ l.process;
  workers : vec_len l.assignments ≡ vec_len l.fn.assignments;
  ended : (name : SharedId) → All (HaveEnded name) l.fn.assignments.items
      → All (HaveEnded name) l.assignments.items × HaveEnded name l.ended;
  assigned : (k : ℕ) → k < vec_len l.fn.assignments → get_or (map made_calls l.assignments.items) k []
      ≡ assignment_of (vec_len l.fn.assignments) (numbered l.process (drop l.process l.programs.value)) k;
  called : made_calls l.ended ++ numbered l.process (drop l.process l.programs.value) ≡ numbered 0 l.programs.value;
}
