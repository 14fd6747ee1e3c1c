use Rattle.smx_run.proofs.Common.{◌≡◌, ◌≤◌, [], All, map, vec_len, vec_capacity, SharedId, assigned_calls, AreFresh}
use Rattle.smx_run.specs.Assignments.{assignments_of}
use Rattle.smx_run.proofs.assignments.empty_assignments.Given as goal

abbrev pub invariant-loop : goal.invariant-loop
invariant-loop g l = record {
  room : l.workers ≤ vec_capacity l.assignments;
  counted : vec_len l.assignments ≡ l.counter;
  fresh : (name : SharedId) → All (AreFresh name) l.assignments.items;
  none : map assigned_calls l.assignments.items ≡ assignments_of l.counter [];
}
