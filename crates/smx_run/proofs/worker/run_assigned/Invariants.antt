use Rattle.smx_run.proofs.Common.{◌≡◌, ◌≤◌, ◌+◌, All, map, length, vec_len, vec_capacity, into_iter_len, given}
use Rattle.smx_run.proofs.Common.{called, into_iter_items}
use Rattle.smx_run.specs.Assignments.{HasEndedWith, IsToRunWith}
use Rattle.smx_run.proofs.worker.run_assigned.Given as goal

abbrev pub invariant-loop-job : goal.invariant-loop-job
invariant-loop-job g l = record {
  room : vec_len l.fn.assignment ≤ vec_capacity l.done;
  left : length l.yielded + into_iter_len l.job-iterator ≡ vec_len l.fn.assignment;
  counted : vec_len l.done ≡ length l.yielded;
  fresh : All (IsToRunWith (g.D.Door.is_seat l.door) g.D.Door.known) (into_iter_items l.job-iterator);
  called : map (called g.D.Door.known) l.done.items ≡ map (given g.D.Door.known) l.yielded;
  ended : All (HasEndedWith (g.D.Door.is_seat l.door) g.D.Door.known) l.done.items;
}
