use Rattle.smx_run.proofs.Common.{◌≡◌, ◌++◌, length, into_iter_items, into_iter_len}
use Rattle.smx_run.specs.Assignments.{HasCalled}
use Rattle.smx_run.proofs.worker.run_program.Given as goal

abbrev pub invariant-loop-command : goal.invariant-loop-command
invariant-loop-command g l = record {
  seat : g.D.Door.is_seat l.door l.seat;
  called : HasCalled (g.D.Door.known l.fn.seat) l.yielded (g.D.Door.known l.seat);
  numbered : l.number ≡ length l.yielded;
  all : l.yielded ++ into_iter_items l.command-iterator ≡ l.fn.program;
  left : into_iter_len l.command-iterator ≡ length (into_iter_items l.command-iterator);
}
