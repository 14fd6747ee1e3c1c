use Rattle.smx_run.proofs.Common.{◌≡◌, ◌++◌, length, into_iter_items, into_iter_len, IsSoundSystem}
use Rattle.smx_run.specs.Alone.{PerformedAlone}
use Rattle.smx_run.proofs.run.perform_all.Given as goal

abbrev pub invariant-loop-command : goal.invariant-loop-command
invariant-loop-command g l = record {
  performed : PerformedAlone l.process l.fn.system l.yielded l.system;
  sound : IsSoundSystem l.fn.system → IsSoundSystem l.system;
  numbered : l.number ≡ length l.yielded;
  all : l.yielded ++ into_iter_items l.command-iterator ≡ l.fn.commands;
  left : into_iter_len l.command-iterator ≡ length (into_iter_items l.command-iterator);
}
