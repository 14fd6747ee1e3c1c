use Rattle.smx_run.proofs.Common.{◌≡◌, ◌≤◌, ◌+◌, ◌++◌, map, length, vec_len, vec_capacity, into_iter_items}
use Rattle.smx_run.proofs.Common.{into_iter_len, call_of, MAX_PROCESSES, IsSoundSystem, AreFrontsFrom, calls_from}
use Rattle.smx_run.proofs.run.run_alone.Given as goal

abbrev pub invariant-loop-commands : goal.invariant-loop-commands
invariant-loop-commands g l = record {
  drivers : l.system.drivers ≡ l.fn.system.drivers;
  limit : l.system.limit ≡ l.fn.system.limit;
  sound : IsSoundSystem l.system;
  all : l.yielded ++ into_iter_items l.commands-iterator ≡ l.fn.programs;
  counted : into_iter_len l.commands-iterator ≡ length (into_iter_items l.commands-iterator);
  within : l.number + length (into_iter_items l.commands-iterator) ≤ MAX_PROCESSES;
  number : l.number ≡ length l.yielded;
  room : length l.fn.programs ≤ vec_capacity l.fronts;
  seen : vec_len l.fronts ≡ length l.yielded;
  calls : map call_of l.system.history ≡ calls_from 0 l.yielded;
  fronts : AreFrontsFrom l.system.drivers l.system.history 0 l.yielded l.fronts.items;
}
