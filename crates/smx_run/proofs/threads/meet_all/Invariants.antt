use Rattle.smx_run.proofs.Common.{◌≡◌, ◌≤◌, ◌+◌, ◌++◌, All, drop, length, map, vec_len, vec_capacity, into_iter_items}
use Rattle.smx_run.proofs.Common.{into_iter_len, Recorded, Seated, IsBorneOutBy, IsKnownTo, EndedProgram}
use Rattle.smx_shared.specs.Seats.{AreMetBy}
use Rattle.smx_run.proofs.RunLemmas.{StillKnows}
use Rattle.smx_run.proofs.threads.meet_all.Given as goal

abbrev pub invariant-loop-done : goal.invariant-loop-done
invariant-loop-done g l = record {
  shared : l.first.shared ≡ l.shared.name;
  known : StillKnows l.initial.first.known l.first.known;
  others : (s : Recorded) → AreMetBy s l.first.met → All (IsBorneOutBy s) l.yielded;
  met : All (IsKnownTo l.first) l.yielded;
  left : into_iter_len l.done-iterator ≡ length (into_iter_items l.done-iterator);
  rest : l.yielded ++ into_iter_items l.done-iterator ≡ drop 1 l.fn.ended.items;
  room : vec_len l.fn.ended ≤ vec_capacity l.fronts;
  still : length l.yielded + into_iter_len l.done-iterator + 1 ≡ vec_len l.fn.ended;
  counted : vec_len l.fronts ≡ length l.yielded + 1;
  fronts : l.fronts.items ≡ l.initial.fronts.items ++ map (λ (d : EndedProgram Seated). d.front) l.yielded;
}
