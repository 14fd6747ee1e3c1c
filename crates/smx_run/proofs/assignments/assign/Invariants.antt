use Rattle.smx_run.proofs.Common.{◌≡◌, ◌<◌, ℕ, ◌++◌, [], All, length, map, get_or, vec_len, range_with_len}
use Rattle.smx_run.proofs.Common.{into_iter_items, into_iter_len, Seated, SharedId, assigned_calls, assignment_of}
use Rattle.smx_run.proofs.Common.{AreFresh, IsFresh, numbered}
use Rattle.smx_run.proofs.assignments.assign.Given as goal

abbrev pub invariant-loop-seat : goal.invariant-loop-seat
invariant-loop-seat g l = record {
  workers : vec_len l.assignments ≡ l.workers;
  counted : into_iter_len l.seat-iterator ≡ length (into_iter_items l.seat-iterator);
  left : into_iter_len l.programs ≡ length (into_iter_items l.programs);
  seats : map (λ (s : Seated). s.known.process) (into_iter_items l.seat-iterator)
      ≡ range_with_len (length l.yielded) (length (into_iter_items l.programs));
  fresh : (name : SharedId) → All (IsFresh name) l.fn.seats.items
      → All (IsFresh name) (into_iter_items l.seat-iterator) × All (AreFresh name) l.assignments.items;
  assigned : (k : ℕ) → k < l.workers
      → get_or (map assigned_calls l.assignments.items) k [] ++ assignment_of l.workers
      (numbered (length l.yielded) (into_iter_items l.programs)) k
      ≡ assignment_of l.workers (numbered 0 l.fn.programs) k;
}
