use Rattle.smx_run.proofs.Common.{rules, ◌≡◌, ◌+◌, ◌%◌, ◌<◌, ◌++◌, ◌∷◌, [], ℕ, arith, length, map, ap, refl, subst, sym}
use Rattle.smx_run.proofs.Common.{◌∙◌, into_iter_items, length-append, length-map, given, known_at, assigned_calls}
use Rattle.smx_run.proofs.Common.{assignment_of, calls_of, numbered, AreFresh, Calls, IsFresh}
use Rattle.std.proofs.Math.Nat.{mod-lt}
use Rattle.std.proofs.lemmas.List.Elements.{All-set}
use Rattle.smx_run.proofs.AssignmentLemmas.{assignments_are, none_assigned, none_left, all_assigned, next_seat}
use Rattle.smx_run.proofs.AssignmentLemmas.{all_more, assign_next, pushed, put_more, take_off}
use Rattle.smx_run.proofs.assignments.assign.Goals as goal

pub loop-seat-init : goal.loop-seat-init
loop-seat-init g c =
    let programs : into_iter_items c.into_iter-programs.result ≡ c.args.programs = c.into_iter-programs.ensures.rest
    ∙ c.into_vec.ensures in
    let seats = c.into_iter-seat-iterator.ensures.into_iter_gives.0 in
    record {
      workers = c.in_ok-assignments.ensures.workers;
      counted = search rules;
      left = search rules;
      seats = rw (seats, programs) c.requires.seats;
      fresh = λ name all. (rw seats all, c.in_ok-assignments.ensures.fresh name);
      assigned = λ k below. rw programs
          (none_assigned c.args.workers _ c.in_ok-assignments.ensures.none k below
          (assignment_of c.args.workers (numbered 0 c.args.programs) k));
    }

pub loop-seat-preserved : goal.loop-seat-preserved
loop-seat-preserved g c =
    let before = c.loop-seat.invariant in
    let n : ℕ = length c.loop-seat.yielded in
    let items = c.in-Some-next.ensures.items in
    let next = next_seat n _ _ c.in-Some.seat _ _ c.in-Some-next.program c.in-Some.ensures.steps.0 items
    before.seats in
    let more : length (c.loop-seat.yielded ++ c.in-Some.seat ∷ [])
    ≡ n + 1 = omega (arith, length-append c.loop-seat.yielded (c.in-Some.seat ∷ [])) in
    let one : Calls = (c.in-Some.seat.known.process, calls_of c.in-Some.seat.known.process c.in-Some-next.program) in
    let place : ℕ = c.get.result % c.len.result in
    let at : place ≡ one.0 % c.args.workers =
    rw (c.get.ensures.value, c.process.ensures, c.len.ensures, before.workers) refl in
    let within : place < c.args.workers = rw at (mod-lt one.0 c.requires.workers) in
    let assignment = c.index_mut.result.now in
    let given_more = put_more assigned_calls c.args.workers c.loop-seat.assignments.items place c.push.new.self
    assignment one (omega (arith, before.workers)) at within
    (pushed (given known_at) _ _ _ _ _ c.in_ok-push.ensures.items (ap assigned_calls c.index_mut.ensures.value) refl) in
    record {
      workers = search rules;
      counted = omega (arith, before.counted, c.in-Some.ensures.steps.1, ap length c.in-Some.ensures.steps.0);
      left = search rules;
      seats = rw more next.1;
      fresh = λ name all.
          let was = before.fresh name all in
          let first = take_off (IsFresh name) _ _ c.in-Some.seat c.in-Some.ensures.steps.0 was.0 in
          let here : AreFresh name assignment =
          subst (AreFresh name) (sym c.index_mut.ensures.value)
          (was.1 place assignment (omega (arith, within, before.workers))) in (
            first.1,
            All-set (AreFresh name) c.loop-seat.assignments.items place c.push.new.self
                (all_more (λ job. IsFresh name job.seat) _ _ _ here first.0 c.in_ok-push.ensures.items) was.1,
          );
      assigned = λ k below. assign_next c.args.workers n _ c.in-Some.seat.known.process k _ _ _
          c.in-Some-next.program _ _
          (before.assigned k below)
          (given_more k below) next.0 more items;
    }

pub returns-clause-assigned : goal.returns-clause-assigned
returns-clause-assigned g c =
    let end = c.loop-seat.invariant in
    let none = none_left _ _ _ end.seats (omega (arith, end.counted, c.in-None.ensures.steps.0)) in
    assignments_are c.args.workers (numbered 0 c.args.programs) (map assigned_calls c.loop-seat.assignments.items)
    (omega (arith, end.workers, length-map c.loop-seat.assignments.items assigned_calls))
    (λ k below. all_assigned _ _ _ _ k _ (end.assigned k below) none)
