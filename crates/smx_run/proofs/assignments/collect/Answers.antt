use Rattle.smx_run.proofs.Common.{rules, ◌≡◌, ◌%◌, ◌+◌, ◌<◌, [], ℕ, arith, ap, refl, subst, sym, length, vec_len, ◌∙◌}
use Rattle.smx_run.proofs.Common.{length-map, made_calls}
use Rattle.std.proofs.Math.Nat.{mod-lt}
use Rattle.std.proofs.lemmas.List.{drop_more}
use Rattle.std.proofs.lemmas.List.Elements.{All-set}
use Rattle.smx_run.specs.Assignments.{called, known_at, EndsAt, HaveEnded}
use Rattle.smx_run.proofs.AssignmentLemmas.{pushed, all_more, all_of_none, assignment_at, first_and_rest, take_from}
use Rattle.smx_run.proofs.AssignmentLemmas.{first_then_rest, keep_others, some_left, take_off}
use Rattle.smx_run.proofs.AssignmentLemmas.{next_in_assignment, take_next, collect_next}
use Rattle.smx_run.proofs.assignments.collect.Goals as goal

pub loop-process-init : goal.loop-process-init
loop-process-init g c = record {
  room = omega (arith, c.in_ok-ended.ensures.capacity);
  counted = omega (arith, c.in_ok-ended.ensures.len);
  workers = refl;
  ended = λ name all. (all, all_of_none (EndsAt name) _ c.in_ok-ended.ensures.items);
  assigned = λ k below. rw c.requires.assigned (assignment_at _ _ k below);
  called = rw c.in_ok-ended.ensures.items refl;
}

pub remove-requires : goal.remove-requires
remove-requires g c =
    let before = c.loop-process.invariant in
    let p : ℕ = c.loop-process.process in
    let workers : ℕ = vec_len c.args.assignments in
    let len : c.len.result ≡ workers = c.len.ensures ∙ before.workers in
    let at : p % c.len.result ≡ p % workers = rw len refl in
    let within : p % c.len.result < length c.loop-process.assignments.items =
    omega (arith, at, mod-lt p c.requires.workers, before.workers) in
    let programs = drop_more c.args.programs.value p []
    (omega (arith, c.loop-process-test.true, c.requires.processes)) in
    let assigned = rw (← len) at (before.assigned (p % workers) (mod-lt p c.requires.workers)
    ∙ next_in_assignment workers p _ _ _ programs) in
    let some = some_left made_calls _ _ c.index_mut.result.now _ _ within c.index_mut.ensures.value assigned in
    omega (arith, ap length some, length-map c.index_mut.result.now.items (called known_at))

pub loop-process-preserved : goal.loop-process-preserved
loop-process-preserved g c =
    let before = c.loop-process.invariant in
    let p : ℕ = c.loop-process.process in
    let workers : ℕ = vec_len c.args.assignments in
    let len : c.len.result ≡ workers = c.len.ensures ∙ before.workers in
    let at : p % c.len.result ≡ p % workers = rw len refl in
    let items = c.loop-process.assignments.items in
    let within : p % c.len.result < length items =
    omega (arith, at, mod-lt p c.requires.workers, before.workers) in
    let programs = drop_more c.args.programs.value p []
    (omega (arith, c.loop-process-test.true, c.requires.processes)) in
    let assignment = c.index_mut.result.now in
    let done = c.remove.ensures in
    let less : length c.remove.new.self.items + 1 ≡ length assignment.items = search rules in
    let one = called known_at c.remove.result in
    let first = take_from made_calls items (p % c.len.result) assignment c.remove.new.self one within
    c.index_mut.ensures.value
    (first_and_rest (called known_at) _ _ c.remove.result done.value done.items less) in
    let taken = take_next workers p (p + 1) _ _ _ _ _ one programs refl before.assigned (mod-lt p c.requires.workers)
    (rw len at first) (rw len at (keep_others made_calls items (p % c.len.result) c.remove.new.self)) in
    record {
      room = omega (arith, before.room, c.push_reserved.ensures.capacity);
      counted = omega (arith, before.counted, c.push_reserved.ensures.len);
      workers = search rules;
      ended = λ name all.
          let was = before.ended name all in
          let here = take_off (EndsAt name) assignment.items c.remove.new.self.items c.remove.result
          (first_then_rest _ _ c.remove.result done.value done.items less)
          (subst (HaveEnded name) (sym c.index_mut.ensures.value) (was.0 (p % c.len.result) assignment within)) in (
            All-set (HaveEnded name) items (p % c.len.result) c.remove.new.self here.1 was.0,
            all_more (EndsAt name) _ _ _ was.1 here.0 c.push_reserved.ensures.items,
          );
      assigned = rw len taken.1;
      called = collect_next p (p + 1) _ _ _ one _ _ _ before.called
          (pushed (called known_at) _ _ _ _ _ c.push_reserved.ensures.items refl refl) taken.0 refl programs;
    }
