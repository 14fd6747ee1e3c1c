use Rattle.smx_run.proofs.Common.{rules, ◌≡◌, ◌∷◌, ◌++◌, [], All, length, refl, subst, sym, ap, arith, ◌∙◌}
use Rattle.smx_run.proofs.Common.{length-append, Seated, IsBorneOutBy, IsKnownTo, EndedProgram}
use Rattle.std.proofs.lemmas.List.Elements.{All-cons}
use Rattle.smx_run.proofs.AssignmentLemmas.{all_more, first_then_rest}
use Rattle.smx_run.proofs.RunLemmas.{still_more, bears_out_first, bears_out_next, map_behind, next_taken}
use Rattle.smx_run.proofs.RunLemmas.{all_taken_off}
use Rattle.smx_run.proofs.MeetingLemmas.{known_now, known_still}
use Rattle.smx_run.proofs.threads.meet_all.Goals as goal

pub loop-done-preserved : goal.loop-done-preserved
loop-done-preserved g c =
    let before = c.loop-done.invariant in
    let met = c.meet.ensures in
    record {
      shared = met.rests.shared ∙ before.shared;
      known = still_more _ _ _ before.known met.seen met.meets.own;
      others = λ s all.
          let next = bears_out_next s _ _ _ _ met.meets.met all in
          all_more (IsBorneOutBy s) _ _ _ (before.others s next.1) next.0 refl;
      met = all_more (IsKnownTo c.meet.new.seat) _ _ _
          (known_still c.loop-done.first c.meet.new.seat c.in-Some.done.seat.known c.in-Some.done.seat.met _
          met.meets.met met.seen.process before.met)
          (known_now c.meet.new.seat c.in-Some.done (c.in-Some.done.seat.met ++ c.loop-done.first.met) met.meets.met)
          refl;
      left = omega (arith, before.left, c.in-Some.ensures.steps.1, ap length c.in-Some.ensures.steps.0);
      rest = next_taken _ _ _ _ _ before.rest c.in-Some.ensures.steps.0;
      room = omega (arith, before.room, c.push_reserved-in-loop-done.ensures.capacity);
      still = omega (
        arith,
        before.still,
        c.in-Some.ensures.steps.1,
        length-append c.loop-done.yielded (c.in-Some.done ∷ []),
      );
      counted = omega (
        arith,
        before.counted,
        c.push_reserved-in-loop-done.ensures.len,
        length-append c.loop-done.yielded (c.in-Some.done ∷ []),
      );
      fronts = map_behind (λ (d : EndedProgram Seated). d.front) _ _ _ _ c.in-Some.done before.fronts
          c.push_reserved-in-loop-done.ensures.items;
    }

pub returns-clause-met : goal.returns-clause-met
returns-clause-met g c s ends =
    let end = c.loop-done.invariant in
    let removed = c.remove-first.ensures in
    let whole : c.args.ended.items ≡ c.remove-first.result
    ∷ c.remove-first.new.self.items = first_then_rest _ _ _ removed.value removed.items (search rules) in
    let rest = all_taken_off _ _ _ end.rest (omega (arith, end.left, c.in-None.ensures.steps.0)) ∙ sym removed.items in
    subst (All (IsBorneOutBy s)) (sym whole)
    (All-cons (IsBorneOutBy s) _ _ (bears_out_first _ _ _ s end.known ends)
    (subst (All (IsBorneOutBy s)) rest (end.others s ends.others)))

pub returns-clause-known : goal.returns-clause-known
returns-clause-known g c =
    let end = c.loop-done.invariant in
    let removed = c.remove-first.ensures in
    let seat = c.loop-done.first in
    let whole : c.args.ended.items ≡ c.remove-first.result
    ∷ c.remove-first.new.self.items = first_then_rest _ _ _ removed.value removed.items (search rules) in
    let rest = all_taken_off _ _ _ end.rest (omega (arith, end.left, c.in-None.ensures.steps.0)) ∙ sym removed.items in
    subst (All (IsKnownTo seat)) (sym whole)
    (All-cons (IsKnownTo seat) _ _ (λ _. sym end.known.process) (subst (All (IsKnownTo seat)) rest end.met))
