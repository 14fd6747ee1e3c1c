use Rattle.smx_run.proofs.Common.{◌≡◌, ◌∷◌, [], arith, length-append}
use Rattle.smx_run.proofs.Common.{given, called}
use Rattle.smx_run.specs.Assignments.{HasEndedWith, IsToRunWith}
use Rattle.smx_run.proofs.AssignmentLemmas.{one_more, all_more, take_off}
use Rattle.smx_run.proofs.worker.run_assigned.Goals as goal

pub loop-job-preserved : goal.loop-job-preserved
loop-job-preserved g c =
    let before = c.loop-job.invariant in
    let known = g.D.Door.known in
    let ran = c.in_ok-run_program.ensures.called in
    let saw = c.glance-front.ensures in
    let next = take_off (IsToRunWith (g.D.Door.is_seat c.args.door.now) known) _ _ c.in-Some.job
    c.in-Some.ensures.steps.0 before.fresh in
    let calls : called known record { seat = c.glance-front.new.seat; front = c.glance-front.result }
    ≡ given known c.in-Some.job = grind (arith, next.0.1, saw.seen.process, saw.front.own, ran.process, ran.calls) in
    record {
      room = omega (arith, before.room, c.push_reserved.ensures.capacity);
      counted = omega (
        arith,
        before.counted,
        c.push_reserved.ensures.len,
        length-append c.loop-job.yielded (c.in-Some.job ∷ []),
      );
      left = omega (
        arith,
        before.left,
        c.in-Some.ensures.steps.1,
        length-append c.loop-job.yielded (c.in-Some.job ∷ []),
      );
      fresh = next.1;
      called = one_more (called known) (given known) _ _ _ _ _ before.called calls c.push_reserved.ensures.items;
      ended = all_more (HasEndedWith (g.D.Door.is_seat c.args.door.now) known) _ _ _ before.ended
          (saw.seat, record { exact = saw.seen.exact; numbers = saw.front.numbers }) c.push_reserved.ensures.items;
    }
