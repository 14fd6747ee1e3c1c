use Rattle.std.proofs.Common.{arith}
use Rattle.smx_config.proofs.WakeLemmas.{one_taken}
use Rattle.smx_config.proofs.waking.mark_waiters.Goals as goal

pub loop-waiter-preserved : goal.loop-waiter-preserved
loop-waiter-preserved c =
    let over = c.loop-waiter.invariant.kept.over _ c.requires.over in
    record {
      kept = rw c.in-Some.ensures.taken (one_taken c.args.marks.now c.loop-waiter.marks c.in-Some.waiter c.set.new.self
          c.loop-waiter.invariant.kept (omega (arith, c.in-Some.ensures.below, over.waits, over.many))
          c.set.ensures.here c.set.ensures.kept c.set.ensures.count);
      wanted = c.loop-waiter.invariant.wanted;
    }
