use Rattle.smx_config.proofs.Common.{◌≡◌, AreKept}
use Rattle.smx_queues.specs.Rings.{ring_count}
use Rattle.smx_config.proofs.waking.mark_waiters.Given as goal

abbrev pub decreases-loop-waiter : goal.decreases-loop-waiter
decreases-loop-waiter l = ring_count l.marks.waits

abbrev pub invariant-loop-waiter : goal.invariant-loop-waiter
invariant-loop-waiter l = record {
  kept : AreKept l.initial.marks l.marks;
  wanted : l.marks.wanted ≡ l.initial.marks.wanted;
}
