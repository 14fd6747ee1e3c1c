use Rattle.std.proofs.Common.{add-one, arith, ◌∙◌}
use Rattle.smx_queues.proofs.RingLemmas.{range_more}
use Rattle.smx_queues.proofs.rings.numbers.Goals as goal

pub loop-i-preserved : goal.loop-i-preserved
loop-i-preserved c =
    c.in_ok-push.ensures.items ∙ rw (c.loop-i.invariant, add-one c.loop-i.i) (range_more 0 _ _ (omega arith))
