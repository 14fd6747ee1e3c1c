use Rattle.smx_queues.specs.Bits.{bit_count}
use Rattle.smx_config.specs.Marking.{AreKept}
use Rattle.smx_config.proofs.waking.release_all.Given as goal

abbrev pub decreases-loop-n : goal.decreases-loop-n
decreases-loop-n l = bit_count l.marks.wanted

abbrev pub invariant-loop-n : goal.invariant-loop-n
invariant-loop-n l = AreKept l.initial.marks l.marks
