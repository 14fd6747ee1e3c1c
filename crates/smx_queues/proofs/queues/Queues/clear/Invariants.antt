use Rattle.std.proofs.Common.{length}
use Rattle.smx_queues.specs.QueueTable.{queue_at}
use Rattle.smx_queues.proofs.QueueTableLemmas.{IsClearing}
use Rattle.smx_queues.proofs.queues.Queues.clear.Given as goal

abbrev pub invariant-loop-message : goal.invariant-loop-message
invariant-loop-message l = IsClearing l.initial.self l.self l.p

abbrev pub decreases-loop-message : goal.decreases-loop-message
decreases-loop-message l = length (queue_at l.self.queues l.p).messages
