use Rattle.std.proofs.Common.{◌≡◌, ◌-◌, drop, length}
use Rattle.smx_queues.specs.QueueTable.{queue_at}
use Rattle.smx_queues.specs.Chains.{walk}
use Rattle.smx_queues.proofs.queues.Queues.nth.Given as goal

abbrev pub invariant-loop-k : goal.invariant-loop-k
invariant-loop-k l =
    let ms = (queue_at l.self.queues l.p).messages in
    walk l.self-inside.nodes (length ms - l._k) l.key ≡ drop l._k ms
