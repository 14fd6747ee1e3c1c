use Rattle.std.proofs.Common.{◌≡◌, ◌+◌, ◌-◌, ◌++◌, drop, length, map, take, vec_capacity}
use Rattle.smx_types.specs.declared.message.Message.{Message}
use Rattle.smx_queues.specs.Chains.{walk}
use Rattle.smx_queues.specs.QueueTable.{queue_at}
use Rattle.smx_queues.proofs.queues.Queues.add_serials.Given as goal

abbrev pub invariant-loop-k : goal.invariant-loop-k
invariant-loop-k l = record {
  left : walk l.self-inside.nodes (length (queue_at l.self.queues l.p).messages - l._k) l.key
      ≡ drop l._k (queue_at l.self.queues l.p).messages;
  added : l.serials.items ≡ l.initial.serials.items
      ++ map (λ (m : Message). m.serial) (take l._k (queue_at l.self.queues l.p).messages);
  many : length l.serials.items ≡ length l.initial.serials.items + l._k;
  capacity : vec_capacity l.serials ≡ vec_capacity l.initial.serials;
}
