use Rattle.std.proofs.Common.{◌≡◌, ◌-◌, drop, length}
use Rattle.smx_queues.specs.FlowTables.{IsFlow, flow_of}
use Rattle.smx_queues.specs.PlaceLists.{places_of}
use Rattle.smx_queues.proofs.flow_table.LeavingMessages.next.Given as goal

abbrev pub invariant-loop-self : goal.invariant-loop-self
invariant-loop-self l = record {
  flow : IsFlow l.self-inside.places l.self-inside.queues.queues;
  rest : flow_of (drop l.self-inside.next (places_of l.self-inside.places))
      (drop l.self-inside.next l.self-inside.queues.queues) ≡ l.fn.self;
}

abbrev pub decreases-loop-self : goal.decreases-loop-self
decreases-loop-self l = length (places_of l.self-inside.places) - l.self-inside.next
