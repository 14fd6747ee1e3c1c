use Rattle.std.proofs.Common.{◌≡◌, ◌++◌, drop}
use Rattle.smx_queues.specs.FlowTables.{fulls_of}
use Rattle.smx_queues.specs.PlaceLists.{places_of}
use Rattle.smx_queues.proofs.flow_table.FlowTable.fulls.Given as goal

abbrev pub invariant-loop-p : goal.invariant-loop-p
invariant-loop-p l = l.fulls.items ++ fulls_of (drop l.p (places_of l.self-inside.places))
    (drop l.p l.self-inside.queues.queues) ≡ l.self.fulls
