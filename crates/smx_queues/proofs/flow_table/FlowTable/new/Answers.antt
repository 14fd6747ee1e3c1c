use Rattle.std.proofs.Common.{ap}
use Rattle.smx_queues.specs.FlowTables.{FlowLists}
use Rattle.smx_queues.proofs.FlowLemmas.{seen_new}
use Rattle.smx_queues.proofs.flow_table.FlowTable.new.Goals as goal

pub invariant_of-result : goal.invariant_of-result
invariant_of-result c = rw c.in_ok-queues.ensures (seen_new _).sound

pub returns-clause-none : goal.returns-clause-none
returns-clause-none c =
    rw c.in_ok-queues.ensures (ap (λ (t : FlowLists). t.flow) ((seen_new c.in_ok-places.places).is 0))

pub returns-clause-open : goal.returns-clause-open
returns-clause-open c =
    rw c.in_ok-queues.ensures (ap (λ (t : FlowLists). t.fulls) ((seen_new c.in_ok-places.places).is 0))
