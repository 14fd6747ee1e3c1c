use Rattle.std.proofs.Common.{ap, ◌∙◌, arith}
use Rattle.smx_queues.specs.FlowTables.{FlowLists}
use Rattle.smx_queues.proofs.FlowLemmas.{mark_is, place_there, put_is}
use Rattle.smx_queues.proofs.flow_table.FlowTable.put.Goals as goal

pub put-requires-clause-place : goal.put-requires-clause-place
put-requires-clause-place c = place_there _ _ c.self.invariant _ _ (rw c.unwrap-p.ensures at c.number.ensures.found)

pub put-requires-clause-open : goal.put-requires-clause-open
put-requires-clause-open c =
    mark_is _ _ c.self.invariant _ _ (rw c.unwrap-p.ensures at c.number.ensures.found)
    ∙ rw (← c.self.view_is) at c.requires.open

pub put-requires-clause-spare : goal.put-requires-clause-spare
put-requires-clause-spare c = omega (arith, c.requires.spare, ap (λ (t : FlowLists). t.spare) c.self.view_is)

pub invariant_of-self : goal.invariant_of-self
invariant_of-self c =
    rw c.put.ensures.put (put_is _ _ c.self.invariant _ _ (rw c.unwrap-p.ensures at c.number.ensures.found) 0 _).sound

pub returns : goal.returns
returns c =
    rw (← c.self.view_is, c.put.ensures.put)
    ((put_is _ _ c.self.invariant _ _ (rw c.unwrap-p.ensures at c.number.ensures.found) 0 _).is _)
