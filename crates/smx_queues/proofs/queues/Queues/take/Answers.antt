use Rattle.std.proofs.Common.{arith, map, refl, set, Some}
use Rattle.smx_queues.specs.Chains.{slot_of}
use Rattle.smx_queues.specs.QueueTable.{queue_at, without_front}
use Rattle.smx_queues.proofs.StoreLemmas.{IsAt, IsSeen, detached, first_of, first_there, place_at, read_twice, seen_now}
use Rattle.smx_queues.proofs.queues.Queues.take.Goals as goal
use Rattle.smx_queues.proofs.queues.Queues.take.Goals.{After-index-chain, After-drop_first}

-- the chain that was read is the chain of the place
at : (c : After-index-chain) → IsAt c.self.invariant.own c.self.inside.nodes c.self.inside.chains.items c.args.p
    c.index-chain.result.now
at c = place_at _ _ _ _ c.self.invariant.store _ (rw (← c.self.view_is) at c.requires) _ c.index-chain.ensures

-- the first message has left
left : (c : After-drop_first) → IsSeen c.remove-node.new.self
    (set c.self.inside.chains.items c.args.p c.drop_first.new.self)
    (set (map (slot_of c.self.inside.nodes) c.self.inside.chains.items) c.args.p
    (Some (without_front (queue_at (map (slot_of c.self.inside.nodes) c.self.inside.chains.items) c.args.p))))
left c =
    let a = place_at _ _ _ _ c.self.invariant.store _ (rw (← c.self.view_is) at c.requires) _ c.index-chain.ensures in
    let same = read_twice _ _ _ _ a.below c.index-chain.ensures c.index_mut.ensures.value in
    rw (c.drop_first.ensures, same, c.as_slice-size.ensures) (seen_now (detached _ _ _ _ 0 _ _ c.remove-node.result
    c.self.invariant.store a (omega arith) c.remove-node.ensures.value c.remove-node.ensures.updates.others
    (omega (arith, c.remove-node.ensures.len))))

pub remove-node-requires : goal.remove-node-requires
remove-node-requires c =
    first_there _ _ _ _ (at (goal.at.remove-node-requires c).After-index-chain).queue (omega arith)

pub drop_first-requires-clause-bytes : goal.drop_first-requires-clause-bytes
drop_first-requires-clause-bytes c =
    let a = at (goal.at.drop_first-requires-clause-bytes c).After-index-chain in
    let same = read_twice _ _ _ _ a.below c.index-chain.ensures c.index_mut.ensures.value in
    let f = first_of _ _ _ _ a.queue c.remove-node.result (omega arith) c.remove-node.ensures.value in
    rw (same, c.as_slice-size.ensures) f.within

pub invariant_of-self : goal.invariant_of-self
invariant_of-self c = (left (goal.at.invariant_of-self c).After-drop_first).sound

pub returns-clause-taken : goal.returns-clause-taken
returns-clause-taken c =
    let a = at (goal.at.returns-clause-taken c).After-index-chain in
    let f = first_of _ _ _ _ a.queue c.remove-node.result (omega arith) c.remove-node.ensures.value in
    rw (← c.self.view_is, a.seen, f.was) refl

pub returns-clause-left : goal.returns-clause-left
returns-clause-left c = rw (← c.self.view_is) (left (goal.at.returns-clause-left c).After-drop_first).is
