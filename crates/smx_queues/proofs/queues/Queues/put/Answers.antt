use Rattle.std.proofs.Common.{ap, arith, map, refl, set, Some, ◌∙◌}
use Rattle.slab.specs.Slab.{get}
use Rattle.smx_queues.specs.declared.chain.Chain.{Chain}
use Rattle.smx_queues.specs.Chains.{slot_of}
use Rattle.smx_queues.specs.QueueTable.{queue_at, with_arrival}
use Rattle.smx_queues.proofs.FollowLemmas.{node_from}
use Rattle.smx_queues.proofs.StoreLemmas.{IsAt, IsSeen, attached, last_there, open_count, place_at, read_twice}
use Rattle.smx_queues.proofs.StoreLemmas.{seen_now}
use Rattle.smx_queues.proofs.queues.Queues.put.Goals as goal
use Rattle.smx_queues.proofs.queues.Queues.put.Goals.{After-index-chain, After-add_last}

-- the chain that was read is the chain of the place
at : (c : After-index-chain) → IsAt c.self.invariant.own c.self.inside.nodes c.self.inside.chains.items c.args.p
    c.index-chain.result.now
at c = place_at _ _ _ _ c.self.invariant.store _ (rw (← c.self.view_is) at c.requires.place) _ c.index-chain.ensures

-- the message was added at the end of the place's messages
put : (c : After-add_last) → IsSeen c.follow.new.nodes
    (set c.self.inside.chains.items c.args.p c.add_last.new.self)
    (set (map (slot_of c.self.inside.nodes) c.self.inside.chains.items) c.args.p
    (Some (with_arrival (queue_at (map (slot_of c.self.inside.nodes) c.self.inside.chains.items) c.args.p)
    c.args.message)))
put c =
    let a = place_at _ _ _ _ c.self.invariant.store _ (rw (← c.self.view_is) at c.requires.place) _
    c.index-chain.ensures in
    let same = read_twice _ _ _ _ a.below c.index-chain.ensures c.index_mut.ensures.value in
    let new = c.insert_reserved-key in
    let few = rw c.as_slice-size.ensures at c.as_slice-size.type_inv.1 in
    rw (c.add_last.ensures, same, c.as_slice-size.ensures, c.follow.ensures) (seen_now (attached _ _ new.new.self _ 0 _ _
    new.result (node_from c.args.message 0) c.self.invariant.store a
    (λ x i r n at _ _ e. let v = ap (get c.self.inside.nodes) e ∙ new.ensures.was_vacant in absurd (cc))
    new.ensures.updates.others new.ensures.updates.changed (omega (arith, new.ensures.len))
    c.requires.some (omega (arith, few))))

pub follow-requires : goal.follow-requires
follow-requires c some =
    let t = last_there _ _ _ _ (at (goal.at.follow-requires c).After-index-chain).queue some in
    let new = c.insert_reserved-key.ensures in
    rw (
      new.updates.others c.index-chain.result.now.last
          (λ e. let v = ap (get c.self.inside.nodes) e ∙ new.was_vacant in absurd (let w = t.1.0 in cc)),
      t.1.0,
    ) refl

pub add_last-requires-clause-count : goal.add_last-requires-clause-count
add_last-requires-clause-count c =
    let a = at (goal.at.add_last-requires-clause-count c).After-index-chain in
    let same = read_twice _ _ _ _ a.below c.index-chain.ensures c.index_mut.ensures.value in
    let clear = rw (← c.self.view_is, a.seen) at c.requires.open in
    omega (arith, open_count _ _ a.queue.has clear, ap (λ (x : Chain). x.count) same)

pub add_last-requires-clause-bytes : goal.add_last-requires-clause-bytes
add_last-requires-clause-bytes c =
    let a = at (goal.at.add_last-requires-clause-bytes c).After-index-chain in
    let same = read_twice _ _ _ _ a.below c.index-chain.ensures c.index_mut.ensures.value in
    let below = a.queue.has.open_below_high (rw (← c.self.view_is, a.seen) at c.requires.open) in
    omega (arith, below, a.queue.has.high_bounded, c.as_slice-size.type_inv.1, ap (λ (x : Chain). x.bytes) same)

pub invariant_of-self : goal.invariant_of-self
invariant_of-self c = (put (goal.at.invariant_of-self c).After-add_last).sound

pub returns-clause-put : goal.returns-clause-put
returns-clause-put c = rw (← c.self.view_is) (put (goal.at.returns-clause-put c).After-add_last).is
