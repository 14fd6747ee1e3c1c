use Rattle.std.proofs.Common.{◌≡◌, ◌<◌, ap, arith, length, map, refl, set, Some, sym, ◌∙◌}
use Rattle.std.proofs.lemmas.List.{get_or-set_other, length-set}
use Rattle.std.proofs.lemmas.Option.{same_Some}
use Rattle.smx_queues.specs.declared.chain.Chain.{Chain}
use Rattle.smx_queues.specs.Chains.{slot_of}
use Rattle.smx_queues.specs.QueueTable.{queue_at, with_arrival, without_front}
use Rattle.smx_queues.proofs.FollowLemmas.{followed}
use Rattle.smx_queues.proofs.StoreLemmas.{IsAt, IsSeen, first_of, first_there, last_there, moved, open_count, place_at}
use Rattle.smx_queues.proofs.StoreLemmas.{read_twice}
use Rattle.smx_queues.proofs.queues.Queues.move_front.Goals as goal
use Rattle.smx_queues.proofs.queues.Queues.move_front.Goals.{After-index-source, After-index_mut, After-index-target}
use Rattle.smx_queues.proofs.queues.Queues.move_front.Goals.{After-index_mut-2, After-add_last}

-- the chain that was read first is the chain of the place that the message leaves
from : (c : After-index-source) → IsAt c.self.invariant.own c.self.inside.nodes c.self.inside.chains.items c.args.from
    c.index-source.result.now
from c = place_at _ _ _ _ c.self.invariant.store _ (rw (← c.self.view_is) at c.requires.from) _ c.index-source.ensures

-- this chain has nodes
some : (c : After-index-source) → 0 < c.index-source.result.now.count
some c =
    let a = place_at _ _ _ _ c.self.invariant.store _ (rw (← c.self.view_is) at c.requires.from) _
    c.index-source.ensures in
    omega (arith, a.queue.has.count, rw (← c.self.view_is, a.seen) at c.requires.some)

-- the chain that is changed first is the one that was read first
same_source : (c : After-index_mut) → c.index_mut.result.now ≡ c.index-source.result.now
same_source c =
    let a = place_at _ _ _ _ c.self.invariant.store _ (rw (← c.self.view_is) at c.requires.from) _
    c.index-source.ensures in
    read_twice _ _ _ _ a.below c.index-source.ensures c.index_mut.ensures.value

-- the chain that was read second is the chain of the place at which the message arrives
to : (c : After-index-target) → IsAt c.self.invariant.own c.self.inside.nodes c.self.inside.chains.items c.args.to
    c.index-target.result.now
to c = place_at _ _ _ _ c.self.invariant.store _ (rw (← c.self.view_is) at c.requires.to) _ (c.index-target.ensures
    ∙ get_or-set_other c.self.inside.chains.items c.args.from c.args.to _ _ (λ e. c.requires.differ (sym e)))

-- the chain that is changed second is the one that was read second
same_target : (c : After-index_mut-2) → c.index_mut-2.result.now ≡ c.index-target.result.now
same_target c =
    let b = place_at _ _ _ _ c.self.invariant.store _ (rw (← c.self.view_is) at c.requires.to) _ (c.index-target.ensures
    ∙ get_or-set_other c.self.inside.chains.items c.args.from c.args.to _ _ (λ e. c.requires.differ (sym e))) in
    read_twice (set c.self.inside.chains.items c.args.from c.drop_first.new.self) c.args.to _ _
    (omega (arith, b.below, length-set c.self.inside.chains.items c.args.from c.drop_first.new.self))
    c.index-target.ensures c.index_mut-2.ensures.value

-- the message has moved from one place to the other
both : (c : After-add_last) → IsAt c.self.invariant.own c.self.inside.nodes c.self.inside.chains.items c.args.from
    c.index-source.result.now → 0 < c.index-source.result.now.count
    → c.index_mut.result.now ≡ c.index-source.result.now → c.index_mut-2.result.now ≡ c.index-target.result.now
    → IsSeen c.follow.new.nodes
    (set (set c.self.inside.chains.items c.args.from c.drop_first.new.self) c.args.to c.add_last.new.self)
    (set (set (map (slot_of c.self.inside.nodes) c.self.inside.chains.items) c.args.from
    (Some (without_front (queue_at (map (slot_of c.self.inside.nodes) c.self.inside.chains.items) c.args.from))))
    c.args.to (Some (with_arrival (queue_at (map (slot_of c.self.inside.nodes) c.self.inside.chains.items) c.args.to)
    c.index-node.result.now.message)))
both c a left source target =
    rw (c.add_last.ensures, target, c.follow.ensures, c.drop_first.ensures, source, c.as_slice-size.ensures)
    (moved _ _ c.self.invariant _ _ _ _ c.index-node.result.now a (rw (← c.self.view_is) at c.requires.to)
    (c.index-target.ensures
    ∙ get_or-set_other c.self.inside.chains.items c.args.from c.args.to _ _ (λ e. c.requires.differ (sym e)))
    c.requires.differ left c.index-node.ensures)

pub index-node-requires : goal.index-node-requires
index-node-requires c =
    let g = (goal.at.index-node-requires c).After-index-source in first_there _ _ _ _ (from g).queue (some g)

pub drop_first-requires-clause-bytes : goal.drop_first-requires-clause-bytes
drop_first-requires-clause-bytes c =
    let g = goal.at.drop_first-requires-clause-bytes c in
    let f = first_of _ _ _ _ (from g.After-index-source).queue c.index-node.result.now (some g.After-index-source)
    c.index-node.ensures in
    rw (same_source g.After-index_mut, c.as_slice-size.ensures) f.within

pub follow-requires : goal.follow-requires
follow-requires c left =
    let t = last_there _ _ _ _ (to (goal.at.follow-requires c).After-index-target).queue left in rw t.1.0 refl

pub add_last-requires-clause-count : goal.add_last-requires-clause-count
add_last-requires-clause-count c =
    let g = goal.at.add_last-requires-clause-count c in
    let b = to g.After-index-target in
    let few = open_count _ _ b.queue.has (rw (← c.self.view_is, b.seen) at c.requires.open) in
    omega (arith, few, ap (λ (x : Chain). x.count) (same_target g.After-index_mut-2))

pub add_last-requires-clause-bytes : goal.add_last-requires-clause-bytes
add_last-requires-clause-bytes c =
    let g = goal.at.add_last-requires-clause-bytes c in
    let b = to g.After-index-target in
    let f = first_of _ _ _ _ (from g.After-index-source).queue c.index-node.result.now (some g.After-index-source)
    c.index-node.ensures in
    let below = b.queue.has.open_below_high (rw (← c.self.view_is, b.seen) at c.requires.open) in
    omega (
      arith,
      below,
      b.queue.has.high_bounded,
      f.few,
      ap length c.as_slice-size.ensures,
      ap (λ (x : Chain). x.bytes) (same_target g.After-index_mut-2),
    )

pub invariant_of-self : goal.invariant_of-self
invariant_of-self c =
    let g = goal.at.invariant_of-self c in
    (both g.After-add_last (from g.After-index-source) (some g.After-index-source) (same_source g.After-index_mut)
    (same_target g.After-index_mut-2)).sound

pub returns-clause-moved : goal.returns-clause-moved
returns-clause-moved c m is =
    let g = goal.at.returns-clause-moved c in
    let a = from g.After-index-source in
    let f = first_of _ _ _ _ a.queue c.index-node.result.now (some g.After-index-source) c.index-node.ensures in
    let same = same_Some _ m (rw (← c.self.view_is, a.seen, f.was) at is) in
    rw (← c.self.view_is, ← same) (both g.After-add_last a (some g.After-index-source) (same_source g.After-index_mut)
    (same_target g.After-index_mut-2)).is

pub returns-clause-spare : goal.returns-clause-spare
returns-clause-spare c =
    let f = followed c.self.inside.nodes c.index-target.result.now c.index-source.result.now.first in
    rw (← c.self.view_is, c.follow.ensures, f.len, f.capacity) refl
