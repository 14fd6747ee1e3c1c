use Rattle.std.proofs.Common.{◌≡◌, ◌-◌, List, [], ◌∷◌, ◌++◌, map, length, drop, refl, ap, sym, ◌∙◌, arith, append-nil}
use Rattle.std.proofs.Common.{length-append}
use Rattle.std.proofs.lemmas.List.{take_all}
use Rattle.smx_types.specs.declared.message.Message.{Message}
use Rattle.smx_queues.specs.Chains.{walk}
use Rattle.smx_queues.specs.QueueTable.{queue_at}
use Rattle.smx_queues.proofs.StoreLemmas.{place_at, walked}
use Rattle.smx_queues.proofs.WalkLemmas.{serials_more, walk_next, walk_there}
use Rattle.smx_queues.proofs.queues.Queues.add_serials.Goals as goal
use Rattle.smx_queues.proofs.queues.Queues.add_serials.Goals.{After-index-chain}

-- the place has as many messages as the chain has nodes
many : (c : After-index-chain)
    → c.index-chain.result.now.count ≡ length (queue_at c.args.self.now.queues c.args.p).messages
many c =
    let a = place_at _ _ _ _ c.self.invariant.store _ (rw (← c.self.view_is) at c.requires.place) _
    c.index-chain.ensures in
    rw (← c.self.view_is, a.seen) a.queue.has.count

-- the walk starts at the first node, with all messages left
start : (c : After-index-chain) → walk c.self.inside.nodes
    (length (queue_at c.args.self.now.queues c.args.p).messages - 0) c.index-chain.result.now.first
    ≡ drop 0 (queue_at c.args.self.now.queues c.args.p).messages
start c =
    let a = place_at _ _ _ _ c.self.invariant.store _ (rw (← c.self.view_is) at c.requires.place) _
    c.index-chain.ensures in
    let all : length a.queue.messages - 0 ≡ c.index-chain.result.now.count = omega (arith, a.queue.has.count) in
    rw (← c.self.view_is, a.seen, all) (walked _ _ _ _ a.queue)

pub loop-k-init : goal.loop-k-init
loop-k-init c = record {
  left = start (goal.at.loop-k-init c).After-index-chain;
  added = sym (append-nil c.args.serials.now.items);
  many = omega arith;
  capacity = refl;
}

pub index-node-requires : goal.index-node-requires
index-node-requires c = walk_there c.self.inside.nodes c.loop-k.key c.loop-k._k
    (queue_at c.args.self.now.queues c.args.p).messages
    (omega (arith, many (goal.at.index-node-requires c).After-index-chain))
    c.loop-k.invariant.left

pub push_reserved-requires : goal.push_reserved-requires
push_reserved-requires c = omega (
  arith,
  many (goal.at.push_reserved-requires c).After-index-chain,
  c.loop-k.invariant.many,
  c.loop-k.invariant.capacity,
  c.requires.room,
)

pub loop-k-preserved : goal.loop-k-preserved
loop-k-preserved c =
    let node = c.index-node.result.now in
    let step = walk_next c.self.inside.nodes c.loop-k.key c.loop-k._k
    (queue_at c.args.self.now.queues c.args.p).messages
    (omega (arith, many (goal.at.loop-k-preserved c).After-index-chain))
    c.loop-k.invariant.left node c.index-node.ensures in
    record {
      left = step.1;
      added = serials_more _ _ node.message _ _ _ step.0 c.loop-k.invariant.added c.push_reserved.ensures.items;
      many = omega (
        arith,
        c.loop-k.invariant.many,
        ap length c.push_reserved.ensures.items,
        length-append c.loop-k.serials.items (node.message.serial ∷ []),
      );
      capacity = c.push_reserved.ensures.capacity ∙ c.loop-k.invariant.capacity;
    }

pub returns-clause-added : goal.returns-clause-added
returns-clause-added c = c.loop-k.invariant.added
    ∙ ap (λ (xs : List Message). c.args.serials.now.items ++ map (λ m. m.serial) xs)
    (take_all c.loop-k._k _ (omega (arith, many (goal.at.returns-clause-added c).After-index-chain)))
