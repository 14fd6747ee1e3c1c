use Rattle.std.proofs.Common.{◌≡◌, ◌-◌, arith, drop, length, sym}
use Rattle.std.proofs.lemmas.Option.{slice_get_past}
use Rattle.smx_queues.specs.Chains.{walk}
use Rattle.smx_queues.specs.QueueTable.{queue_at}
use Rattle.smx_queues.proofs.StoreLemmas.{place_at, walked}
use Rattle.smx_queues.proofs.WalkLemmas.{walk_next, walk_there}
use Rattle.smx_queues.proofs.queues.Queues.nth.Goals as goal
use Rattle.smx_queues.proofs.queues.Queues.nth.Goals.{After-index-chain}

-- the place has as many messages as the chain has nodes
many : (c : After-index-chain)
    → c.index-chain.result.now.count ≡ length (queue_at c.args.self.now.queues c.args.p).messages
many c =
    let a = place_at _ _ _ _ c.self.invariant.store _ (rw (← c.self.view_is) at c.requires) _ c.index-chain.ensures in
    rw (← c.self.view_is, a.seen) a.queue.has.count

-- the walk starts at the first node, with all messages left
start : (c : After-index-chain) → walk c.self.inside.nodes
    (length (queue_at c.args.self.now.queues c.args.p).messages - 0) c.index-chain.result.now.first
    ≡ drop 0 (queue_at c.args.self.now.queues c.args.p).messages
start c =
    let a = place_at _ _ _ _ c.self.invariant.store _ (rw (← c.self.view_is) at c.requires) _ c.index-chain.ensures in
    let all : length a.queue.messages - 0 ≡ c.index-chain.result.now.count = omega (arith, a.queue.has.count) in
    rw (← c.self.view_is, a.seen, all) (walked _ _ _ _ a.queue)

pub returns-then-chain-i : goal.returns-then-chain-i
returns-then-chain-i c = sym (slice_get_past (queue_at c.args.self.now.queues c.args.p).messages c.args.i
    (omega (arith, many (goal.at.returns-then-chain-i c).After-index-chain)))

pub loop-k-init : goal.loop-k-init
loop-k-init c = start (goal.at.loop-k-init c).After-index-chain

pub index-requires : goal.index-requires
index-requires c = walk_there c.self.inside.nodes c.loop-k.key c.loop-k._k
    (queue_at c.args.self.now.queues c.args.p).messages
    (omega (arith, many (goal.at.index-requires c).After-index-chain))
    c.loop-k.invariant

pub loop-k-preserved : goal.loop-k-preserved
loop-k-preserved c = (walk_next c.self.inside.nodes c.loop-k.key c.loop-k._k
    (queue_at c.args.self.now.queues c.args.p).messages
    (omega (arith, many (goal.at.loop-k-preserved c).After-index-chain))
    c.loop-k.invariant c.index.result.now c.index.ensures).1

pub index-requires-2 : goal.index-requires-2
index-requires-2 c = walk_there c.self.inside.nodes c.loop-k.key c.loop-k._k
    (queue_at c.args.self.now.queues c.args.p).messages
    (omega (arith, many (goal.at.index-requires-2 c).After-index-chain))
    c.loop-k.invariant

pub returns : goal.returns
returns c =
    let last : c.loop-k._k ≡ c.args.i = omega arith in
    rw (← last) (sym (walk_next c.self.inside.nodes c.loop-k.key c.loop-k._k
    (queue_at c.args.self.now.queues c.args.p).messages
    (omega (arith, many (goal.at.returns c).After-index-chain))
    c.loop-k.invariant c.index-2.result.now c.index-2.ensures).0)
