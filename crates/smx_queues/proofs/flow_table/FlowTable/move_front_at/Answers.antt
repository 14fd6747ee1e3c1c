use Rattle.std.proofs.Common.{◌∙◌, arith}
use Rattle.smx_queues.specs.QueueTable.{queue_at}
use Rattle.smx_queues.proofs.FlowLemmas.{first_is, mark_is, move_is, some_queued}
use Rattle.smx_queues.proofs.PlaceLemmas.{numbered}
use Rattle.smx_queues.proofs.flow_table.FlowTable.move_front_at.Goals as goal

pub move_front-requires-clause-from : goal.move_front-requires-clause-from
move_front-requires-clause-from c =
    c.self.invariant.there _ (omega (arith, c.self.invariant.many, rw (← c.self.view_is) at c.requires.from))

pub move_front-requires-clause-to : goal.move_front-requires-clause-to
move_front-requires-clause-to c =
    c.self.invariant.there _ (omega (arith, c.self.invariant.many, rw (← c.self.view_is) at c.requires.to))

pub move_front-requires-clause-some : goal.move_front-requires-clause-some
move_front-requires-clause-some c =
    let p = numbered _ _ (rw (← c.self.view_is) at c.requires.from) in
    some_queued _ _ c.self.invariant _ _ p.1
    (rw (← c.self.view_is) at (c.requires.some p.0 (rw (← c.self.view_is) p.1)))

pub move_front-requires-clause-open : goal.move_front-requires-clause-open
move_front-requires-clause-open c =
    let q = numbered _ _ (rw (← c.self.view_is) at c.requires.to) in
    mark_is _ _ c.self.invariant _ _ q.1
    ∙ rw (← c.self.view_is) at (c.requires.open q.0 (rw (← c.self.view_is) q.1))

pub invariant_of-self : goal.invariant_of-self
invariant_of-self c =
    let p = numbered _ _ (rw (← c.self.view_is) at c.requires.from) in
    let q = numbered _ _ (rw (← c.self.view_is) at c.requires.to) in
    let m = numbered (queue_at c.self.inside.queues.queues c.args.from).messages 0
    (some_queued _ _ c.self.invariant _ _ p.1
    (rw (← c.self.view_is) at (c.requires.some p.0 (rw (← c.self.view_is) p.1)))) in
    rw (c.move_front.ensures.moved m.0 m.1)
    (move_is _ _ 0 _ _ _ _ m.0 c.self.invariant p.1 q.1 c.requires.differ m.1).sound

pub returns : goal.returns
returns c = λ p q m at there first.
    let from = rw (← c.self.view_is) at at in
    let front = first_is _ _ c.self.invariant _ _ from ∙ rw (← c.self.view_is) at first in
    rw (← c.self.view_is, c.move_front.ensures.moved m front, c.move_front.ensures.spare)
    ((move_is _ _ c.self.inside.queues.spare _ _ _ _ m c.self.invariant from (rw (← c.self.view_is) at there)
    c.requires.differ front).is _)
