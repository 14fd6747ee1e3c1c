use Rattle.std.proofs.Common.{add-one, arith}
use Rattle.smx_queues.proofs.RingLemmas.{inserted, read_at}
use Rattle.smx_queues.proofs.rings.Rings.insert.Goals as goal

pub invariant_of-self : goal.invariant_of-self
invariant_of-self c =
    let lt = rw (← c.self.view_is) at c.requires.q in
    let first = read_at c.self.inside.next.items _ _ (omega (arith, lt, c.self.invariant.many_next))
    c.index-first.ensures in
    rw (c.swap.ensures.items, c.swap-2.ensures.items, first, add-one c.args.q) (inserted _ _ _ _ c.self.invariant
    c.args.p c.args.q (rw (← c.self.view_is) at c.requires.p) lt (rw (← c.self.view_is) at c.requires.none))
