use Rattle.std.proofs.Common.{arith}
use Rattle.smx_queues.proofs.RingLemmas.{read_at, removed}
use Rattle.smx_queues.proofs.rings.Rings.remove.Goals as goal

pub invariant_of-self : goal.invariant_of-self
invariant_of-self c =
    let lt = rw (← c.self.view_is) at c.requires.p in
    let before = read_at c.self.inside.previous.items _ _ (omega (arith, lt, c.self.invariant.many_previous))
    c.index-before.ensures in
    let behind = read_at c.self.inside.next.items _ _ (omega (arith, lt, c.self.invariant.many_next))
    c.index-behind.ensures in
    rw (c.swap.ensures.items, c.swap-2.ensures.items, before, behind) (removed _ _ _ _ c.self.invariant c.args.p lt
    (rw (← c.self.view_is) at c.requires.some))
