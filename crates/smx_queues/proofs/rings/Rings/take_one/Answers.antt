use Rattle.std.proofs.Common.{◌≡◌, ◌≢◌, ◌<◌, ◌+◌, suc, arith, sym, ◌∙◌}
use Rattle.smx_queues.specs.Rings.{at}
use Rattle.smx_queues.proofs.RingLemmas.{fewer_in, first_in, none_in, read_at}
use Rattle.smx_queues.proofs.rings.Rings.take_one.Goals as goal
use Rattle.smx_queues.proofs.rings.Rings.take_one.Goals.{After-index-p}

-- the node that was read is the one after the beginning of the ring
read : (c : After-index-p) → c.index-p.result.now ≡ at c.self.inside.next.items (c.self.inside.count + c.args.q)
read c =
    let lt = rw (← c.self.view_is) at c.requires in
    read_at c.self.inside.next.items _ _ (omega (arith, lt, c.self.invariant.many_next)) c.index-p.ensures

-- if it is another node, it is a number in the ring
first : (c : After-index-p) → c.index-p.result.now ≢ c.self.inside.count + c.args.q
    → (c.index-p.result.now < c.self.inside.count) × (at c.self.inside.owners.items c.index-p.result.now ≡ suc c.args.q)
first c other = rw (read c) (first_in _ _ _ _ c.self.invariant c.args.q (rw (← c.self.view_is) at c.requires)
    (rw (read c) at other))

pub returns-then-p-head-clause-none : goal.returns-then-p-head-clause-none
returns-then-p-head-clause-none c = λ p below own.
    none_in _ _ _ _ c.self.invariant c.args.q (rw (← c.self.view_is) at c.requires)
    (sym (read (goal.at.returns-then-p-head-clause-none c).After-index-p) ∙ c.if-p-head.true) p
    (rw (← c.self.view_is) at below) (rw (← c.self.view_is) at own)

pub remove-requires-clause-p : goal.remove-requires-clause-p
remove-requires-clause-p c = rw (← c.self.view_is)
    (first (goal.at.remove-requires-clause-p c).After-index-p c.if-p-head.false).0

pub remove-requires-clause-some : goal.remove-requires-clause-some
remove-requires-clause-some c = rw (← c.self.view_is) (λ none.
    let own = (first (goal.at.remove-requires-clause-some c).After-index-p c.if-p-head.false).1 in
    omega (arith, own, none))

pub returns-clause-below : goal.returns-clause-below
returns-clause-below c = rw (← c.self.view_is)
    (first (goal.at.returns-clause-below c).After-index-p c.if-p-head.false).0

pub returns-clause-its : goal.returns-clause-its
returns-clause-its c = rw (← c.self.view_is)
    (first (goal.at.returns-clause-its c).After-index-p c.if-p-head.false).1

pub returns-clause-fewer : goal.returns-clause-fewer
returns-clause-fewer c = rw (c.remove.ensures, ← c.self.view_is) (fewer_in c.self.inside.owners.items
    c.index-p.result.now c.args.q (first (goal.at.returns-clause-fewer c).After-index-p c.if-p-head.false).1)
