use Rattle.std.proofs.Common.{◌*◌, ◌%◌, ◌/◌, ◌^◌, arith, set, true}
use Rattle.std.specs.Prelude.{bit_or}
use Rattle.smx_queues.proofs.BitLemmas.{IsOneChanged, mark_set, still_bits, still_marked}
use Rattle.smx_queues.proofs.bits.Bits.set.Goals as goal
use Rattle.smx_queues.proofs.bits.Bits.set.Goals.{After-index_mut}

-- the number is marked now, and the other numbers are marked as before
changed : (c : After-index_mut) → IsOneChanged c.self.inside.words.items (set c.self.inside.words.items (c.args.n / 64)
    (bit_or c.index_mut.result.now (1 * 2 ^ (c.args.n % 64) % 2 ^ 64))) c.args.n true
changed c = mark_set _ _ _ (omega (arith, rw (← c.self.view_is) at c.requires, c.self.invariant.many))
    c.index_mut.ensures.value

pub invariant_of-self : goal.invariant_of-self
invariant_of-self c = still_bits _ _ _ _ _ c.args.n true c.self.invariant
    (changed (goal.at.invariant_of-self c).After-index_mut) (rw (← c.self.view_is) at c.requires) (omega arith)
    (λ _. omega arith)

pub returns-clause-here : goal.returns-clause-here
returns-clause-here c = (changed (goal.at.returns-clause-here c).After-index_mut).here

pub returns-clause-others : goal.returns-clause-others
returns-clause-others c = rw (← c.self.view_is) (changed (goal.at.returns-clause-others c).After-index_mut).others

pub returns-clause-kept : goal.returns-clause-kept
returns-clause-kept c = rw (← c.self.view_is)
    (still_marked _ _ c.args.n (changed (goal.at.returns-clause-kept c).After-index_mut))
