use Rattle.std.proofs.Common.{◌*◌, ◌%◌, ◌/◌, ◌^◌, arith, set, false, w64}
use Rattle.std.specs.Prelude.{bit_and}
use Rattle.std.specs.Int.{bit_not}
use Rattle.smx_queues.proofs.BitLemmas.{IsOneChanged, all_but_one, fewer, mark_cleared, still_bits}
use Rattle.smx_queues.proofs.bits.Bits.clear.Goals as goal
use Rattle.smx_queues.proofs.bits.Bits.clear.Goals.{After-index_mut}

-- the number is not marked now, and the other numbers are marked as before
changed : (c : After-index_mut) → IsOneChanged c.self.inside.words.items (set c.self.inside.words.items (c.args.n / 64)
    (bit_and c.index_mut.result.now (bit_not w64 (1 * 2 ^ (c.args.n % 64) % 2 ^ 64)))) c.args.n false
changed c = mark_cleared _ _ _ (omega (arith, rw (← c.self.view_is) at c.requires, c.self.invariant.many))
    c.index_mut.ensures.value

pub invariant_of-self : goal.invariant_of-self
invariant_of-self c = still_bits _ _ _ _ _ c.args.n false c.self.invariant
    (changed (goal.at.invariant_of-self c).After-index_mut) (rw (← c.self.view_is) at c.requires) (omega arith)
    (λ t. absurd (cc))

pub returns-clause-gone : goal.returns-clause-gone
returns-clause-gone c = rw (← c.self.view_is)
    (all_but_one _ _ c.args.n (changed (goal.at.returns-clause-gone c).After-index_mut))

pub returns-clause-fewer : goal.returns-clause-fewer
returns-clause-fewer c = rw (← c.self.view_is) (fewer _ _ c.args.n
    (changed (goal.at.returns-clause-fewer c).After-index_mut)
    (omega (arith, rw (← c.self.view_is) at c.requires, c.self.invariant.many)))
