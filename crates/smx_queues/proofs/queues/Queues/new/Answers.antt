use Rattle.std.proofs.Common.{List, ap, arith, length, refl}
use Rattle.smx_queues.specs.declared.chain.Chain.{Chain}
use Rattle.smx_queues.proofs.queues.Queues.new.Goals as goal

pub invariant_of-result : goal.invariant_of-result
invariant_of-result c = record {
  own = λ _. (0, 0);
  store = record {
    each = λ p below. absurd (omega (arith, below, ap (λ (cs : List Chain). length cs) c.new-2.ensures.items));
    counted = rw (c.new.ensures.empty, c.new-2.ensures.items) refl;
  };
}
