use Rattle.std.proofs.lemmas.List.{get_or-replicate}
use Rattle.smx_queues.proofs.RingLemmas.{at_first}
use Rattle.smx_queues.proofs.rings.Rings.new.Goals as goal

pub invariant_of-result : goal.invariant_of-result
invariant_of-result c = rw (
  c.in_ok-previous.ensures.items,
  c.deref.ensures.value,
  c.in_ok-next.ensures,
  c.in_ok-owners.ensures.items_if_clones_equal (λ y e. e),
) (at_first c.args.count c.requires)

pub returns-clause-none : goal.returns-clause-none
returns-clause-none c = λ i lt.
    rw (c.in_ok-owners.ensures.items_if_clones_equal (λ y e. e)) (get_or-replicate c.args.count i 0 0 lt)
