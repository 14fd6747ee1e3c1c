use Rattle.std.proofs.Common.{ap}
use Rattle.slab.specs.Slab.{Slab}
use Rattle.smx_queues.specs.declared.chain.Node.{Node}
use Rattle.smx_queues.proofs.StoreLemmas.{grown, seen_now}
use Rattle.smx_queues.proofs.queues.Queues.reserve_one.Goals as goal

pub invariant_of-self : goal.invariant_of-self
invariant_of-self c = (seen_now (grown _ _ _ (ap (λ (s : Slab Node). s.slots) c.in_err-reserve.ensures.rest_kept)
    c.self.invariant)).sound

pub invariant_of-self-2 : goal.invariant_of-self-2
invariant_of-self-2 c = (seen_now (grown _ _ _ (ap (λ (s : Slab Node). s.slots) c.in_ok-reserve.ensures.rest_kept)
    c.self.invariant)).sound
