use Rattle.smx_queues.proofs.CloneLemmas.{same_slots}
use Rattle.smx_queues.proofs.StoreLemmas.{grown, seen_now}
use Rattle.smx_queues.proofs.queues.Queues.copy.Goals as goal

pub invariant_of-result : goal.invariant_of-result
invariant_of-result c = rw (c.in_ok-from_slice.ensures.items, c.deref.ensures.value)
    (seen_now (grown _ _ _ (same_slots _ _ c.in_ok-clone.ensures.cases) c.self.invariant)).sound

pub returns : goal.returns
returns c = rw (← c.self.view_is, c.in_ok-from_slice.ensures.items, c.deref.ensures.value)
    (grown c.self.inside.nodes c.in_ok-clone.field-0 _ (same_slots _ _ c.in_ok-clone.ensures.cases) c.self.invariant).is
