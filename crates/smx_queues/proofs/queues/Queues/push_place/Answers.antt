use Rattle.std.proofs.Common.{refl}
use Rattle.smx_queues.proofs.StoreLemmas.{has_none, pushed, seen_now}
use Rattle.smx_queues.proofs.queues.Queues.push_place.Goals as goal

pub invariant_of-self-2 : goal.invariant_of-self-2
invariant_of-self-2 c = rw (c.in_ok-push.ensures.items, c.new.ensures)
    (seen_now (pushed _ _ c.self.invariant _ (has_none _ refl refl c.requires.high c.requires.low))).sound

pub returns : goal.returns
returns c = rw (← c.self.view_is, c.in_ok-push.ensures.items, c.new.ensures)
    (pushed _ _ c.self.invariant _ (has_none _ refl refl c.requires.high c.requires.low)).is
