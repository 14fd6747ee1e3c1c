use Rattle.smx_shared.proofs.CallLemmas.{has_seen_more_by}
use Rattle.smx_shared.proofs.shared.SharedDoor.perform.Goals as goal

pub returns-clause-seen : goal.returns-clause-seen
returns-clause-seen g c =
    let back = c.perform.ensures.rest in
    rw (← c.seat.view_is) (has_seen_more_by _ _ _ c.take.ensures.grown.0 back.1 back.2 c.seat.invariant.1)
