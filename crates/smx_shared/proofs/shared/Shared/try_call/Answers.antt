use Rattle.smx_shared.proofs.CallLemmas.{found_small, found_front, found_held, has_seen_more_by}
use Rattle.smx_shared.proofs.shared.Shared.try_call.Goals as goal

pub read-requires : goal.read-requires
read-requires g c =
    let held = c.in-Err.ensures.held in
    found_small _ _ _ held.1 held.0.2

pub returns-in-Err-clause-refused : goal.returns-in-Err-clause-refused
returns-in-Err-clause-refused g c =
    let held = c.in-Err.ensures.held in
    let word = c.read.ensures.word in
    let read = found_front _ _ _ c.read.result held.1 word c.read.ensures.links in
    rw (← c.seat.view_is) (
      record { looks = held.1.looks; last = rw word held.1.last; sees = read.0 },
      found_held _ c.read.result read.1 held.2,
    )

pub returns-in_err-apply-clause-seen : goal.returns-in_err-apply-clause-seen
returns-in_err-apply-clause-seen g c =
    let back = c.apply.ensures.rest in
    rw (← c.seat.view_is) (has_seen_more_by _ _ _ c.try_take.ensures.grown.0 back.1 back.2 c.seat.invariant.1)

pub returns-clause-seen : goal.returns-clause-seen
returns-clause-seen g c =
    let back = c.apply.ensures.rest in
    rw (← c.seat.view_is) (has_seen_more_by _ _ _ c.try_take.ensures.grown.0 back.1 back.2 c.seat.invariant.1)
