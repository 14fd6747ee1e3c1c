use Rattle.std.proofs.Common.{rules}
use Rattle.smx_shared.proofs.CallLemmas.{found_small, found_front}
use Rattle.smx_shared.proofs.StepLemmas.{looks}
use Rattle.smx_shared.proofs.TellLemmas.{looked}
use Rattle.smx_shared.proofs.shared.SharedDoor.glance.Goals as goal

pub load-requires : goal.load-requires
load-requires g c =
    let rest = c.seat.invariant.0 in
    (search rules, search rules, looks _ _ _ _ _ _ _ rest.2 rest.1)

pub read-requires : goal.read-requires
read-requires g c =
    let saw = looked _ _ _ c.seat.invariant.0 c.load.ensures.2 in
    found_small _ _ _ saw.1 saw.0.2

pub returns-clause-front : goal.returns-clause-front
returns-clause-front g c =
    let found = (looked _ _ _ c.seat.invariant.0 c.load.ensures.2).1 in
    let word = c.read.ensures.word in
    let read = found_front _ _ _ c.read.result found word c.read.ensures.links in
    rw (← c.seat.view_is) (record { looks = found.looks; last = rw word found.last; sees = read.0 })
