use Rattle.std.proofs.Common.{◌≡◌, Some, None}
use Rattle.smx_trace.proofs.QueueLemmas.{last_waits, more_follow}
use Rattle.smx_trace.proofs.SerialLemmas.{then_ok}
use Rattle.smx_trace.proofs.queues.write_wait_of_last.Goals as goal

pub returns-then-begin_with_place : goal.returns-then-begin_with_place
returns-then-begin_with_place c = λ h hs one others q.
    more_follow c.args.config.now.drivers c.args.config.now.configuration h hs c.args.line.now c.args.rest.now
    c.args.out.now.items c.drivers-drivers.ensures.list c.if-begin_with_place.ensures one others q

pub returns-in-Some : goal.returns-in-Some
returns-in-Some c =
    let drivers = c.args.config.now.drivers in
    then_ok c.write_wait.result
    (λ written h hs one others q.
    last_waits drivers c.args.config.now.configuration h hs c.args.line.now c.args.rest.now c.in-Some.place
    c.args.out.now.items c.write_wait.new.out.items c.drivers-drivers.ensures.list c.if-begin_with_place.ensures
    ((rw c.drivers-drivers.ensures.value at c.in-Some.ensures) h c.drivers-drivers.ensures.list q.known.0 one)
    written one others q)
    c.write_wait.ensures

pub returns-in-None : goal.returns-in-None
returns-in-None c = λ h hs one others q.
    let none : None ≡ Some h.place =
    (rw c.drivers-drivers.ensures.value at c.in-None.ensures) h c.drivers-drivers.ensures.list q.known.0 one in
    absurd (cc)
