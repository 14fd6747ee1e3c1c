use Rattle.std.proofs.Common.{◌≡◌, ◌∙◌, Some, None, arith, sym}
use Rattle.smx_trace.proofs.QueueLemmas.{found_driver, place_is, small_line}
use Rattle.smx_trace.proofs.queues.place_of.Goals as goal
use Rattle.smx_trace.proofs.queues.place_of.Goals.{then-driver-gt255-via-then-driver-gt255}
use Rattle.smx_trace.proofs.queues.place_of.Goals.{then-driver-gt255-via-else-driver-gt255+then-line-gt255}

pub returns-in_err-driver : goal.returns-in_err-driver
returns-in_err-driver c = λ h can known is.
    let found : c.ok.result ≡ Some h.place.stream.driver =
    found_driver c.args.drivers.now h c.args.line.now c.driver_of.result c.ok.result can known is
    c.driver_of.ensures.found c.ok.ensures.value in
    let none : None ≡ Some h.place.stream.driver = sym c.in_err-driver.was ∙ found in absurd (cc)

pub returns-then-driver-gt255 : goal.returns-then-driver-gt255
returns-then-driver-gt255 c = λ h can known is.
    let found : Some c.in_ok-driver.driver ≡ Some h.place.stream.driver =
    sym c.in_ok-driver.was ∙ found_driver c.args.drivers.now h c.args.line.now c.driver_of.result c.ok.result can
    known is c.driver_of.ensures.found c.ok.ensures.value in
    let small = small_line c.args.drivers.now h c.args.line.now c.in_ok-driver.driver can known is found in
    elim c.then-driver-gt255.branch [
      | then-driver-gt255-via-then-driver-gt255 w ↦ absurd (omega (arith, w.if-driver-gt255.true, small.0))
      | then-driver-gt255-via-else-driver-gt255+then-line-gt255 w ↦
          absurd (omega (arith, w.if-line-gt255.true, small.1))
    ]

pub returns : goal.returns
returns c = λ h can known is.
    let found : Some c.in_ok-driver.driver ≡ Some h.place.stream.driver =
    sym c.in_ok-driver.was ∙ found_driver c.args.drivers.now h c.args.line.now c.driver_of.result c.ok.result can
    known is c.driver_of.ensures.found c.ok.ensures.value in
    place_is c.args.drivers.now h c.args.line.now c.in_ok-driver.driver is found
