use Rattle.std.proofs.Common.{sym}
use Rattle.smx_trace.proofs.QueueLemmas.{settled_reason, wait_written}
use Rattle.smx_trace.proofs.SerialLemmas.{then_ok}
use Rattle.smx_trace.proofs.reasons.write_wait.Goals as goal

pub returns : goal.returns
returns c =
    let drivers = c.args.config.now.drivers in
    let configuration = c.args.config.now.configuration in
    let first = sym c.in-Some.ensures in
    let r = settled_reason drivers configuration c.args.place c.in-Some.message.now c.requires first in
    then_ok c.put-4.result
    (wait_written drivers configuration c.args.place c.in-Some.message.now r.0 c.args.out.now.items
    c.put.new.out.items c.put_place.new.out.items c.put-2.new.out.items c.put_number.new.out.items
    c.put-3.new.out.items c.put_reason.new.out.items c.put-4.new.out.items
    first r.1 c.in_ok-put.ensures (rw c.drivers.ensures.value at c.in_ok-put_place.ensures) c.in_ok-put-2.ensures
    c.in_ok-put_number.ensures c.in_ok-put-3.ensures (c.in_ok-put_reason.ensures r.0 r.1)) c.put-4.ensures
