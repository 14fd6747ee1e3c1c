use Rattle.smx_trace.proofs.Common.{rules, sym, subst, ◌∙◌, IsDriverList}
use Rattle.std.proofs.Common.{◌≡◌}
use Rattle.std.proofs.lemmas.Result.{err_from_is_err_and}
use Rattle.smx_config.specs.DriverFaults.{RefusesDrivers}
use Rattle.smx_trace.proofs.TraceLemmas.{trace_begun, whole_trace}
use Rattle.smx_trace.proofs.replaying.trace.Goals as goal

pub returns-clause-written : goal.returns-clause-written
returns-clause-written c =
    let t = c.args.transcript in
    let config = c.in_ok-config.ensures in
    let drivers : c.in_ok-config.config.drivers ≡ t.drivers = search rules in
    let can : IsDriverList t.drivers = subst IsDriverList (sym config.drivers.0 ∙ drivers) config.drivers.1 in
    let opening = c.in_ok-text.text.items in
    whole_trace c.args.each t c.trace_all.new.config c.in_ok-view.view opening c.trace_all.new.text.items
    c.write_configuration.new.out.items c.put.new.out.items can
    (rw c.as_slice-drivers.ensures at c.in_ok-text.ensures)
    (c.in_ok-view.ensures.traced t.drivers opening
    (trace_begun c.args.each t.drivers opening c.in_ok-config.config drivers config.empty))
    c.in_ok-view.ensures.now.is c.in_ok-write_configuration.ensures c.in_ok-put.ensures

pub returns-in_err-put-clause-refused : goal.returns-in_err-put-clause-refused
returns-in_err-put-clause-refused c =
    let drivers : c.in_ok-config.config.drivers ≡ c.args.transcript.drivers = search rules in
    let config = c.in_ok-config.ensures in
    let can : IsDriverList c.args.transcript.drivers = subst IsDriverList (sym config.drivers.0 ∙ drivers) config.drivers.1 in
    let back = c.from_residual-in_err-put in
    let failed = err_from_is_err_and back.result back.ensures.1 in
    rw failed.1 (subst (RefusesDrivers c.args.transcript.drivers) (sym failed.2) can)
