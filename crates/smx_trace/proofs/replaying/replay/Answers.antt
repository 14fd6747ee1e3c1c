use Rattle.smx_trace.proofs.Common.{rules, sym, subst, ◌∙◌, IsDriverList, HasCome}
use Rattle.std.proofs.Common.{◌≡◌}
use Rattle.smx_trace.proofs.ReplayLemmas.{begun, whole}
use Rattle.smx_trace.proofs.replaying.replay.Goals as goal

pub returns-clause-written : goal.returns-clause-written
returns-clause-written c =
    let t = c.args.transcript in
    let config = c.in_ok-config.ensures in
    let drivers : c.in_ok-config.config.drivers ≡ t.drivers = search rules in
    let can : IsDriverList t.drivers = subst IsDriverList (sym config.drivers.0 ∙ drivers) config.drivers.1 in
    let come : HasCome t.drivers t.entries c.perform_all.new.config c.in_ok-lines.lines.items =
    c.in_ok-lines.ensures t.drivers (begun t.drivers c.in_ok-config.config drivers config.empty) in
    let finish = c.in_ok-finish_transcript.ensures in
    whole t c.perform_all.new.config c.in_ok-lines.lines.items _ c.in_ok-view.view can come c.in_ok-view.ensures
    (rw c.as_slice-drivers.ensures at finish.written) (rw c.as_slice-drivers.ensures at finish.spellable)
