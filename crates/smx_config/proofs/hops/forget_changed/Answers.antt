use Rattle.std.proofs.Common.{◌∙◌, sym}
use Rattle.smx_config.proofs.WayLemmas.{hops_kept, ways_kept}
use Rattle.smx_config.proofs.hops.forget_changed.Goals as goal

pub returns-then-not-keeps_ways : goal.returns-then-not-keeps_ways
returns-then-not-keeps_ways c = λ drivers old new process r swept right is. c.forget_all.ensures drivers old new right

pub returns-else-not-keeps_ways : goal.returns-else-not-keeps_ways
returns-else-not-keeps_ways c = λ drivers old new process r swept right is.
    hops_kept drivers old new c.args.hops.now (ways_kept drivers old new process c.args.command.now r
    (sym c.keeps_ways.ensures ∙ c.if-not-keeps_ways.false) swept is) right
