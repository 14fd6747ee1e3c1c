use Rattle.smx_trace.proofs.Common.{DriverSpec, HasCome}
use Rattle.std.specs.Prelude.{List, [], take}
use Rattle.smx_trace.proofs.replaying.perform_all.Given as goal

abbrev pub invariant-loop-entry : goal.invariant-loop-entry
invariant-loop-entry l = (drivers : List DriverSpec) → HasCome drivers [] l.fn.config []
    → HasCome drivers (take l.entry-index l.entry-items) l.config l.lines.items
