use Rattle.std.specs.Prelude.{ℕ, List, [], take}
use Rattle.smx_types.specs.declared.driver.DriverSpec.{DriverSpec}
use Rattle.smx_trace.specs.Tracing.{HasTraced, IsNow}
use Rattle.smx_trace.proofs.replaying.trace_all.Given as goal

abbrev pub invariant-loop-entry : goal.invariant-loop-entry
invariant-loop-entry l = record {
  now : IsNow l.config l.view;
  traced : (drivers : List DriverSpec) (opening : List ℕ)
      → HasTraced l.each drivers opening [] l.fn.config l.fn.text.items
      → HasTraced l.each drivers opening (take l.entry-index l.entry-items) l.config l.text.items;
}
