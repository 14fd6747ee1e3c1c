use Rattle.std.specs.Prelude.{◌≤◌, drop, length, nat_eq}
use Rattle.indexmap.specs.IndexMap.{get}
use Rattle.smx_trace.specs.Serials.{FindsBySerial}
use Rattle.smx_trace.proofs.moves.index_of.Given as goal

abbrev pub decreases-lines : goal.decreases-lines
decreases-lines l = l.left

abbrev pub invariant-lines : goal.invariant-lines
invariant-lines l = record {
  within : l.left ≤ length l.lines;
  found : FindsBySerial (get nat_eq l.index) l.lines (drop l.left l.lines);
}
