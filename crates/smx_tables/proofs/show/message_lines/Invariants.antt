use Rattle.std.proofs.Common.{◌≡◌, ◌<◌, ◌++◌, length, map}
use Rattle.std.specs.List.{AllByRecursion}
use Rattle.smx_model.specs.Views.{view_of_message}
use Rattle.smx_tables.proofs.show.message_lines.Given as goal

abbrev pub decreases-loop-place : goal.decreases-loop-place
decreases-loop-place l = length l.rest

abbrev pub invariant-loop-place : goal.invariant-loop-place
invariant-loop-place l = record {
  lines : l.lines.items ++ map (view_of_message l.drivers) l.rest ≡ map (view_of_message l.drivers) l.fn.queues.flow;
  known : AllByRecursion (λ h. h.place.stream.driver < length l.drivers) l.rest;
}
