use Rattle.std.proofs.Common.{◌≡◌, ◌++◌}
use Rattle.smx_queues.specs.PlaceLists.{sides_of}
use Rattle.smx_queues.proofs.places.push_sides.Given as goal

abbrev pub invariant-loop-minor : goal.invariant-loop-minor
invariant-loop-minor l = l.places.items ≡ l.initial.places.items ++ sides_of l.driver l.minor
