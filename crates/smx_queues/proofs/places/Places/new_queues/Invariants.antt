use Rattle.std.proofs.Common.{◌≡◌, take}
use Rattle.smx_queues.specs.PlaceLists.{new_queues}
use Rattle.smx_queues.proofs.places.Places.new_queues.Given as goal

abbrev pub invariant-loop-place : goal.invariant-loop-place
invariant-loop-place l =
    l.made.queues ≡ new_queues l.self-inside.drivers.items (take l.place-index l.self-inside.places.items)
