-- The numbers of places are those of the table of queues.
use Rattle.smx_tables.proofs.Common.{◌≡◌, ℕ, ◌<◌, length, Some, arith, Place, Machine, TablesInvariant, machine_of}
use Rattle.smx_tables.proofs.Common.{Inside}
use Rattle.std.specs.Prelude.{slice_get}
use Rattle.smx_queues.specs.PlaceLists.{places_of}

-- the table of queues is over the drivers
pub queue_drivers : (t : Inside) (m : Machine) → TablesInvariant t → machine_of t ≡ m
    → m.drivers ≡ t.lists.queues.drivers
queue_drivers t m h seen = grind arith

-- a number of a place is one there
pub number_there : (t : Inside) (m : Machine) (n : ℕ) → TablesInvariant t → machine_of t ≡ m
    → n < length (places_of m.drivers) → n < length (places_of t.lists.queues.drivers)
number_there t m n h seen lt = grind (arith, queue_drivers t m h seen)

-- a place has its number there
pub is_there : (t : Inside) (m : Machine) (n : ℕ) (p : Place) → TablesInvariant t → machine_of t ≡ m
    → slice_get (places_of m.drivers) n ≡ Some p → slice_get (places_of t.lists.queues.drivers) n ≡ Some p
is_there t m n p h seen at = grind (arith, queue_drivers t m h seen)

-- and the other way round
pub is_seen : (t : Inside) (m : Machine) (n : ℕ) (p : Place) → TablesInvariant t → machine_of t ≡ m
    → slice_get (places_of t.lists.queues.drivers) n ≡ Some p → slice_get (places_of m.drivers) n ≡ Some p
is_seen t m n p h seen at = grind (arith, queue_drivers t m h seen)
