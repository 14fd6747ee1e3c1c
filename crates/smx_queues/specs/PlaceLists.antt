-- The places of all streams that some drivers have, and their numbers.
use Rattle.std.specs.Prelude.{◌≡◌, ℕ, zero, suc, ◌+◌, ◌*◌, List, [], ◌∷◌, ◌++◌, map}
use Rattle.std.specs.Prelude.{Option, Some}
use Rattle.smx_types.specs.declared.driver.DriverSpec.{DriverSpec}
use Rattle.smx_types.specs.declared.stream.Place.{Place}
use Rattle.smx_types.specs.declared.stream.Side.{Side}
use Rattle.smx_types.specs.declared.stream.Side.TheVariants as side
use Rattle.smx_queues.specs.declared.places.DriverRow.{DriverRow}
use Rattle.smx_model.specs.Configuration.{side_number}
use Rattle.smx_model.specs.DriverList.{high_of, low_of}
use Rattle.smx_queues.specs.QueueTable.{Queue, empty_queue}

-- both sides of this number of minors of a driver
abbrev pub sides_of : ℕ → ℕ → List Place
sides_of driver zero = []
sides_of driver (suc n) = sides_of driver n ++ at side.Write ∷ at side.Read ∷ [] where
  at : Side → Place
  at s = record { stream = record { driver = driver; minor = n }; side = s }

-- the places of all streams of these drivers, where the first of them has this number
abbrev pub places_from : ℕ → List DriverSpec → List Place
places_from n [] = []
places_from n (d ∷ drivers) = sides_of n d.minors ++ places_from (suc n) drivers

-- the places of all streams that some drivers have, each at its number
abbrev pub places_of : List DriverSpec → List Place
places_of drivers = places_from 0 drivers

-- the row of a driver with this number of minors, whose first place has this number
abbrev pub driver_row : ℕ → ℕ → DriverRow
driver_row first minors = record { first = first; minors = minors }

-- the row of each driver, where the first place of the first one has this number
abbrev pub rows_from : ℕ → List DriverSpec → List DriverRow
rows_from first [] = []
rows_from first (d ∷ drivers) = driver_row first d.minors ∷ rows_from (first + 2 * d.minors) drivers

-- the row of each driver
abbrev pub rows_of : List DriverSpec → List DriverRow
rows_of drivers = rows_from 0 drivers

-- the number of a place of a driver with this row
abbrev pub number_in : DriverRow → Place → ℕ
number_in row p = row.first + 2 * p.stream.minor + side_number p.side

-- the rows of the drivers, and their places
pub record ArePlaces (drivers : List DriverSpec) (rows : List DriverRow) (places : List Place) : Type 0 where
  pub rows_are : rows ≡ rows_of drivers
  pub places_are : places ≡ places_of drivers

-- the items of all places, by place, where a place and the element of its number make the items of the place
abbrev pub by_place : {X Y : Type 0} → (Place → X → List Y) → List Place → List X → List Y
by_place items [] xs = []
by_place items (p ∷ places) [] = []
by_place items (p ∷ places) (x ∷ xs) = items p x ++ by_place items places xs

-- a queue for each place, without messages, with the water marks of its driver
abbrev pub new_queues : List DriverSpec → List Place → List (Option Queue)
new_queues drivers places =
    map (λ p. Some (empty_queue (high_of drivers p.stream.driver) (low_of drivers p.stream.driver))) places
