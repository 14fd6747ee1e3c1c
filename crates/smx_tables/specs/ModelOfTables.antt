-- The tables of a configuration with their drivers, and their invariant. No public clause needs this.
use Rattle.smx_tables.specs.declared.tables.Tables.TheInside.{Inside}
use Rattle.std.specs.Prelude.{◌≡◌, ℕ, List, length, map}
use Rattle.smx_types.specs.declared.driver.DriverSpec.{DriverSpec}
use Rattle.smx_model.specs.DriverList.{IsDriverList}
use Rattle.smx_tables.specs.KeptHolds.{KeepsHolds}
use Rattle.smx_tables.specs.ModelOfLists.{configuration_of, sizes_of}
use Rattle.smx_tables.specs.Machine.{Machine}

-- the value that contracts see for these fields
abbrev pub machine_of : Inside → Machine
machine_of t = record { drivers = t.drivers.items; configuration = configuration_of t.lists }

-- the sizes of tables over these drivers
abbrev pub sizes_over : List DriverSpec → ℕ × List ℕ × List DriverSpec
sizes_over drivers = (length drivers, map (λ d. d.minors) drivers, drivers)

-- what holds of the fields before and after each call
pub record TablesInvariant (t : Inside) : Type 0 where
  -- the list of drivers is valid
  pub can : IsDriverList t.drivers.items
  -- each table is over these drivers
  pub sizes : sizes_of t.lists ≡ sizes_over t.drivers.items
  -- each stream below a link has one hold, and no other stream has a hold
  pub kept : KeepsHolds t.lists
