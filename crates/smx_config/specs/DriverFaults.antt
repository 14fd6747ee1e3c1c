-- Why a list of drivers is refused: its first wrong driver.
use Rattle.std.specs.Prelude.{◌≡◌, ℕ, ◌<◌, ◌≤◌, List, length, take, Any, Ok, Err, Some, slice_get}
use Rattle.smx_types.specs.Drivers.{spec_check}
use Rattle.smx_types.specs.declared.driver.DriverSpec.{DriverSpec}
use Rattle.smx_types.specs.declared.limits.TheConstants.{MAX_DRIVERS}
use Rattle.smx_model.specs.DriverList.{IsDriverList}
use Rattle.smx_config.specs.declared.config_fault.ConfigFault.{ConfigFault}
use Rattle.smx_config.specs.declared.config_fault.ConfigFault.TheVariants.{BadSpec, SameName, TooMany, NoMemory}

-- there are not too many drivers, and those before this one, which has the number `i` from 0, are a valid list
pub record IsFirstBad (drivers : List DriverSpec) (i : ℕ) (d : DriverSpec) : Type 0 where
  pub few : length drivers ≤ MAX_DRIVERS
  pub here : slice_get drivers i ≡ Some d
  pub before : IsDriverList (take i drivers)

-- There are too many drivers; or else the first wrong driver is invalid, or is valid and has the name of an earlier
-- one. Only a valid list is refused as out of memory.
abbrev pub RefusesDrivers : List DriverSpec → ConfigFault → Type 0
RefusesDrivers drivers TooMany = MAX_DRIVERS < length drivers
RefusesDrivers drivers (BadSpec i f) = (d : DriverSpec) × IsFirstBad drivers i d × (spec_check d ≡ Err f)
RefusesDrivers drivers (SameName i) =
    (d : DriverSpec) × IsFirstBad drivers i d × (spec_check d ≡ Ok tt) × Any (λ e. e.name ≡ d.name) (take i drivers)
RefusesDrivers drivers NoMemory = IsDriverList drivers
