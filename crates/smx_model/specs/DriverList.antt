-- The drivers of a configuration, by number, and the lists of drivers that a configuration can have.
use Rattle.std.specs.Prelude.{◌≡◌, ◌≢◌, ℕ, ◌≤◌, Bool, true, false, List, [], length, slice_get, Ok}
use Rattle.std.specs.List.{All, AllPairs}
use Rattle.std.specs.Option.{option_map_or}
use Rattle.smx_types.specs.Drivers.{spec_check}
use Rattle.smx_types.specs.declared.driver.DriverKind.TheVariants as driver
use Rattle.smx_types.specs.declared.driver.DriverSpec.{DriverSpec}
use Rattle.smx_types.specs.declared.limits.TheConstants.{MAX_DRIVERS}

-- streams can be linked below it (STREAMS guide, multiplexing)
abbrev pub is_mux : List DriverSpec → ℕ → Bool
is_mux drivers n =
    option_map_or (λ d. elim d.kind [ driver.Mux ↦ true | driver.Leaf ↦ false ]) (slice_get drivers n) false

-- the number of minors of a driver
abbrev pub minors_of : List DriverSpec → ℕ → ℕ
minors_of drivers n = option_map_or (λ d. d.minors) (slice_get drivers n) 0

-- the high water mark of its queues, in bytes
abbrev pub high_of : List DriverSpec → ℕ → ℕ
high_of drivers n = option_map_or (λ d. d.high) (slice_get drivers n) 0

-- the low water mark of its queues, in bytes
abbrev pub low_of : List DriverSpec → ℕ → ℕ
low_of drivers n = option_map_or (λ d. d.low) (slice_get drivers n) 0

-- the maximum number of bytes of a message that is written to it
abbrev pub max_of : List DriverSpec → ℕ → ℕ
max_of drivers n = option_map_or (λ d. d.max) (slice_get drivers n) 0

-- its name
abbrev pub name_of : List DriverSpec → ℕ → List ℕ
name_of drivers n = option_map_or (λ d. d.name) (slice_get drivers n) []

-- at most 128 valid drivers with different names, numbered from 0 (limits of this project)
pub record IsDriverList (drivers : List DriverSpec) : Type 0 where
  pub few : length drivers ≤ MAX_DRIVERS
  pub each : All (λ d. spec_check d ≡ Ok tt) drivers
  pub names : AllPairs (λ d e. d.name ≢ e.name) drivers
