-- Drivers and programs as one value.
use Rattle.std.specs.Prelude.{◌≡◌, ◌≤◌, List, length}
use Rattle.std.specs.List.{sum_by}
use Rattle.smx_types.specs.Versions.{least_of_programs}
use Rattle.smx_types.specs.declared.command.Command.{Command}
use Rattle.smx_types.specs.declared.driver.DriverSpec.{DriverSpec}
use Rattle.smx_types.specs.declared.limits.TheConstants.{MAX_DRIVERS, MAX_PROCESSES, MAX_COMMANDS}
use Rattle.smx_types.specs.declared.version.Version.{Version}
use Rattle.smx_types.specs.declared.version.Version.TheVariants.{V1, V2}

-- the version of their text, the drivers, and the commands of each process
pub record ProgramLists : Type 0 where
  pub version : Version
  pub drivers : List DriverSpec
  pub programs : List (List Command)

-- these drivers and programs as one value, in the earliest version that can express them
abbrev pub program_lists : List DriverSpec → List (List Command) → ProgramLists
program_lists drivers programs =
    record { version = least_of_programs drivers programs; drivers = drivers; programs = programs }

-- these programs in version 2
abbrev pub raised : ProgramLists → ProgramLists
raised p = record p { version = V2 }

-- at most 128 drivers, 64 programs, and 100,000 commands in all of them; programs of version 1 need no later version
pub record AreWithinLimits (p : ProgramLists) : Type 0 where
  pub drivers : length p.drivers ≤ MAX_DRIVERS
  pub programs : length p.programs ≤ MAX_PROCESSES
  pub commands : sum_by length p.programs ≤ MAX_COMMANDS
  pub version : p.version ≡ V1 → least_of_programs p.drivers p.programs ≡ V1
