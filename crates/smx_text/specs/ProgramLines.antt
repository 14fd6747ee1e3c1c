-- The lines of a programs text after its header.
use Rattle.std.specs.Prelude.{ℕ}
use Rattle.smx_types.specs.declared.command.Command.{Command as AnyCommand}
use Rattle.smx_types.specs.declared.driver.DriverSpec.{DriverSpec}

-- a driver; the start of a process' program; a command of the most recent process; the end
pub data Line : Type 0 where
  Driver : DriverSpec → Line
  Process : ℕ → Line
  Command : AnyCommand → Line
  End : Line
