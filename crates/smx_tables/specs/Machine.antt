-- A configuration with its drivers, and the commands that never allocate.
use Rattle.std.specs.Prelude.{Bool, true, false, List}
use Rattle.smx_types.specs.declared.command.Command.{Command}
use Rattle.smx_types.specs.declared.command.Command.TheVariants as command
use Rattle.smx_types.specs.declared.driver.DriverSpec.{DriverSpec}
use Rattle.smx_model.specs.Configuration.{Configuration}

-- a configuration over some drivers, which never change
pub record Machine : Type 0 where
  pub drivers : List DriverSpec
  pub configuration : Configuration

-- the command does not allocate
abbrev pub takes_no_memory : Command → Bool
takes_no_memory (command.OpenClone name) = false
takes_no_memory (command.OpenMinor name minor) = false
takes_no_memory (command.Dup fd) = true
takes_no_memory (command.Close fd) = false
takes_no_memory command.CloseAll = false
takes_no_memory (command.Link fd arg) = false
takes_no_memory (command.Plink fd arg) = false
takes_no_memory (command.Unlink fd w) = false
takes_no_memory (command.Punlink fd w) = false
takes_no_memory (command.Bind fd addr) = false
takes_no_memory (command.Unbind fd) = true
takes_no_memory (command.Route fd addr id) = false
takes_no_memory (command.Unroute fd addr) = true
takes_no_memory (command.Write fd addr bytes) = false
takes_no_memory (command.Read fd) = true
takes_no_memory (command.Flush fd sides) = false
takes_no_memory (command.Inject name minor addr bytes) = false
takes_no_memory (command.Transmit name minor) = true
takes_no_memory (command.Hangup name minor) = true
