use Rattle.std.proofs.Common.{take}
use Rattle.smx_model.specs.DriverList.{IsDriverList}
use Rattle.smx_config.proofs.config_fault.check_drivers.Given as goal

abbrev pub invariant-loop-i : goal.invariant-loop-i
invariant-loop-i l = IsDriverList (take l.i l.drivers)
