use Rattle.smx_config.proofs.DriverFaultLemmas.{one_fault}
use Rattle.smx_config.proofs.laws.drivers_have_one_fault.Goals as goal

pub returns : goal.returns
returns c = one_fault
