-- Why drivers are refused.
use Rattle.std.proofs.Common.{◌≡◌, List, refl}
use Rattle.smx_types.specs.declared.driver.DriverSpec.{DriverSpec}
use Rattle.smx_model.specs.DriverList.{IsDriverList}
use Rattle.smx_config.specs.DriverFaults.{RefusesDrivers}
use Rattle.smx_config.specs.declared.config_fault.ConfigFault.{ConfigFault}
use Rattle.smx_config.specs.declared.config_fault.ConfigFault.TheVariants as config
use Rattle.smx_run.specs.RunFaults.{RefusesAlone}
use Rattle.smx_run.specs.declared.run_fault.RunFault.{RunFault}
use Rattle.smx_run.specs.declared.run_fault.RunFault.TheVariants as run

-- drivers that are not valid are refused for only one fault
abbrev pub HaveOneFault : Type 0
HaveOneFault =
    (drivers : List DriverSpec) (f g : ConfigFault) → RefusesDrivers drivers f → RefusesDrivers drivers g → f ≡ g

-- drivers that are valid are refused only for lack of memory
pub only_memory_refuses : HaveOneFault → (drivers : List DriverSpec) → IsDriverList drivers → (r : RunFault)
    → RefusesAlone drivers r → r ≡ run.NoMemory
only_memory_refuses determined drivers had run.NoMemory h = refl
only_memory_refuses determined drivers had (run.ConfigFault f) h =
    absurd (h.1 (determined drivers f config.NoMemory h.0 had))
only_memory_refuses determined drivers had r h = absurd h
