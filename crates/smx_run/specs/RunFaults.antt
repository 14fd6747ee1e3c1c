-- Why a run is refused: its drivers are invalid, memory ran out, a thread can't be started, or the history is full.
use Rattle.std.specs.Prelude.{◌≡◌, ◌≢◌, ◌⊎◌, List, Result, Err}
use Rattle.smx_types.specs.declared.driver.DriverSpec.{DriverSpec}
use Rattle.smx_model.specs.DriverList.{IsDriverList}
use Rattle.smx_config.specs.DriverFaults.{RefusesDrivers}
use Rattle.smx_config.specs.declared.config_fault.ConfigFault.{ConfigFault}
use Rattle.smx_config.specs.declared.config_fault.ConfigFault.TheVariants as config
use Rattle.smx_shared.specs.declared.shared_fault.ApplyFault.{ApplyFault}
use Rattle.smx_shared.specs.declared.shared_fault.ApplyFault.TheVariants as apply
use Rattle.smx_run.specs.declared.run_fault.RunFault.{RunFault}
use Rattle.smx_run.specs.declared.run_fault.RunFault.TheVariants as run
use Rattle.smx_run.specs.declared.run_fault.WorkerFault.{WorkerFault}
use Rattle.smx_run.specs.declared.run_fault.WorkerFault.TheVariants as worker

-- out-of-memory is one fault, whoever met it
abbrev pub run_fault_of : ConfigFault → RunFault
run_fault_of config.NoMemory = run.NoMemory
run_fault_of config.TooMany = run.ConfigFault config.TooMany
run_fault_of (config.BadSpec i f) = run.ConfigFault (config.BadSpec i f)
run_fault_of (config.SameName i) = run.ConfigFault (config.SameName i)

-- the fault of a call, as that of the run
abbrev pub fault_of_call : ApplyFault → RunFault
fault_of_call apply.HistoryFull = run.HistoryFull
fault_of_call apply.NoMemory = run.NoMemory

-- the fault of a call, as that of the worker that made it
abbrev pub worker_fault_of : ApplyFault → WorkerFault
worker_fault_of apply.HistoryFull = worker.HistoryFull
worker_fault_of apply.NoMemory = worker.NoMemory

-- the fault of a worker, as that of the run
abbrev pub fault_of_worker : WorkerFault → RunFault
fault_of_worker worker.NoMemory = run.NoMemory
fault_of_worker worker.NoThread = run.NoThread
fault_of_worker worker.HistoryFull = run.HistoryFull

-- one of two results is this fault
abbrev pub EitherFails : {T U : Type 0} → WorkerFault → Result T WorkerFault → Result U WorkerFault → Type 0
EitherFails fault before last = (before ≡ Err fault) ⊎ (last ≡ Err fault)

-- the drivers are refused, with their fault; or they are valid, and memory ran out
abbrev pub RefusesAlone : List DriverSpec → RunFault → Type 0
RefusesAlone drivers run.NoMemory = IsDriverList drivers
RefusesAlone drivers (run.ConfigFault f) = RefusesDrivers drivers f × (f ≢ config.NoMemory)
RefusesAlone drivers other = ⊥

-- The drivers are refused, with their fault. Or they are valid, and memory ran out, a worker's thread could not be
-- started, or the workers met a full history.
abbrev pub RefusesRun : List DriverSpec → RunFault → Type 0
RefusesRun drivers run.NoThread = IsDriverList drivers
RefusesRun drivers run.HistoryFull = IsDriverList drivers
RefusesRun drivers other = RefusesAlone drivers other
