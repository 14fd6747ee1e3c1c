-- The words in which the faults of a run print themselves.
use Rattle.std.specs.Prelude.{ℕ, List, ◌++◌, codes}
use Rattle.std.specs.Fmt.{decimal}
use Rattle.smx_types.specs.FaultWords.{no_memory_words}
use Rattle.smx_config.specs.FaultWords.{config_fault_words}
use Rattle.smx_run.specs.declared.run_fault.RunFault.{RunFault}
use Rattle.smx_run.specs.declared.run_fault.RunFault.TheVariants as run

-- why a run was refused
abbrev pub run_fault_words : RunFault → List ℕ
run_fault_words run.NoMemory = no_memory_words
run_fault_words run.NoThread = no_memory_words
run_fault_words (run.Strange process) = codes "strange " ++ decimal process
run_fault_words (run.ConfigFault fault) = config_fault_words fault
run_fault_words run.HistoryFull = codes "history full"
run_fault_words run.Held = codes "turn held"
run_fault_words (run.FewEntries count) = codes "the transcript has " ++ decimal count ++ codes " entries"
run_fault_words (run.LongPage count) =
    codes "a page has room for fewer than " ++ decimal count ++ codes " entries, see replay --at"
