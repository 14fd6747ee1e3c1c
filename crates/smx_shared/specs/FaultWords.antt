-- The words in which the fault of a command prints itself.
use Rattle.std.specs.Prelude.{ℕ, List, codes}
use Rattle.smx_types.specs.FaultWords.{no_memory_words}
use Rattle.smx_shared.specs.declared.shared_fault.ApplyFault.{ApplyFault}
use Rattle.smx_shared.specs.declared.shared_fault.ApplyFault.TheVariants.{HistoryFull, NoMemory}

-- why a command was not performed
abbrev pub apply_fault_words : ApplyFault → List ℕ
apply_fault_words HistoryFull = codes "history full"
apply_fault_words NoMemory = no_memory_words
