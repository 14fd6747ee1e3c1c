-- The words in which faults print themselves.
use Rattle.std.specs.Prelude.{ℕ, List}
use Rattle.smx_types.specs.FaultWords.{no_memory_words}
use Rattle.smx_config.specs.FaultWords.{config_fault_words}
use Rattle.smx_text.specs.FaultWords.{text_fault_words}
use Rattle.smx_session.specs.declared.faults.StartFault.{StartFault}
use Rattle.smx_session.specs.declared.faults.StartFault.TheVariants as start

-- the words of a text's fault, of a fault of its drivers, or for out-of-memory
abbrev pub start_fault_words : StartFault → List ℕ
start_fault_words start.NoMemory = no_memory_words
start_fault_words (start.Text fault) = text_fault_words fault
start_fault_words (start.Drivers fault) = config_fault_words fault
