-- The words in which the fault of a list of drivers prints itself.
use Rattle.std.specs.Prelude.{ℕ, List, ◌++◌, codes}
use Rattle.std.specs.Fmt.{decimal}
use Rattle.smx_types.specs.FaultWords.{no_memory_words, spec_fault_words}
use Rattle.smx_config.specs.declared.config_fault.ConfigFault.{ConfigFault}
use Rattle.smx_config.specs.declared.config_fault.ConfigFault.TheVariants.{BadSpec, SameName, TooMany, NoMemory}

-- why there is no configuration for some drivers; drivers are numbered from 0
abbrev pub config_fault_words : ConfigFault → List ℕ
config_fault_words (BadSpec i fault) = codes "driver " ++ (decimal i ++ (codes " " ++ spec_fault_words fault))
config_fault_words (SameName i) = codes "driver " ++ (decimal i ++ codes " same name")
config_fault_words TooMany = codes "too many drivers"
config_fault_words NoMemory = no_memory_words
