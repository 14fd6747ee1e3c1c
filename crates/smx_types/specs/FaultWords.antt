-- The words that are printed for a fault.
use Rattle.std.specs.Prelude.{ℕ, List, codes}
use Rattle.smx_types.specs.declared.driver.SpecFault.{SpecFault}
use Rattle.smx_types.specs.declared.driver.SpecFault.TheVariants.{BadMinors, BadMarks, BadMax}

-- the fault of a driver specification
abbrev pub spec_fault_words : SpecFault → List ℕ
spec_fault_words BadMinors = codes "minors"
spec_fault_words BadMarks = codes "marks"
spec_fault_words BadMax = codes "max"

-- out of memory
abbrev pub no_memory_words : List ℕ
no_memory_words = codes "no memory"

-- over a limit
abbrev pub many_words : List ℕ
many_words = codes "too many drivers, programs or commands"
