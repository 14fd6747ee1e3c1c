-- The words that a text fault prints.
use Rattle.std.specs.Prelude.{ℕ, List, ◌++◌, codes}
use Rattle.std.specs.Fmt.{decimal}
use Rattle.smx_text.specs.declared.text_fault.Cause.{Cause}
use Rattle.smx_text.specs.declared.text_fault.Cause.TheVariants as cause
use Rattle.smx_text.specs.declared.text_fault.TextFault.{TextFault}

-- what is wrong with a line
abbrev pub cause_words : Cause → List ℕ
cause_words cause.Header = codes "header"
cause_words cause.Form = codes "form"
cause_words cause.Many = codes "many"
cause_words cause.Cut = codes "cut"
cause_words cause.Trailing = codes "trailing"
cause_words cause.NoMemory = codes "no memory"

-- the line number, and the cause
abbrev pub text_fault_words : TextFault → List ℕ
text_fault_words fault = codes "line " ++ (decimal fault.line ++ (codes ": " ++ cause_words fault.cause))
