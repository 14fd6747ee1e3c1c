-- The text that is kept with a fault, so that the fault can be shown in it.
use Rattle.std.specs.Prelude.{◌≡◌, ℕ, Bool, true, false, List, Option, Some, None, Result, Ok, Err, Vec}
use Rattle.std.specs.Global.{Global}
use Rattle.smx_run.specs.declared.main_fault.MainFault.{MainFault}
use Rattle.smx_run.specs.declared.main_fault.MainFault.TheVariants.{Refused, Text}
use Rattle.smx_run.specs.declared.main_fault.Refusal.{Refusal}
use Rattle.smx_run.specs.declared.run_fault.RunFault.TheVariants as run

-- the fault is one of the text, or of its drivers, so it can be shown in the text
abbrev pub is_in_text : MainFault → Bool
is_in_text (Text fault) = true
is_in_text (Refused (run.ConfigFault fault)) = true
is_in_text other = false

-- there is a text, and it is this one
abbrev pub IsKept : Option (Vec ℕ Global) → List ℕ → Type 0
IsKept (Some text) bytes = text.items ≡ bytes
IsKept None bytes = ⊥

-- an answer without the text
abbrev pub answer_of : {T : Type 0} → Result T Refusal → Result T MainFault
answer_of (Ok answer) = Ok answer
answer_of (Err refusal) = Err refusal.fault
