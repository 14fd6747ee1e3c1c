-- The exit status of each end of the program.
use Rattle.std.specs.Prelude.{ℕ, Result, Ok, Err}
use Rattle.smx_config.specs.declared.verdict.Verdict.{Verdict}
use Rattle.smx_config.specs.declared.verdict.Verdict.TheVariants.{Legal, Illegal, ConfigDiffers}
use Rattle.smx_text.specs.declared.text_fault.Cause.{Cause}
use Rattle.smx_text.specs.declared.text_fault.Cause.TheVariants.{Header, Form, Many, Cut, Trailing, NoMemory}
use Rattle.smx_run.specs.declared.main_fault.MainFault.{MainFault}
use Rattle.smx_run.specs.declared.main_fault.MainFault.TheVariants.{Refused, Text, TooLong, ReadFailed, WriteFailed}
use Rattle.smx_run.specs.declared.main_fault.Done.{Done}
use Rattle.smx_run.specs.declared.main_fault.Done.TheVariants.{Finished, Judged}

-- 1 for out-of-memory, 3 for a malformed text
abbrev pub status_of_cause : Cause → ℕ
status_of_cause Header = 3
status_of_cause Form = 3
status_of_cause Many = 3
status_of_cause Cut = 3
status_of_cause Trailing = 3
status_of_cause NoMemory = 1

-- 1 refused, 3 the text is malformed or too long, 5 input or output failed
abbrev pub status_of : MainFault → ℕ
status_of (Refused fault) = 1
status_of (Text fault) = status_of_cause fault.cause
status_of TooLong = 3
status_of ReadFailed = 5
status_of WriteFailed = 5

-- 0 for a legal history with its configuration, 4 for every other verdict
abbrev pub status_of_verdict : Verdict → ℕ
status_of_verdict Legal = 0
status_of_verdict (Illegal entry) = 4
status_of_verdict ConfigDiffers = 4

-- 0 if nothing was judged, else that of the verdict
abbrev pub status_of_done : Done → ℕ
status_of_done Finished = 0
status_of_done (Judged verdict) = status_of_verdict verdict

-- the status of what was done, or of the fault that prevented it
abbrev pub status_of_outcome : Result Done MainFault → ℕ
status_of_outcome (Ok done) = status_of_done done
status_of_outcome (Err fault) = status_of fault
