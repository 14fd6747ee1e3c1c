-- Exit statuses, typed in by hand.
use Rattle.std.specs.Prelude.{◌≡◌, refl}
use Rattle.smx_config.specs.declared.verdict.Verdict.TheVariants.{Legal, Illegal, ConfigDiffers}
use Rattle.smx_run.specs.declared.run_fault.RunFault.TheVariants as run
use Rattle.smx_text.specs.declared.text_fault.Cause.TheVariants as cause
use Rattle.smx_run.specs.Statuses.{status_of, status_of_cause, status_of_verdict}
use Rattle.smx_run.specs.declared.main_fault.MainFault.TheVariants.{Refused, TooLong, ReadFailed, WriteFailed}

-- the work is refused
pub refused : status_of (Refused run.NoMemory) ≡ 1
refused = refl

-- the text is refused
pub malformed : status_of_cause cause.Form ≡ 3
malformed = refl

-- memory ran out while the text was read
pub no_memory : status_of_cause cause.NoMemory ≡ 1
no_memory = refl

-- the input is too long
pub too_long : status_of TooLong ≡ 3
too_long = refl

-- the input failed
pub unread : status_of ReadFailed ≡ 5
unread = refl

-- the output failed
pub unwritten : status_of WriteFailed ≡ 5
unwritten = refl

-- a legal transcript
pub legal : status_of_verdict Legal ≡ 0
legal = refl

-- a reply is wrong
pub illegal : status_of_verdict (Illegal 1) ≡ 4
illegal = refl

-- the configuration is wrong
pub differing : status_of_verdict ConfigDiffers ≡ 4
differing = refl
