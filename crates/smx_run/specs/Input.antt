-- The result of reading to the end, by the bytes that were read.
use Rattle.std.specs.Prelude.{◌≡◌, ℕ, ◌+◌, ◌<◌, ◌≤◌, ◌↔◌, ◌⊎◌, Bool, true, false, List, length, Option, Result, Vec}
use Rattle.std.specs.Prelude.{IfOk, IfErr, IfSome, OnOk, IsErrOf}
use Rattle.std.specs.Global.{Global}
use Rattle.std.specs.Io.KnownBytes.{Consumes}
use Rattle.smx_run.specs.declared.run_fault.RunFault.TheVariants.{NoMemory}
use Rattle.smx_run.specs.declared.main_fault.MainFault.{MainFault}
use Rattle.smx_run.specs.declared.main_fault.MainFault.TheVariants.{Refused, TooLong, ReadFailed}
use Rattle.smx_run.specs.declared.input.TheConstants.{MAX_INPUT}

-- the end was seen, and these bytes are all that the reader had, if that is known
abbrev pub IsWhole : Option (List ℕ) → Bool → List ℕ → Type 0
IsWhole had ended read = (ended ≡ true) × IfSome had (λ all. all ≡ read)

-- The result for these bytes. They were read from a reader that had `old` and has `new` left, has ended or not, and
-- has failed this number of times.
pub record IsInput (old new : Option (List ℕ)) (ended : Bool) (failures : ℕ) (answer : Result (Vec ℕ Global) MainFault)
    (read : List ℕ) : Type 0 where
  -- exactly these bytes were read
  pub consumed : Consumes old new read
  -- at most one byte more than the limit
  pub few : length read ≤ MAX_INPUT + 1
  -- on success they are returned
  pub answered : IfOk answer (λ v. v.items ≡ read)
  -- they are then the whole input
  pub whole : OnOk answer (IsWhole old ended read)
  -- `TooLong` exactly if there are more bytes than the limit
  pub too_long : IsErrOf answer TooLong ↔ (MAX_INPUT < length read)
  -- `ReadFailed` exactly if the reader failed
  pub read_failed : IsErrOf answer ReadFailed ↔ (failures ≡ 1)
  -- else out-of-memory, before the end was seen
  pub refused : IfErr answer (λ fault. (fault ≡ TooLong) ⊎ (fault ≡ ReadFailed)
      ⊎ ((fault ≡ Refused NoMemory) × (ended ≡ false)))
