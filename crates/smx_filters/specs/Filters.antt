-- A filter reads the whole input, and then writes the output for it.
use Rattle.std.specs.Prelude.{◌≡◌, ◌≢◌, ℕ, ◌+◌, ◌<◌, ◌≤◌, ◌↔◌, ◌⊎◌, Bool, true, false, List, length, Option, Result, Ok}
use Rattle.std.specs.Prelude.{Err, IfOk, IfErr, IsErrOf, take}
use Rattle.std.specs.Io.KnownBytes.{Consumes, Appends, Keeps}
use Rattle.smx_types.specs.declared.version.Version.{Version}
use Rattle.smx_text.specs.Grammar.{Grammar, IsFault, Spells}
use Rattle.smx_text.specs.declared.text_fault.Cause.TheVariants as cause
use Rattle.smx_text.specs.declared.text_fault.TextFault.{TextFault}
use Rattle.smx_run.specs.declared.run_fault.RunFault.{RunFault}
use Rattle.smx_run.specs.declared.run_fault.RunFault.TheVariants as run
use Rattle.smx_run.specs.Input.{IsWhole}
use Rattle.smx_run.specs.declared.main_fault.MainFault.{MainFault}
use Rattle.smx_run.specs.declared.main_fault.MainFault.TheVariants.{Refused, Text, TooLong, ReadFailed, WriteFailed}
use Rattle.smx_run.specs.declared.input.TheConstants.{MAX_INPUT}

-- memory ran out, while the text was read or later
abbrev pub IsOutOfMemory : MainFault → Type 0
IsOutOfMemory (Refused fault) = fault ≡ run.NoMemory
IsOutOfMemory (Text fault) = fault.cause ≡ cause.NoMemory
IsOutOfMemory TooLong = ⊥
IsOutOfMemory ReadFailed = ⊥
IsOutOfMemory WriteFailed = ⊥

-- memory did not run out
abbrev pub HasEnoughMemory : {T : Type 0} → Result T MainFault → Type 0
HasEnoughMemory answer = IfErr answer (λ fault. IsOutOfMemory fault → ⊥)

-- One kind of filter. Its inputs spell values of `V` in lines of `K`, and its answers are in `T`.
pub record Filter (V K T : Type 0) : Type 1 where
  -- how an input of each version spells its value
  pub grammar : Version → Grammar V K
  -- for this value, this answer and this output are allowed
  pub Gives : V → T → List ℕ → Type 0
  -- for this value, this refusal is allowed
  pub Refuses : V → RunFault → Type 0

module _ {V K T : Type 0} (f : Filter V K T) where
  -- the input spells a value in some version, for which this answer and this output are allowed
  abbrev pub GivesFor : List ℕ → T → List ℕ → Type 0
  GivesFor input answer output =
      (version : Version) × (v : V) × Spells (f.grammar version) input v × f.Gives v answer output

  -- the input spells a value in some version, for which this refusal is allowed
  abbrev pub RefusesFor : List ℕ → RunFault → Type 0
  RefusesFor input fault = (version : Version) × (v : V) × Spells (f.grammar version) input v × f.Refuses v fault

  -- the text goes wrong at this line for this cause in some version; if the fault is in its header, in every version
  abbrev pub IsFaultOf : List ℕ → TextFault → Type 0
  IsFaultOf input fault = (version : Version) × IsFault (f.grammar version) input fault.line fault.cause
      × (fault.cause ≡ cause.Header → (other : Version) → IsFault (f.grammar other) input fault.line cause.Header)

  -- the allowed results for an input that was read completely
  abbrev pub Answers : List ℕ → Result (T × List ℕ) MainFault → Type 0
  Answers input (Ok given) = GivesFor input given.0 given.1
  Answers input (Err (Text fault)) = IsFaultOf input fault
  Answers input (Err (Refused fault)) = RefusesFor input fault
  Answers input (Err TooLong) = ⊥
  Answers input (Err ReadFailed) = ⊥
  Answers input (Err WriteFailed) = ⊥

  -- The reader had `had` and has `left`, and has ended or not. The writer held `before` and holds `after`, flushed or
  -- not. In this call each has failed this number of times.
  pub record FiltersText (had left : Option (List ℕ)) (ended : Bool) (read_failures : ℕ)
      (before after : Option (List ℕ)) (flushed : Bool) (write_failures : ℕ)
      (answer : Result T MainFault) : Type 0 where
    -- Exactly these bytes were read, at most 16,777,217.
    pub read : List ℕ
    pub consumed : Consumes had left read
    pub few : length read ≤ MAX_INPUT + 1
    -- On success they are the whole input, and exactly what the filter gives for it with this answer was written. All
    -- of it is flushed.
    pub done : IfOk answer (λ a. IsWhole had ended read × (flushed ≡ true)
        × (output : List ℕ) × GivesFor read a output × Appends before after output)
    -- If the text is malformed, they are the whole input, and the fault is the first one, with its line and cause.
    pub text : IfErr answer (λ e. (fault : TextFault) → e ≡ Text fault
        → IsWhole had ended read × IsFaultOf read fault)
    -- If the filter refuses, they are the whole input, and the filter may refuse its value in this way; or memory ran
    -- out before the end was seen.
    pub refused : IfErr answer (λ e. (fault : RunFault) → e ≡ Refused fault
        → (IsWhole had ended read × RefusesFor read fault) ⊎ ((fault ≡ run.NoMemory) × (ended ≡ false)))
    -- `TooLong` is returned exactly if more than 16,777,216 bytes were read.
    pub too_long : IsErrOf answer TooLong ↔ (MAX_INPUT < length read)
    -- `ReadFailed` is returned exactly if the reader failed.
    pub read_failed : IsErrOf answer ReadFailed ↔ (read_failures ≡ 1)
    -- `WriteFailed` is returned exactly if the writer failed. A beginning of what the filter gives for the whole
    -- input was then written.
    pub write_failed : IsErrOf answer WriteFailed ↔ (write_failures ≡ 1)
    pub cut_short : IfErr answer (λ e. e ≡ WriteFailed → IsWhole had ended read
        × (a : T) × (output : List ℕ) × GivesFor read a output × ((n : ℕ) × Appends before after (take n output)))
    -- On every other fault nothing was written.
    pub unwritten : IfErr answer (λ e. e ≢ WriteFailed → Keeps before after)
