-- The results of a filter for an input in memory, and if the reader or the writer fails.
use Rattle.std.specs.Prelude.{◌≡◌, ℕ, ◌+◌, ◌<◌, ◌≤◌, ◌⊎◌, Bool, true, false, List, [], length, take, drop, Some, Result}
use Rattle.std.specs.Prelude.{Ok, Err}
use Rattle.smx_run.specs.declared.run_fault.RunFault.TheVariants as run
use Rattle.smx_filters.specs.Filters.{Filter, FiltersText, GivesFor, RefusesFor, IsFaultOf}
use Rattle.smx_run.specs.declared.main_fault.MainFault.{MainFault}
use Rattle.smx_run.specs.declared.main_fault.MainFault.TheVariants.{Refused, Text, TooLong, ReadFailed, WriteFailed}
use Rattle.smx_run.specs.declared.input.TheConstants.{MAX_INPUT}

module _ {V K T : Type 0} (f : Filter V K T) where
  -- If neither the reader nor the writer fails. The arguments are the input, the bytes of it that are left, whether
  -- its end was seen, the bytes that were written, and whether they are flushed.
  abbrev pub EndsInMemory : List ℕ → List ℕ → Bool → List ℕ → Bool → Result T MainFault → Type 0
  EndsInMemory input left ended output flushed (Ok answer) =
      (length input ≤ MAX_INPUT) × (left ≡ []) × (ended ≡ true) × (flushed ≡ true) × GivesFor f input answer output
  EndsInMemory input left ended output flushed (Err (Text fault)) =
      (length input ≤ MAX_INPUT) × (left ≡ []) × (ended ≡ true) × (output ≡ []) × IsFaultOf f input fault
  EndsInMemory input left ended output flushed (Err (Refused fault)) =
      (((length input ≤ MAX_INPUT) × (ended ≡ true) × RefusesFor f input fault)
      ⊎ ((fault ≡ run.NoMemory) × (ended ≡ false))) × (output ≡ [])
  EndsInMemory input left ended output flushed (Err TooLong) =
      (MAX_INPUT < length input) × (left ≡ drop (MAX_INPUT + 1) input) × (output ≡ [])
  EndsInMemory input left ended output flushed (Err ReadFailed) = ⊥
  EndsInMemory input left ended output flushed (Err WriteFailed) = ⊥

  -- if the writer fails: the input, and what was written, which is a beginning of what the filter gives for it
  pub record IsCutShort (input output : List ℕ) (answer : Result T MainFault) : Type 0 where
    pub failed : answer ≡ Err WriteFailed
    pub given : T
    pub whole : List ℕ
    pub gives : GivesFor f input given whole
    pub count : ℕ
    pub beginning : output ≡ take count whole

  -- what `FiltersText` means for an input in memory
  pub record FiltersInMemory : Type 0 where
    -- if neither the reader nor the writer fails
    pub ends : (input left output : List ℕ) (ended flushed : Bool) (answer : Result T MainFault)
        → FiltersText f (Some input) (Some left) ended 0 (Some []) (Some output) flushed 0 answer
        → EndsInMemory input left ended output flushed answer
    -- if the reader fails
    pub unread : (input left output : List ℕ) (ended flushed : Bool) (answer : Result T MainFault)
        → FiltersText f (Some input) (Some left) ended 1 (Some []) (Some output) flushed 0 answer
        → (answer ≡ Err ReadFailed) × (output ≡ [])
    -- if the writer fails: the end of the input was seen
    pub cut_short : (input left output : List ℕ) (ended flushed : Bool) (answer : Result T MainFault)
        → FiltersText f (Some input) (Some left) ended 0 (Some []) (Some output) flushed 1 answer
        → (ended ≡ true) × IsCutShort input output answer
