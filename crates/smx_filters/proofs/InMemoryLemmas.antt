-- The results of a filter for an input in memory.
use Rattle.smx_filters.proofs.Common.{◌≡◌, ◌≢◌, ℕ, ◌+◌, ◌≤◌, Bool, List, length, Some, Result, Ok, Err, sym, ap, ◌∙◌}
use Rattle.smx_filters.proofs.Common.{arith, inl, inr, refl, true, Filter, FiltersText, MainFault, Refused, Text}
use Rattle.smx_filters.proofs.Common.{TooLong, ReadFailed, WriteFailed, MAX_INPUT}
use Rattle.std.proofs.Common.{ltb, [], ◌++◌, drop, length-append}
use Rattle.std.proofs.lemmas.Bool.{cases_Bool}
use Rattle.std.proofs.lemmas.Bool.Decides.{nat_tests}
use Rattle.std.proofs.lemmas.List.{drop_at, nil_from_length}
use Rattle.smx_filters.specs.InMemory.{EndsInMemory, IsCutShort, FiltersInMemory}

-- nothing is left of a whole input
none_left : (input read left : List ℕ) → input ≡ read ++ left → input ≡ read → left ≡ []
none_left input read left had whole =
    nil_from_length left (omega (arith, length-append read left, ap (length {A = ℕ}) (sym had ∙ whole)))

module _ {V K T : Type 0} (f : Filter V K T) (input left output : List ℕ) (ended flushed : Bool) where
  -- neither the reader nor the writer fails
  abbrev Filtered : Result T MainFault → Type 0
  Filtered answer = FiltersText f (Some input) (Some left) ended 0 (Some []) (Some output) flushed 0 answer

  -- unless the answer is `TooLong`, the input is short enough
  short : (answer : Result T MainFault) → (h : Filtered answer) → answer ≢ Err TooLong → input ≡ h.read
      → length input ≤ MAX_INPUT
  short answer h other whole = elim (cases_Bool (ltb MAX_INPUT (length h.read))) [
    | inl t ↦ absurd (other (h.too_long.1 (grind (arith, nat_tests))))
    | inr f ↦ let few : length h.read ≤ MAX_INPUT = grind (arith, nat_tests) in rw whole few
  ]

  -- the results
  pub ends : (answer : Result T MainFault) → Filtered answer → EndsInMemory f input left ended output flushed answer
  ends (Ok a) h =
      let (whole, is_flushed, bytes, gives, out) = h.done in (
        short (Ok a) h (λ e. cc) whole.1,
        none_left input h.read left h.consumed whole.1,
        whole.0,
        is_flushed,
        rw (whole.1, out) gives,
      )
  ends (Err (Text fault)) h =
      let told = h.text fault refl in (
        short _ h (λ e. cc) told.0.1,
        none_left input h.read left h.consumed told.0.1,
        told.0.0,
        h.unwritten (λ e. cc),
        rw told.0.1 told.1,
      )
  ends (Err (Refused fault)) h = (
    elim (h.refused fault refl) [
      | inl told ↦ inl (short _ h (λ e. cc) told.0.1, told.0.0, rw told.0.1 told.1)
      | inr none ↦ inr none
    ],
    h.unwritten (λ e. cc),
  )
  ends (Err TooLong) h =
      let long = h.too_long.0 refl in
      let count : length h.read ≡ MAX_INPUT + 1 = omega (arith, long, h.few) in (
        omega (arith, long, ap (length {A = ℕ}) h.consumed, length-append h.read left),
        sym (ap (drop (MAX_INPUT + 1)) h.consumed ∙ drop_at h.read left (MAX_INPUT + 1) count),
        h.unwritten (λ e. cc),
      )
  ends (Err ReadFailed) h = absurd (omega (arith, h.read_failed.0 refl))
  ends (Err WriteFailed) h = absurd (omega (arith, h.write_failed.0 refl))

  -- the reader fails
  unread : (answer : Result T MainFault)
      → FiltersText f (Some input) (Some left) ended 1 (Some []) (Some output) flushed 0 answer
      → (answer ≡ Err ReadFailed) × (output ≡ [])
  unread (Ok a) h = let told : Ok a ≡ Err ReadFailed = h.read_failed.1 refl in absurd cc
  unread (Err e) h =
      let told : Err e ≡ Err ReadFailed = h.read_failed.1 refl in
      (told, h.unwritten (λ is. cc))

  -- the writer fails
  cut_short : (answer : Result T MainFault)
      → FiltersText f (Some input) (Some left) ended 0 (Some []) (Some output) flushed 1 answer
      → (ended ≡ true) × IsCutShort f input output answer
  cut_short (Ok a) h = let told : Ok a ≡ Err WriteFailed = h.write_failed.1 refl in absurd cc
  cut_short (Err e) h =
      let told : Err e ≡ Err WriteFailed = h.write_failed.1 refl in
      let is : e ≡ WriteFailed = cc in
      let (whole, given, bytes, gives, beginning) = h.cut_short is in (
        whole.0,
        record {
          failed = told;
          given = given;
          whole = bytes;
          gives = rw whole.1 gives;
          count = beginning.0;
          beginning = beginning.1;
        },
      )

-- what `FiltersText` means for an input in memory
pub in_memory : {V K T : Type 0} (f : Filter V K T) → FiltersInMemory f
in_memory f = record {
  ends = λ input left output. ends f input left output;
  unread = λ input left output. unread f input left output;
  cut_short = λ input left output. cut_short f input left output;
}
