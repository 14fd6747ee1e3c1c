-- A word determines how a line goes on after it.
use Rattle.smx_explain.proofs.Common.{◌≡◌, ℕ, ◌<◌, Bool, true, false, List, [], ◌∷◌, ◌++◌, refl, sym, subst, ◌∙◌, inl}
use Rattle.smx_explain.proofs.Common.{inr, arith, decimal, Version, V1, V2, LeadTo, GoesOn, IsFixed, IsOther, IsRow}
use Rattle.smx_explain.proofs.Common.{WordRow, rows_in, Choice, ProgramsLine, SessionLine, SessionCommand, Equals}
use Rattle.smx_explain.proofs.Common.{Serials, Value, Wanted}
use Rattle.std.proofs.Common.{◌^◌, ◌&&◌, not}
use Rattle.std.specs.Prelude.{bytes_eq}
use Rattle.std.specs.Str.{all_ascii_digits}
use Rattle.std.proofs.lemmas.Fmt.{digits_decimal}
use Rattle.std.proofs.lemmas.Slice.Eq.{bytes_eq-Decides}
use Rattle.smx_words.proofs.NumberLemmas.{own}
use Rattle.smx_explain.specs.Rows.{IsChosen, IsLoneCommand}
use Rattle.smx_explain.specs.declared.kinds.Choice.TheVariants.{TranscriptLine, Command}
use Rattle.smx_explain.proofs.RowLemmas.{in_second}

-- ---- tables whose words differ

-- no row has the word
abbrev pub is_new : List ℕ → List WordRow → Bool
is_new word [] = true
is_new word (row ∷ rows) = not (bytes_eq word row.0) && is_new word rows

-- no two rows have the same word
abbrev differ : List WordRow → Bool
differ [] = true
differ (row ∷ rows) = is_new row.0 rows && differ rows

-- if two tests hold together, each of them does
both : (a b : Bool) → a && b ≡ true → (a ≡ true) × (b ≡ true)
both true b h = (refl, h)
both false b h = absurd (cc h)

-- a test that fails doesn't hold
not_true : (a : Bool) → not a ≡ true → a ≡ true → ⊥
not_true true h k = absurd (cc h)
not_true false h k = absurd (cc k)

-- a word of some row is not new
pub not_new : (ks : List WordRow) (word : List ℕ) (values : List Value) (next : Choice) → is_new word ks ≡ true
    → IsRow ks word values next → ⊥
not_new [] word values next h is = is
not_new (k ∷ ks) word values next h (inl is) =
    not_true (bytes_eq word k.0) (both (not (bytes_eq word k.0)) (is_new word ks) h).0
    ((bytes_eq-Decides word k.0).1 is.0)
not_new (k ∷ ks) word values next h (inr more) =
    not_new ks word values next (both (not (bytes_eq word k.0)) (is_new word ks) h).1 more

-- two ways to go on have the same values and the same choice after them
abbrev pub Same : List Value → Choice → List Value → Choice → Type 0
Same values next others then = (values ≡ others) × (next ≡ then)

-- at most one row has a given word
one_row : (ks : List WordRow) → differ ks ≡ true → (word : List ℕ) (values : List Value) (next : Choice)
    (others : List Value) (then : Choice) → IsRow ks word values next → IsRow ks word others then
    → Same values next others then
one_row [] h word values next others then is is_too = absurd is
one_row (k ∷ ks) h word values next others then (inl is) (inl is_too) = (is.1 ∙ sym is_too.1, is.2 ∙ sym is_too.2)
one_row (k ∷ ks) h word values next others then (inl is) (inr more) =
    absurd (not_new ks k.0 others then (both (is_new k.0 ks) (differ ks) h).0
    (subst (λ (w : List ℕ). IsRow ks w others then) is.0 more))
one_row (k ∷ ks) h word values next others then (inr more) (inl is_too) =
    absurd (not_new ks k.0 values next (both (is_new k.0 ks) (differ ks) h).0
    (subst (λ (w : List ℕ). IsRow ks w values next) is_too.0 more))
one_row (k ∷ ks) h word values next others then (inr more) (inr more_too) =
    one_row ks (both (is_new k.0 ks) (differ ks) h).1 word values next others then more more_too

-- if the words of two tables differ, a word is in only one of them
in_one : (ks ls : List WordRow) → differ (ks ++ ls) ≡ true → (word : List ℕ) (values : List Value) (next : Choice)
    (others : List Value) (then : Choice) → IsRow ks word values next → IsRow ls word others then → ⊥
in_one [] ls h word values next others then is is_too = is
in_one (k ∷ ks) ls h word values next others then (inl is) is_too =
    not_new (ks ++ ls) k.0 others then (both (is_new k.0 (ks ++ ls)) (differ (ks ++ ls)) h).0
    (in_second ks ls k.0 others then (subst (λ (w : List ℕ). IsRow ls w others then) is.0 is_too))
in_one (k ∷ ks) ls h word values next others then (inr more) is_too =
    in_one ks ls (both (is_new k.0 (ks ++ ls)) (differ (ks ++ ls)) h).1 word values next others then more is_too

-- the words of each table differ
all_differ : (version : Version) (choice : Choice) → differ (rows_in version choice) ≡ true
all_differ V1 ProgramsLine = refl
all_differ V2 ProgramsLine = refl
all_differ version choice = refl

-- the words of the lines of programs and those of the commands differ from one another
lines_differ : (version : Version) → differ (rows_in version ProgramsLine ++ rows_in version Command) ≡ true
lines_differ V1 = refl
lines_differ V2 = refl

-- ---- words that are not numbers

-- no word of these rows consists of digits
abbrev no_digits : List WordRow → Bool
no_digits [] = true
no_digits (row ∷ rows) = not (all_ascii_digits row.0) && no_digits rows

-- if no word of some rows consists of digits, no row has the word of a number
no_number : (ks : List WordRow) → no_digits ks ≡ true → (n : ℕ) → n < 2 ^ 32 → (word : List ℕ) (values : List Value)
    (next : Choice) → word ≡ decimal n → IsRow ks word values next → ⊥
no_number [] h n small word values next number is = is
no_number (k ∷ ks) h n small word values next number (inl is) =
    not_true (all_ascii_digits k.0) (both (not (all_ascii_digits k.0)) (no_digits ks) h).0
    (subst (λ (w : List ℕ). all_ascii_digits w ≡ true) (sym number ∙ is.0)
    (digits_decimal own n (omega (arith, small))))
no_number (k ∷ ks) h n small word values next number (inr more) =
    no_number ks (both (not (all_ascii_digits k.0)) (no_digits ks) h).1 n small word values next number more

-- no fixed word at the start of a transcript's line consists of digits
no_line_digits : (version : Version) → no_digits (rows_in version TranscriptLine) ≡ true
no_line_digits V1 = refl
no_line_digits V2 = refl

-- no fixed word at the start of a session's line does
no_request_digits : (version : Version) → no_digits (rows_in version SessionLine) ≡ true
no_request_digits V1 = refl
no_request_digits V2 = refl

-- ---- one way

module _ (version : Version) (word : List ℕ) where
  -- a fixed word is not of another kind
  fixed_alone : (choice : Choice) (values : List Value) (next : Choice) (others : List Value) (then : Choice)
      → IsFixed version choice word values next → IsOther version choice word others then → ⊥
  fixed_alone ProgramsLine values next others then is other =
      in_one (rows_in version ProgramsLine) (rows_in version Command) (lines_differ version) word values next others
      Equals is other.0
  fixed_alone TranscriptLine values next others then is ((process, small, number), none, chosen) =
      no_number (rows_in version TranscriptLine) (no_line_digits version) process (omega (arith, small)) word values
      next number is
  fixed_alone SessionLine values next others then is ((process, small, number), none, chosen) =
      no_number (rows_in version SessionLine) (no_request_digits version) process (omega (arith, small)) word values
      next number is
  fixed_alone SessionCommand values next others then is other = no_command version is where
    no_command : (v : Version) → IsFixed v SessionCommand word values next → ⊥
    no_command V1 h = h
    no_command V2 h = h
  fixed_alone Serials values next others then is other = no_serials version is where
    no_serials : (v : Version) → IsFixed v Serials word values next → ⊥
    no_serials V1 h = h
    no_serials V2 h = h
  fixed_alone choice values next others then is other = other

  -- a command without a reply goes on in only one way
  one_lone : (values : List Value) (next : Choice) (others : List Value) (then : Choice)
      → IsLoneCommand version word values next → IsLoneCommand version word others then → Same values next others then
  one_lone values next others then is is_too = (
    (one_row (rows_in version Command) (all_differ version Command) word values Equals others Equals is.0 is_too.0).0,
    is.1 ∙ sym is_too.1,
  )

  -- a word of another kind goes on in only one way
  one_other : (choice : Choice) (values : List Value) (next : Choice) (others : List Value) (then : Choice)
      → IsOther version choice word values next → IsOther version choice word others then
      → Same values next others then
  one_other ProgramsLine values next others then is is_too = one_lone values next others then is is_too
  one_other SessionCommand values next others then is is_too = one_lone values next others then is is_too
  one_other SessionLine values next others then is is_too = (is.1 ∙ sym is_too.1, is.2 ∙ sym is_too.2)
  one_other TranscriptLine values next others then is is_too = (is.1 ∙ sym is_too.1, is.2 ∙ sym is_too.2)
  one_other Serials values next others then is is_too = (is.1 ∙ sym is_too.1, is.2 ∙ sym is_too.2)
  one_other choice values next others then is is_too = absurd is

  -- a word goes on from a choice in only one way
  one_choice : (choice : Choice) (values : List Value) (next : Choice) (others : List Value) (then : Choice)
      → IsChosen version choice word values next → IsChosen version choice word others then
      → Same values next others then
  one_choice choice values next others then (inl is) (inl is_too) =
      one_row (rows_in version choice) (all_differ version choice) word values next others then is is_too
  one_choice choice values next others then (inl is) (inr is_too) =
      absurd (fixed_alone choice values next others then is is_too)
  one_choice choice values next others then (inr is) (inl is_too) =
      absurd (fixed_alone choice others then values next is_too is)
  one_choice choice values next others then (inr is) (inr is_too) = one_other choice values next others then is is_too

  -- a line goes on after a word in only one way
  pub one_way : (wanted : List Value) (choice : Choice) (values : List Value) (next : Choice) (others : List Value)
      (then : Choice) → GoesOn version wanted choice word values next → GoesOn version wanted choice word others then
      → Same values next others then
  one_way [] choice values next others then is is_too = one_choice choice values next others then is is_too
  one_way (value ∷ wanted) choice values next others then is is_too = (is.1 ∙ sym is_too.1, is.2 ∙ sym is_too.2)

-- by the tables, words lead to only one kind of word
pub one_lead : (version : Version) (values : List Value) (choice : Choice) (words : List (List ℕ)) (one other : Wanted)
    → LeadTo version values choice words one → LeadTo version values choice words other → one ≡ other
one_lead version values choice [] one other is is_too = is ∙ sym is_too
one_lead version values choice (word ∷ words) one other (more, next, goes, led) (others, then, goes_too, led_too) =
    let same = one_way version word values choice more next others then goes goes_too in
    one_lead version more next words one other led (rw (same.0, same.1) led_too)
