-- How a line goes on through the expected values and then a choice.
use Rattle.smx_explain.proofs.Common.{◌≡◌, ℕ, false, List, [], ◌∷◌, ◌++◌, refl, ap, ◌∙◌, inl, inr, Version, V1, V2}
use Rattle.smx_explain.proofs.Common.{CanTell, FitsNumber, decimal, IsOther, IsRow, IsValue, WordRow, later_rows}
use Rattle.smx_explain.proofs.Common.{rows, rows_in, AllByRecursion, Choice, End, Value, Number}
use Rattle.std.proofs.Common.{append-nil}
use Rattle.smx_explain.specs.Rows.{MayEnd}
use Rattle.smx_explain.proofs.CompleteLemmas.{fixed_in}
use Rattle.smx_explain.proofs.RowLemmas.{all_rows, row_of}
use Rattle.smx_explain.proofs.ShapeLemmas.{Words, each, words_of}
use Rattle.smx_explain.proofs.Spelling.{Spells, Takes}

-- each version can spell what has no hangup in it
pub tells : (version : Version) → CanTell version false
tells V1 = refl
tells V2 = tt

-- the word of a 32-bit number is a word for a number
pub number : (n : ℕ) → FitsNumber n → IsValue Number (decimal n)
number n fits = (n, fits, refl)

module _ (version : Version) where
  -- words for the expected values, and then words that complete the line from the choice, complete the line from both
  pub with_args : (values : List Value) (args : List (List ℕ)) (next : Choice) (rest : List (List ℕ))
      → Takes values args → Spells version [] next rest → Spells version values next (args ++ rest)
  with_args [] [] next rest takes more = more
  with_args [] (arg ∷ args) next rest takes more = absurd takes
  with_args (value ∷ values) [] next rest takes more = absurd takes
  with_args (value ∷ values) (arg ∷ args) next rest takes more =
      (values, next, (takes.0, refl, refl), with_args values args next rest takes.1 more)

  -- a fixed word, words for its values, and words that complete the line after them, complete the line from the
  -- choice
  pub from_row : (choice : Choice) (word : List ℕ) (values : List Value) (next : Choice) (args rest : List (List ℕ))
      → IsRow (rows choice) word values next → Takes values args → Spells version [] next rest
      → Spells version [] choice (word ∷ (args ++ rest))
  from_row choice word values next args rest is takes more =
      (values, next, inl (fixed_in version choice word values next is), with_args values args next rest takes more)

  -- words that begin with those of the values
  pub record Cut (values : List Value) (next : Choice) (words : List (List ℕ)) : Type 0 where
    pub args : List (List ℕ)
    pub rest : List (List ℕ)
    pub are : words ≡ args ++ rest
    pub takes : Takes values args
    pub more : Spells version [] next rest

  -- words that complete the line from some values begin with a word for each of the values
  pub cut : (values : List Value) (next : Choice) (words : List (List ℕ)) → Spells version values next words
      → Cut values next words
  cut [] next words h = record { args = []; rest = words; are = refl; takes = tt; more = h }
  cut (value ∷ values) next [] h = absurd h
  cut (value ∷ values) next (word ∷ words) (behind, then, (is, same, same_too), h) =
      let t = cut values next words (subst_both behind values then next words same same_too h) in
      record {
        args = word ∷ t.args;
        rest = t.rest;
        are = ap (λ (ws : List (List ℕ)). word ∷ ws) t.are;
        takes = (is, t.takes);
        more = t.more;
      } where
        subst_both : (behind values : List Value) (then next : Choice) (words : List (List ℕ)) → behind ≡ values
            → then ≡ next → Spells version behind then words → Spells version values next words
        subst_both behind values then next words same same_too h = rw (← same, ← same_too) h

  -- if the line ends here, there is no further word
  pub no_more : (words : List (List ℕ)) → Spells version [] End words → words ≡ []
  no_more [] h = refl
  no_more (word ∷ words) (values, next, inl is, h) = absurd (none version is) where
    none : (v : Version) → IsRow (rows_in v End) word values next → ⊥
    none V1 is = is
    none V2 is = is
  no_more (word ∷ words) (values, next, inr is, h) = absurd is

  -- if the line ends after some values, its words are those of the values
  pub ended : (values : List Value) (words : List (List ℕ)) → Spells version values End words → Takes values words
  ended values words h =
      let t = cut values End words h in
      let whole : words ≡ t.args = t.are ∙ ap (λ (rest : List (List ℕ)). t.args ++ rest) (no_more t.rest t.more)
      ∙ append-nil t.args in
      rw whole t.takes

-- ---- what words lead to

infixr 5 ◌▹◌
-- a proof for the first row of a table, and proofs for the others
abbrev pub ◌▹◌ : {A B : Type 0} → A → B → A × B
a ▹ b = (a, b)

-- words that complete the line from these values and this choice have a property; if the line ends after the values,
-- it is enough that a word for each value has it
abbrev pub Lead : Version → List Value → Choice → (List (List ℕ) → Type 0) → Type 0
Lead version values End P = (ws : Words values) → P (words_of values ws)
Lead version values next P = (words : List (List ℕ)) → Spells version values next words → P words

-- a row's word, and words that complete the line after it, have a property
abbrev pub RowLeads : (Version → List (List ℕ) → Type 0) → Version → WordRow → Type 0
RowLeads P version row = Lead version row.1 row.2 (λ words. P version (row.0 ∷ words))

-- words that complete the line have the property
led : (version : Version) (P : List (List ℕ) → Type 0) (values : List Value) (next : Choice) → Lead version values next P
    → (words : List (List ℕ)) → Spells version values next words → P words
led version P values End leads words h =
    let (ws, are) = each values words (ended version values words h) in rw are (leads ws)
led version P values next leads words h = leads words h

-- words that complete the line from a choice have a property, if the rows of its tables lead to it, and each word of
-- another kind, and the end of the line, if it may end there
pub of_choice : (choice : Choice) (P : Version → List (List ℕ) → Type 0)
    → ((v : Version) → AllByRecursion (RowLeads P v) (rows choice)) → AllByRecursion (RowLeads P V2) (later_rows choice)
    → (version : Version) → (MayEnd choice → P version [])
    → ((word : List ℕ) (values : List Value) (next : Choice) → IsOther version choice word values next
    → (words : List (List ℕ)) → Spells version values next words → P version (word ∷ words))
    → (words : List (List ℕ)) → Spells version [] choice words → P version words
of_choice choice P all later version ends other [] h = ends h
of_choice choice P all later version ends other (word ∷ words) (values, next, inl is, h) =
    led version (λ ws. P version (word ∷ ws)) values next (row_of (RowLeads P version) (rows_in version choice)
    (all_rows (RowLeads P) choice all later version) word values next is) words h
of_choice choice P all later version ends other (word ∷ words) (values, next, inr is, h) =
    other word values next is words h
