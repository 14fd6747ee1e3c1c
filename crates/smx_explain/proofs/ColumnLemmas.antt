-- Reading a line word by word, as long as some line of its kind goes on in the same way.
use Rattle.smx_explain.proofs.Common.{◌≡◌, ℕ, ◌+◌, List, [], ◌∷◌, ◌++◌, length, Option, Some, None, refl, sym, ap}
use Rattle.smx_explain.proofs.Common.{subst, ◌∙◌, append_assoc, arith, inl, inr, Bor, AllByRecursion, Version, IsFree}
use Rattle.smx_explain.proofs.Common.{SPACE, IsLine, IsColumn, IsWhole, LeadTo, first_choice, spaced, GoesOn, Choice}
use Rattle.smx_explain.proofs.Common.{LineKind, Value, Wanted}
use Rattle.std.proofs.Common.{append-nil}
use Rattle.std.specs.Prelude.{◌↔◌}
use Rattle.std.proofs.lemmas.Bool.{cases_eq}
use Rattle.std.proofs.lemmas.List.{length-append}
use Rattle.smx_explain.specs.Columns.{Begins, EndsThere, IsWanted, Stops, left_of, wanted_of}
use Rattle.smx_explain.proofs.CompleteLemmas.{can_end}
use Rattle.smx_explain.proofs.DeterminedLemmas.{one_way}
use Rattle.smx_explain.proofs.LineFormLemmas.{line_is}
use Rattle.smx_explain.proofs.Spelling.{Spells}

-- ---- parts

-- with one more part, each followed by a space, the bytes are the earlier ones, then that part with its space
spaced_more : (front : List (List ℕ)) (word : List ℕ)
    → spaced (front ++ word ∷ []) ≡ spaced front ++ (word ++ SPACE ∷ [])
spaced_more [] word = append-nil (word ++ SPACE ∷ [])
spaced_more (w ∷ front) word = ap (λ (xs : List ℕ). (w ++ SPACE ∷ []) ++ xs) (spaced_more front word)
    ∙ sym (append_assoc (w ++ SPACE ∷ []) (spaced front) (word ++ SPACE ∷ []))

-- if no part of two lists has a space in it, no part of the joined list has
all_more : (front : List (List ℕ)) (behind : List (List ℕ)) → AllByRecursion (IsFree SPACE) front
    → AllByRecursion (IsFree SPACE) behind → AllByRecursion (IsFree SPACE) (front ++ behind)
all_more [] behind all more = more
all_more (w ∷ front) behind all more = (all.0, all_more front behind all.1 more)

-- joined parts, each followed by a space, are the first ones with theirs, then the later ones with theirs
pub spaced_both : (front behind : List (List ℕ)) → spaced (front ++ behind) ≡ spaced front ++ spaced behind
spaced_both [] behind = refl
spaced_both (w ∷ front) behind = ap (λ (xs : List ℕ). (w ++ SPACE ∷ []) ++ xs) (spaced_both front behind)
    ∙ sym (append_assoc (w ++ SPACE ∷ []) (spaced front) (spaced behind))

-- these bytes consist of one or more parts
record HasParts (bytes : List ℕ) : Type 0 where
  first : List ℕ
  others : List (List ℕ)
  free : IsFree SPACE first
  all_free : AllByRecursion (IsFree SPACE) others
  are : bytes ++ SPACE ∷ [] ≡ first ++ SPACE ∷ spaced others

-- any bytes consist of one or more parts
parts_of : (bytes : List ℕ) → HasParts bytes
parts_of [] = record { first = []; others = []; free = tt; all_free = tt; are = refl }
parts_of (b ∷ bytes) =
    let t = parts_of bytes in
    elim (cases_eq b SPACE) [
      | inl same ↦ record {
        first = [];
        others = t.first ∷ t.others;
        free = tt;
        all_free = (t.free, t.all_free);
        are = cc (same, t.are, append_assoc t.first (SPACE ∷ []) (spaced t.others));
      }
      | inr other ↦ record {
        first = b ∷ t.first;
        others = t.others;
        free = (other, t.free);
        all_free = t.all_free;
        are = ap (λ (xs : List ℕ). b ∷ xs) t.are;
      }
    ]

-- the rest of a line consists of parts, at least one if there is a rest
left_parts : (rest : Option (Bor (List ℕ))) → (behind : List (List ℕ)) × AllByRecursion (IsFree SPACE) behind
    × (left_of rest ≡ spaced behind)
left_parts None = ([], tt, refl)
left_parts (Some text) =
    let t = parts_of text.now in
    (t.first ∷ t.others, (t.free, t.all_free), t.are ∙ sym (append_assoc t.first (SPACE ∷ []) (spaced t.others)))

-- ---- reading

-- up to this column, the line goes on as some line of its kind
pub record HasCome (kind : LineKind) (version : Version) (line : List ℕ) (at : ℕ)
    (rest : Option (Bor (List ℕ))) (values : List Value) (next : Choice) : Type 0 where
  pub front : List (List ℕ)
  pub free : AllByRecursion (IsFree SPACE) front
  pub left : line ++ SPACE ∷ [] ≡ spaced front ++ left_of rest
  pub column : at ≡ length (spaced front) + 1
  pub goes_on : (more : List (List ℕ)) → IsLine kind version (front ++ more) ↔ Spells version values next more
  pub leads : (more : List (List ℕ)) (expected : Wanted) → LeadTo version values next more expected
      → LeadTo version [] (first_choice kind) (front ++ more) expected

-- before its first part, a line goes on as some line of its kind
pub at_begin : (kind : LineKind) (version : Version) (line : Bor (List ℕ))
    → HasCome kind version line.now 1 (Some line) [] (first_choice kind)
at_begin kind version line = record {
  front = [];
  free = tt;
  left = refl;
  column = refl;
  goes_on = line_is kind version;
  leads = λ more expected led. led;
}

-- a word of the expected kind is the next word of a way to go on
wanted_word : (version : Version) (values : List Value) (next : Choice) (word : List ℕ)
    → IsWanted version (wanted_of values next) word
    → (behind : List Value) × (then : Choice) × GoesOn version values next word behind then
wanted_word version [] next word h = h
wanted_word version (value ∷ values) next word h = (values, next, (h, refl, refl))

-- the next word of a way to go on is of the expected kind
word_wanted : (version : Version) (values : List Value) (next : Choice) (word : List ℕ) (behind : List Value)
    (then : Choice) → GoesOn version values next word behind then → IsWanted version (wanted_of values next) word
word_wanted version [] next word behind then h = (behind, then, h)
word_wanted version (value ∷ values) next word behind then h = h.0

module _ {kind : LineKind} {version : Version} {line : List ℕ} {column : ℕ} {rest : Option (Bor (List ℕ))}
    {values : List Value} {next : Choice} (h : HasCome kind version line column rest values next) where
  -- if a line can go on with its next part, it goes on up to the column after that part
  pub one_more : {text : Bor (List ℕ)} → rest ≡ Some text → (word : List ℕ) (behind : Option (Bor (List ℕ)))
      → IsFree SPACE word → text.now ++ SPACE ∷ [] ≡ word ++ SPACE ∷ left_of behind
      → (wanted : List Value) (then : Choice) → GoesOn version values next word wanted then
      → (after : ℕ) → after ≡ column + (length word + 1) → HasCome kind version line after behind wanted then
  one_more is word behind free cut wanted then goes after moved = record {
    front = h.front ++ word ∷ [];
    free = all_more h.front (word ∷ []) h.free (free, tt);
    left = h.left ∙ ap (λ (r : Option (Bor (List ℕ))). spaced h.front ++ left_of r) is
        ∙ ap (λ (xs : List ℕ). spaced h.front ++ xs) (cut ∙ sym (append_assoc word (SPACE ∷ []) (left_of behind)))
        ∙ sym (append_assoc (spaced h.front) (word ++ SPACE ∷ []) (left_of behind))
        ∙ ap (λ (xs : List ℕ). xs ++ left_of behind) (sym (spaced_more h.front word));
    column = omega (
      arith,
      moved,
      h.column,
      ap (length {A = ℕ}) (spaced_more h.front word),
      length-append (spaced h.front) (word ++ SPACE ∷ []),
      length-append word (SPACE ∷ []),
    );
    goes_on = λ more. (
      λ is. on more
          ((h.goes_on (word ∷ more)).0 (subst (IsLine kind version) (append_assoc h.front (word ∷ []) more) is)),
      λ spells. subst (IsLine kind version) (sym (append_assoc h.front (word ∷ []) more))
          ((h.goes_on (word ∷ more)).1 (wanted, then, goes, spells)),
    );
    leads = λ more expected led. subst (λ (ws : List (List ℕ)). LeadTo version [] (first_choice kind) ws expected)
        (sym (append_assoc h.front (word ∷ []) more)) (h.leads (word ∷ more) expected (wanted, then, goes, led));
  } where
    on : (more : List (List ℕ)) → Spells version values next (word ∷ more) → Spells version wanted then more
    on more (behind, chosen, also, spells) =
        let same = one_way version word values next behind chosen wanted then also goes in
        rw (← same.0, ← same.1) spells

  -- some line begins with the parts that were passed
  begins : Begins kind version h.front
  begins = let t = can_end version values next in (t.0, (h.goes_on t.0).1 t.1)

  -- the words with which a line can go on after the passed parts are exactly those of the expected kind
  goes_with : (word : List ℕ)
      → Begins kind version (h.front ++ word ∷ []) ↔ IsWanted version (wanted_of values next) word
  goes_with word = (there, back) where
    there : Begins kind version (h.front ++ word ∷ []) → IsWanted version (wanted_of values next) word
    there (more, is) = of_first
        ((h.goes_on (word ∷ more)).0 (subst (IsLine kind version) (append_assoc h.front (word ∷ []) more) is)) where
          of_first : Spells version values next (word ∷ more) → IsWanted version (wanted_of values next) word
          of_first (behind, then, goes, spells) = word_wanted version values next word behind then goes

    back : IsWanted version (wanted_of values next) word → Begins kind version (h.front ++ word ∷ [])
    back wanted =
        let (behind, then, goes) = wanted_word version values next word wanted in
        let t = can_end version behind then in (
          t.0,
          subst (IsLine kind version) (sym (append_assoc h.front (word ∷ []) t.0))
              ((h.goes_on (word ∷ t.0)).1 (behind, then, goes, t.1)),
        )

  -- the parts that were passed are a whole line exactly if a line may end here
  ends_there : IsLine kind version h.front ↔ EndsThere (wanted_of values next)
  ends_there = (
    λ is. (h.goes_on []).0 (subst (IsLine kind version) (sym (append-nil h.front)) is),
    λ ends. subst (IsLine kind version) (append-nil h.front) ((h.goes_on []).1 ends),
  )

  -- by the tables, the parts that were passed lead to the expected kind
  led_here : LeadTo version [] (first_choice kind) h.front (wanted_of values next)
  led_here = subst (λ (ws : List (List ℕ)). LeadTo version [] (first_choice kind) ws (wanted_of values next))
      (append-nil h.front) (h.leads [] (wanted_of values next) refl)

  -- the column is this one, with these parts left
  column_here : (behind : List (List ℕ)) → AllByRecursion (IsFree SPACE) behind → left_of rest ≡ spaced behind
      → Stops kind version h.front behind
      → IsColumn kind version line (record { column = column; wanted = wanted_of values next })
  column_here behind free are stops = record {
    front = h.front;
    behind = behind;
    parts = (
      all_more h.front behind h.free free,
      h.left ∙ ap (λ (xs : List ℕ). spaced h.front ++ xs) are ∙ sym (spaced_both h.front behind),
    );
    column = h.column;
    begun = begins;
    stops = stops;
    wanted = goes_with;
    ends = ends_there;
    led = led_here;
  }

  -- the column is this one, if no line goes on with the next word
  pub stops_here : {text : Bor (List ℕ)} → rest ≡ Some text → (word : List ℕ) (behind : Option (Bor (List ℕ)))
      → IsFree SPACE word → text.now ++ SPACE ∷ [] ≡ word ++ SPACE ∷ left_of behind
      → ((wanted : List Value) (then : Choice) → GoesOn version values next word wanted then → ⊥)
      → IsColumn kind version line (record { column = column; wanted = wanted_of values next })
  stops_here is word behind free cut stops =
      let (others, all, are) = left_parts behind in
      column_here (word ∷ others) (free, all) (ap left_of is ∙ cut ∙ ap (λ (xs : List ℕ). word ++ SPACE ∷ xs) are
      ∙ sym (append_assoc word (SPACE ∷ []) (spaced others))) (λ begun.
      let (wanted, then, goes) = wanted_word version values next word ((goes_with word).0 begun) in
      stops wanted then goes)

  -- the line is valid if nothing is left and it may end here
  pub whole_here : rest ≡ None → EndsThere (wanted_of values next) → IsWhole kind version line
  whole_here is ends = (
    h.front,
    (
      h.free,
      h.left ∙ ap (λ (r : Option (Bor (List ℕ))). spaced h.front ++ left_of r) is ∙ append-nil (spaced h.front),
    ),
    ends_there.1 ends,
  )

  -- if nothing is left and a line may not end here, the column is that of the end of the line
  pub ends_here : rest ≡ None → (EndsThere (wanted_of values next) → ⊥)
      → IsColumn kind version line (record { column = column; wanted = wanted_of values next })
  ends_here is stops = column_here [] tt (ap left_of is) (λ whole. stops (ends_there.0 whole))
