-- The part of a line in a column, and the one explanation of a session's line.
use Rattle.smx_explain.proofs.Common.{◌≡◌, ◌≤◌, ◌<◌, ℕ, ◌+◌, true, List, [], ◌∷◌, ◌++◌, length, drop, Option, Some}
use Rattle.smx_explain.proofs.Common.{None, refl, sym, ap, subst, ◌∙◌, inl, inr, arith, rules, AllByRecursion, codes}
use Rattle.smx_explain.proofs.Common.{decimal, Version, V1, V2, IsFree, SPACE, IsColumn, IsPartAt, IsWhole, first_of}
use Rattle.smx_explain.proofs.Common.{spaced, rows_in, Choice, LineColumn, Session, Bytes, Wanted}
use Rattle.std.proofs.Common.{length-append}
use Rattle.std.specs.Prelude.{◌-◌}
use Rattle.std.specs.Fmt.{digits}
use Rattle.std.specs.Str.{all_ascii_digits}
use Rattle.std.proofs.lemmas.Fmt.{digits_decimal}
use Rattle.smx_words.specs.LineReading.{IsSpelled}
use Rattle.smx_words.specs.Spellable.{FitsProcess}
use Rattle.smx_words.proofs.CutLemmas.{apart}
use Rattle.smx_words.proofs.NumberLemmas.{own}
use Rattle.smx_explain.specs.ColumnWords.{IsExplanationOf, column_words, explanation_text}
use Rattle.smx_explain.specs.WorkedColumns.{choice_at}
use Rattle.smx_explain.specs.Hints.{IsHintOn, IsLater, IsWithoutHint, is_capital_hex, meant}
use Rattle.smx_explain.specs.declared.kinds.Choice.TheVariants as choice
use Rattle.smx_explain.specs.declared.hints.Hint.{Hint}
use Rattle.smx_explain.specs.declared.hints.Hint.TheVariants.{LaterVersion, SmallLetters, Meant}
use Rattle.smx_explain.specs.declared.kinds.Wanted.TheVariants as wanted
use Rattle.smx_explain.proofs.ColumnLemmas.{spaced_both, stops_here}
use Rattle.smx_explain.proofs.DeterminedLemmas.{not_new}
use Rattle.smx_explain.proofs.OneColumnLemmas.{first_part, not_both, one_part, same_column, some_bytes}
use Rattle.smx_explain.proofs.WorkedColumnLemmas.{misspelt, neither, seen, session}

-- ---- the part in a column

-- bytes followed by a space begin with other bytes, and are not shorter; then the rest follows after these
cut_at : (line xs ys : List ℕ) → line ++ SPACE ∷ [] ≡ xs ++ ys → length xs ≤ length line
    → drop (length xs) line ++ SPACE ∷ [] ≡ ys
cut_at line [] ys e within = e
cut_at [] (x ∷ xs) ys e within = absurd (omega (arith, within))
cut_at (b ∷ line) (x ∷ xs) ys e within =
    let rest : line ++ SPACE ∷ [] ≡ xs ++ ys = cc e in
    let less : length xs ≤ length line = omega (arith, within) in cut_at line xs ys rest less

-- what holds of all parts holds of the later ones
all_behind : (front behind : List (List ℕ)) → AllByRecursion (IsFree SPACE) (front ++ behind)
    → AllByRecursion (IsFree SPACE) behind
all_behind [] behind all = all
all_behind (w ∷ front) behind all = all_behind front behind all.1

-- the word that begins in a column is the part in that column
pub part_here : (line : List ℕ) (column : ℕ) (part : List ℕ) → IsPartAt line column part → column ≤ length line + 1
    → (word more : List ℕ) → IsFree SPACE word → drop (column - 1) line ++ SPACE ∷ [] ≡ word ++ SPACE ∷ more
    → word ≡ part
part_here line column part (front, behind, parts, here, is) within word more free cut =
    first behind (all_behind front behind parts.0)
    (cut_at line (spaced front) (spaced behind) (parts.1 ∙ spaced_both front behind) (omega (arith, here, within)))
    ∙ sym is where
      at : column - 1 ≡ length (spaced front)
      at = omega (arith, here)

      rest : drop (length (spaced front)) line ++ SPACE ∷ [] ≡ word ++ SPACE ∷ more
      rest = subst (λ (n : ℕ). drop n line ++ SPACE ∷ [] ≡ word ++ SPACE ∷ more) at cut

      first : (behind : List (List ℕ)) → AllByRecursion (IsFree SPACE) behind
          → drop (length (spaced front)) line ++ SPACE ∷ [] ≡ spaced behind → word ≡ first_of behind
      first [] all is = absurd (some_bytes word more (sym rest ∙ is))
      first (w ∷ behind) all is =
          (apart SPACE word w more (spaced behind) free all.0 (sym rest ∙ is ∙ first_part w behind)).0

-- a line has an empty part in a column after its end
pub no_part : (line : List ℕ) (column : ℕ) (part : List ℕ) → IsPartAt line column part → length line + 1 < column
    → [] ≡ part
no_part line column part (front, [], parts, here, is) after = sym is
no_part line column part (front, w ∷ behind, parts, here, is) after =
    let whole : line ++ SPACE ∷ [] ≡ spaced front ++ (w ++ SPACE ∷ spaced behind) =
    parts.1 ∙ spaced_both front (w ∷ behind) ∙ ap (λ (xs : List ℕ). spaced front ++ xs) (first_part w behind) in
    absurd (omega (
      arith,
      here,
      after,
      ap (length {A = ℕ}) whole,
      length-append line (SPACE ∷ []),
      length-append (spaced front) (w ++ SPACE ∷ spaced behind),
      length-append w (SPACE ∷ spaced behind),
    ))

-- ---- one explanation

-- only version 2 has a word of a choice, never of a value
no_later_value : (version : Version) (expected : Wanted) (word : List ℕ) → expected ≡ wanted.Value Bytes
    → IsLater version expected word → ⊥
no_later_value version expected word is later =
    none version (subst (λ (e : Wanted). IsLater version e word) is later) where
      none : (v : Version) → IsLater v (wanted.Value Bytes) word → ⊥
      none V1 h = h
      none V2 h = h

module _ (version : Version) (expected : Wanted) (word : List ℕ) (at : LineColumn) (len : ℕ) where
  -- a word with capital letters is not without a hint
  capitals_told : expected ≡ wanted.Value Bytes → is_capital_hex word ≡ true → IsWithoutHint expected version word → ⊥
  capitals_told is capitals without =
      let not_any = subst (λ (e : Wanted). IsWithoutHint e version word) is without in
      absurd (cc (not_any refl, capitals))

  -- a misspelt fixed word is not without a hint
  verb_told : (choice : Choice) (verb : List ℕ) → expected ≡ wanted.Choice choice
      → meant version choice word ≡ Some verb → IsWithoutHint expected version word → ⊥
  verb_told choice verb is means without =
      let none = subst (λ (e : Wanted). IsWithoutHint e version word) is without in
      absurd (cc (none, means))

  -- one fixed word is meant
  one_verb : (choice other : Choice) (verb others : List ℕ) → expected ≡ wanted.Choice choice
      → expected ≡ wanted.Choice other → meant version choice word ≡ Some verb
      → meant version other word ≡ Some others → verb ≡ others
  one_verb choice other verb others is is_too means means_too =
      let same : choice ≡ other = cc (is, is_too) in
      let one = subst (λ (c : Choice). meant version c word ≡ Some verb) same means in
      cc (one, means_too)

  -- a word has only one hint
  one_hint : (o p : Option Hint) → IsHintOn version expected word o → IsHintOn version expected word p
      → explanation_text at len o ≡ explanation_text at len p
  one_hint (Some LaterVersion) (Some LaterVersion) h k = refl
  one_hint (Some LaterVersion) (Some SmallLetters) h k = absurd (no_later_value version expected word k.0 h)
  one_hint (Some LaterVersion) (Some (Meant verb)) h k = absurd (k.0 h)
  one_hint (Some LaterVersion) None h k = absurd (k.0 h)
  one_hint (Some SmallLetters) (Some LaterVersion) h k = absurd (no_later_value version expected word h.0 k)
  one_hint (Some SmallLetters) (Some SmallLetters) h k = refl
  one_hint (Some SmallLetters) (Some (Meant verb)) (is, capitals) (not, choice, is_too, means) =
      absurd (cc (is, is_too))
  one_hint (Some SmallLetters) None (is, capitals) (not, without) = absurd (capitals_told is capitals without)
  one_hint (Some (Meant verb)) (Some LaterVersion) h k = absurd (h.0 k)
  one_hint (Some (Meant verb)) (Some SmallLetters) (not, choice, is, means) (is_too, capitals) =
      absurd (cc (is, is_too))
  one_hint (Some (Meant verb)) (Some (Meant other)) (not, choice, is, means) (not_too, choice_too, is_too, means_too) =
      ap (λ (v : List ℕ). codes "  " ++ (column_words at len ++ (codes "\n  "
      ++ ((codes "did you mean '" ++ v ++ codes "'?") ++ codes "\n"))))
      (one_verb choice choice_too verb.now other.now is is_too means means_too)
  one_hint (Some (Meant verb)) None (not, choice, is, means) (not_too, without) =
      absurd (verb_told choice verb.now is means without)
  one_hint None (Some LaterVersion) h k = absurd (h.0 k)
  one_hint None (Some SmallLetters) (not, without) (is, capitals) = absurd (capitals_told is capitals without)
  one_hint None (Some (Meant verb)) (not, without) (not_too, choice, is, means) =
      absurd (verb_told choice verb.now is means without)
  one_hint None None h k = refl

-- a line of a session has only one explanation
pub one_explanation : (version : Version) (line one other : List ℕ) → IsExplanationOf version line one
    → IsExplanationOf version line other → one ≡ other
one_explanation version line one other (inl (whole, none)) (inl (whole_too, none_too)) = none ∙ sym none_too
one_explanation version line one other (inl (whole, none)) (inr (at, word, hint, h, part, on, is)) =
    absurd (not_both Session version line at h whole)
one_explanation version line one other (inr (at, word, hint, h, part, on, is)) (inl (whole, none)) =
    absurd (not_both Session version line at h whole)
one_explanation version line one other (inr (at, word, hint, h, part, on, is))
    (inr (also, word_too, hint_too, k, part_too, on_too, is_too)) =
    let same : at ≡ also = same_column Session version line at also h k in
    let words : word ≡ word_too = one_part line also.column word word_too
    (subst (λ (a : LineColumn). IsPartAt line a.column word) same part) part_too in
    let moved = subst (λ (w : List ℕ). IsHintOn version also.wanted w hint) words
    (subst (λ (a : LineColumn). IsHintOn version a.wanted word hint) same on) in
    is ∙ ap (λ (a : LineColumn). explanation_text a (length line) hint) same
    ∙ one_hint version also.wanted word_too also (length line) hint hint_too moved on_too ∙ sym is_too

-- only a request has an empty explanation
pub nothing_explained : (version : Version) (line : List ℕ) → IsExplanationOf version line []
    → IsWhole Session version line
nothing_explained version line (inl (whole, none)) = whole
nothing_explained version line (inr (at, word, None, h, part, on, is)) = absurd (cc is)
nothing_explained version line (inr (at, word, Some hint, h, part, on, is)) = absurd (cc is)

-- ---- worked explanations

-- `x` is no process, and no line begins with it
no_request : IsColumn Session V2 (codes "x") (choice_at 1 choice.SessionLine)
no_request = stops_here (session V2 (codes "x")) refl (codes "x") None (search (rules, arith)) refl
    (neither V2 choice.SessionLine (codes "x")
    (λ values then. not_new (rows_in V2 choice.SessionLine) (codes "x") values then refl)
    (λ values then is. no_digits_in_x is.0)) where
      no_digits_in_x : IsSpelled FitsProcess decimal (codes "x") → ⊥
      no_digits_in_x (n, small, is) = absurd (cc (subst (λ (w : List ℕ). all_ascii_digits w ≡ true) (sym is)
          (digits_decimal own n (omega (arith, small)))))

-- nothing helps with `x`
pub of_no_request : IsExplanationOf V2 (codes "x")
    (codes "  column 1: 'show', 'trace', 'end', or a process from 0 to 63 is wanted\n")
unfolding digits
of_no_request = inr (
  choice_at 1 choice.SessionLine,
  codes "x",
  None,
  no_request,
  ([], codes "x" ∷ [], ((search (rules, arith), tt), refl), refl, refl),
  (λ later. later, refl),
  refl,
)

-- `wirte` is near `write`
pub of_a_misspelt_word : IsExplanationOf V2 (codes "0 wirte 0 5 aa")
    (codes "  column 3: a command, or in version 2 'hangup' is wanted\n  did you mean 'write'?\n")
unfolding digits
of_a_misspelt_word = inr (
  choice_at 3 choice.SessionCommand,
  codes "wirte",
  Some (Meant (seen (codes "write"))),
  misspelt,
  (
    codes "0" ∷ [],
    codes "wirte" ∷ codes "0" ∷ codes "5" ∷ codes "aa" ∷ [],
    (search (rules, arith), refl),
    refl,
    refl,
  ),
  (λ later. later, choice.SessionCommand, refl, refl),
  refl,
)
