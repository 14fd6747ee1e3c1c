-- The merge of two lists that rise finds the elements of one that the other doesn't have.
use Rattle.smx_trace.proofs.Common.{◌≢◌, ◌+◌, ◌<◌, Bool, true, false, not, Some, get_or, refl, sym, ap, ◌∙◌, subst}
use Rattle.smx_trace.proofs.Common.{arith, append_assoc, inl, inr, Decides, AllByRecursion, flat_map, list_any}
use Rattle.smx_trace.proofs.Common.{cases_Bool, false_from_ne_true, or_from, nat_tests, flat_map-append, append-nil}
use Rattle.smx_trace.proofs.Common.{take_more, missing_from, ComesTo, is_before}
use Rattle.std.proofs.Common.{◌≡◌, ℕ, List, [], ◌∷◌, ◌++◌, length, take, drop}
use Rattle.std.specs.List.{filter}
use Rattle.std.specs.Prelude.{slice_get}
use Rattle.std.proofs.lemmas.List.{drop_more, take-append-drop}
use Rattle.std.proofs.lemmas.List.Elements.{filter-append}
use Rattle.std.proofs.lemmas.List.Folds.{list_any-append}
use Rattle.smx_model.specs.Configuration.{pair_before}
use Rattle.smx_trace.specs.Missing.{AreBefore, StartsAt, StepsTo}
use Rattle.smx_trace.specs.Ranks.{IsRanked}

-- no pair comes before itself
pair_not_before : (a b : ℕ) → pair_before a b a b ≡ false
pair_not_before a b = grind (arith, nat_tests)

-- the order of pairs is transitive
pair_trans : (a b c d e f : ℕ) → pair_before a b c d ≡ true → pair_before c d e f ≡ true → pair_before a b e f ≡ true
pair_trans a b c d e f h k = grind (arith, nat_tests)

module _ {X : Type 0} (rank : X → ℕ × ℕ) where
  -- nothing comes before itself
  pub not_before : (x : X) → is_before rank x x ≡ false
  not_before x = pair_not_before (rank x).0 (rank x).1

  -- the order is transitive
  trans : (x y z : X) → is_before rank x y ≡ true → is_before rank y z ≡ true → is_before rank x z ≡ true
  trans x y z h k = pair_trans (rank x).0 (rank x).1 (rank y).0 (rank y).1 (rank z).0 (rank z).1 h k

  -- what comes before x is not x
  differs : (x y : X) → is_before rank y x ≡ true → x ≢ y
  differs x y h e = let k : is_before rank x x ≡ true = subst (λ z. is_before rank z x ≡ true) (sym e) h in
      let n = not_before x in cc

  -- elements before x, and more that come before x
  before_append : (x : X) (ys zs : List X) → AreBefore rank x ys → AreBefore rank x zs → AreBefore rank x (ys ++ zs)
  before_append x [] zs h k = k
  before_append x (y ∷ ys) zs h k = (h.0, before_append x ys zs h.1 k)

  -- elements before x, and one more that comes before x
  before_push : (x y : X) (ys : List X) → AreBefore rank x ys → is_before rank y x ≡ true
      → AreBefore rank x (ys ++ y ∷ [])
  before_push x y ys h k = before_append x ys (y ∷ []) h (k, tt)

  -- what comes before x comes before what x comes before
  before_later : (x z : X) (ys : List X) → is_before rank x z ≡ true → AreBefore rank x ys → AreBefore rank z ys
  before_later x z [] lt h = tt
  before_later x z (y ∷ ys) lt h = (trans y x z h.0 lt, before_later x z ys lt h.1)

  -- the same of all elements after x
  all_later : (x : X) (xs ys : List X) → AllByRecursion (λ z. is_before rank x z ≡ true) xs → AreBefore rank x ys
      → AllByRecursion (λ z. AreBefore rank z ys) xs
  all_later x [] ys h k = tt
  all_later x (z ∷ zs) ys h k = (before_later x z ys h.0 k, all_later x zs ys h.1 k)

  -- nothing was passed
  pub start : (ys : List X) (x : X) → ComesTo rank ys (x ∷ []) ys
  start ys x = record { passed = []; whole = refl; before = (tt, tt) }

  -- nothing was passed, whatever comes
  pub begin : (ys xs : List X) → ComesTo rank ys xs ys
  begin ys xs = record { passed = []; whole = refl; before = none xs } where
    none : (zs : List X) → AllByRecursion (λ z. AreBefore rank z []) zs
    none [] = tt
    none (z ∷ zs) = (tt, none zs)

  -- one more element that comes before x is passed
  pub pass : (ys rest more : List X) (x y : X) → rest ≡ y ∷ more → is_before rank y x ≡ true
      → ComesTo rank ys (x ∷ []) rest → ComesTo rank ys (x ∷ []) more
  pass ys rest more x y e lt h = record {
    passed = h.passed ++ y ∷ [];
    whole = h.whole ∙ ap (λ (zs : List X). h.passed ++ zs) e ∙ sym (append_assoc h.passed (y ∷ []) more);
    before = (before_push x y h.passed h.before.0 lt, tt);
  }

  module _ (same : X → X → Bool) (tells : (a b : X) → Decides (same a b) (a ≡ b)) where
    -- x differs from each element before it
    none_before : (x : X) (ys : List X) → AreBefore rank x ys → list_any (same x) ys ≡ false
    none_before x [] h = refl
    none_before x (y ∷ ys) h =
        or_from (same x y) _ (false_from_ne_true _ (λ t. differs x y h.0 ((tells x y).0 t))) (none_before x ys h.1)

    -- x differs from each element of a rising list that starts with another element, which doesn't come before it
    none_after : (x : X) (ys : List X) → IsRanked rank ys → StartsAt rank x ys → (slice_get ys 0 ≡ Some x → ⊥)
        → list_any (same x) ys ≡ false
    none_after x [] rise starts other = refl
    none_after x (y ∷ ys) rise starts other = or_from (same x y) _
        (false_from_ne_true _ (λ t. other (ap Some (sym ((tells x y).0 t))))) (rest ys rise.0) where
          rest : (zs : List X) → AllByRecursion (λ z. is_before rank y z ≡ true) zs → list_any (same x) zs ≡ false
          rest [] h = refl
          rest (z ∷ zs) h = or_from (same x z) _ (false_from_ne_true _ (λ t.
              let k : is_before rank y x ≡ true =
              subst (λ w. is_before rank y w ≡ true) (sym ((tells x z).0 t)) h.0 in cc)) (rest zs h.1)

    -- two lists of elements that come before the first of two, as one
    abbrev joined : (ys xs others rest : List X) (x : X) → ComesTo rank ys (x ∷ xs) others
        → ComesTo rank others (x ∷ []) rest → AllByRecursion (λ z. is_before rank x z ≡ true) xs
        → ComesTo rank ys xs rest
    joined ys xs others rest x h k later = record {
      passed = h.passed ++ k.passed;
      whole = h.whole ∙ ap (λ (zs : List X). h.passed ++ zs) k.whole ∙ sym (append_assoc h.passed k.passed rest);
      before = all_later x xs (h.passed ++ k.passed) later (before_append x h.passed k.passed h.before.0 k.before.0);
    }

    -- what comes before x, and x
    passed_all : (ys xs others rest : List X) (x : X) (h : ComesTo rank ys (x ∷ xs) others)
        (k : ComesTo rank others (x ∷ []) rest) → AreBefore rank x (h.passed ++ k.passed)
    passed_all ys xs others rest x h k = before_append x h.passed k.passed h.before.0 k.before.0

    -- the same, and x itself
    with_x : (xs ps : List X) (x : X) → AllByRecursion (λ z. is_before rank x z ≡ true) xs
        → AllByRecursion (λ z. AreBefore rank z ps) xs → AllByRecursion (λ z. AreBefore rank z (ps ++ x ∷ [])) xs
    with_x [] ps x h k = tt
    with_x (z ∷ zs) ps x h k = (before_push z x ps k.0 h.0, with_x zs ps x h.1 k.1)

    -- the end of a rising list rises
    rising_end : (ps rest : List X) → IsRanked rank (ps ++ rest) → IsRanked rank rest
    rising_end [] rest h = h
    rising_end (p ∷ ps) rest h = rising_end ps rest h.1

    -- x is among some elements, itself and others
    is_among : (ps more : List X) (x : X) → list_any (same x) (ps ++ x ∷ more) ≡ true
    is_among [] more x = rw ((tells x x).1 refl) refl
    is_among (p ∷ ps) more x = elim (cases_Bool (same x p)) [ inl t ↦ rw t refl | inr f ↦ rw f (is_among ps more x) ]

    -- if x is the first of the rest, it is in the list, and the elements after it are left
    pub step_found : (text : X → List ℕ) (x : X) (others rest more : List X) (out : List ℕ)
        → ComesTo rank others (x ∷ []) rest → rest ≡ x ∷ more → StepsTo rank same text x others more out out
    step_found text x others rest more out k e ys xs rise later h =
        let j = joined ys xs others rest x h k later in
        let whole : ys ≡ j.passed ++ x ∷ more = j.whole ∙ ap (λ (zs : List X). j.passed ++ zs) e in
        let among : list_any (same x) ys ≡ true =
        ap (list_any (same x)) whole ∙ is_among j.passed more x in (
          record {
            passed = j.passed ++ x ∷ [];
            whole = whole ∙ sym (append_assoc j.passed (x ∷ []) more);
            before = with_x xs j.passed x later j.before;
          },
          rw among (sym (append-nil out)),
        )

    -- if the rest starts with another element that doesn't come before x, x is not in the list
    pub step_missing : (text : X → List ℕ) (x : X) (others rest : List X) (out new : List ℕ)
        → ComesTo rank others (x ∷ []) rest → StartsAt rank x rest → (slice_get rest 0 ≡ Some x → ⊥)
        → new ≡ out ++ text x → StepsTo rank same text x others rest out new
    step_missing text x others rest out new k starts other written ys xs rise later h =
        let j = joined ys xs others rest x h k later in
        let ranked : IsRanked rank rest =
        rising_end j.passed rest (subst (λ (zs : List X). IsRanked rank zs) j.whole rise) in
        let apart : list_any (same x) ys ≡ false =
        ap (list_any (same x)) j.whole ∙ list_any-append (same x) j.passed rest
        ∙ or_from (list_any (same x) j.passed) _
        (none_before x j.passed (passed_all ys xs others rest x h k))
        (none_after x rest ranked starts other) in
        (j, rw apart (written ∙ ap (λ (w : List ℕ). out ++ w) (sym (append-nil (text x)))))

    -- one more line is done
    pub step_on : (text : X → List ℕ) (lines ys rest more : List X) (i : ℕ) (x : X) (start out new : List ℕ)
        → i < length lines → x ≡ get_or lines i x → IsRanked rank lines → IsRanked rank ys
        → ComesTo rank ys (drop i lines) rest → out ≡ start ++ flat_map text (missing_from same (take i lines) ys)
        → StepsTo rank same text x rest more out new
        → ComesTo rank ys (drop (i + 1) lines) more
        × (new ≡ start ++ flat_map text (missing_from same (take (i + 1) lines) ys))
    step_on text lines ys rest more i x start out new lt is rise ranked merged written steps =
        let one : drop i lines ≡ x ∷ drop (i + 1) lines =
        drop_more lines i x lt ∙ ap (λ z. z ∷ drop (i + 1) lines) (sym is) in
        let left : IsRanked rank (x ∷ drop (i + 1) lines) =
        rw one at (rising_end (take i lines) (drop i lines) (rw (take-append-drop i lines) rise)) in
        let s = steps ys (drop (i + 1) lines) ranked left.0
        (rw one at merged) in
        let Kept : X → Bool = λ z. not (list_any (same z) ys) in
        let more_taken : take (i + 1) lines ≡ take i lines ++ x ∷ [] =
        take_more lines i x lt ∙ ap (λ z. take i lines ++ z ∷ []) (sym is) in (
          s.0,
          rw (
            more_taken,
            filter-append Kept (take i lines) (x ∷ []),
            flat_map-append text (filter Kept (take i lines)) (filter Kept (x ∷ [])),
            s.1,
            written,
          )
              (append_assoc start _ _),
        )
