-- Items in order of place, as messages and full places are, when the items of one place change.
use Rattle.std.proofs.Common.{◌≡◌, ℕ, zero, suc, ◌<◌, Bool, true, false, cond, List, [], ◌∷◌, ◌++◌, length}
use Rattle.std.proofs.Common.{drop, filter, map, set, Some, refl, sym, ap, ◌∙◌, subst, arith, append_assoc}
use Rattle.std.specs.Prelude.{slice_get}
use Rattle.std.specs.List.{AllByRecursion, list_any}
use Rattle.std.proofs.lemmas.List.Elements.{filter-append}
use Rattle.std.proofs.lemmas.Option.{same_Some}
use Rattle.smx_types.specs.declared.stream.Place.{Place}
use Rattle.smx_model.specs.Configuration.{place_before, same_place}
use Rattle.smx_model.specs.Ordered.{IsRising, with_inserted, without_first}
use Rattle.smx_model.proofs.EachLemmas.{each_map, none_passes}
use Rattle.smx_queues.specs.PlaceLists.{by_place}
use Rattle.smx_queues.proofs.PlaceLemmas.{apart, first_before, not_after, not_before}

-- ---- one list

-- what holds of all elements of two lists holds of all of the joined list
each_append : {X : Type 0} (P : X → Type 0) (xs ys : List X) → AllByRecursion P xs → AllByRecursion P ys
    → AllByRecursion P (xs ++ ys)
each_append P [] ys h k = k
each_append P (x ∷ xs) ys h k = (h.0, each_append P xs ys h.1 k)

-- a filter keeps all elements, or none, if they all pass its test, or all fail
kept : {X : Type 0} (test : X → Bool) (b : Bool) (xs : List X) → AllByRecursion (λ x. test x ≡ b) xs
    → filter test xs ≡ cond b xs []
kept test true [] h = refl
kept test false [] h = refl
kept {X} test true (x ∷ xs) h = rw h.0 (ap (λ (ys : List X). x ∷ ys) (kept test true xs h.1))
kept test false (x ∷ xs) h = rw h.0 (kept test false xs h.1)

-- an element that comes before none of some elements is inserted after them
skip_inserted : {X : Type 0} (before : X → X → Bool) (x : X) (xs rest : List X)
    → AllByRecursion (λ y. before x y ≡ false) xs
    → with_inserted before (xs ++ rest) x ≡ xs ++ with_inserted before rest x
skip_inserted before x [] rest h = refl
skip_inserted {X} before x (y ∷ xs) rest h = grind (arith, skip_inserted before x xs rest h.1)

-- an element that comes before all others is inserted in front of them
first_inserted : {X : Type 0} (before : X → X → Bool) (x : X) (xs : List X)
    → AllByRecursion (λ y. before x y ≡ true) xs → with_inserted before xs x ≡ x ∷ xs
first_inserted before x [] h = refl
first_inserted before x (y ∷ xs) h = rw h.0 refl

-- the first element that passes a test follows some that fail it
skip_without : {X : Type 0} (test : X → Bool) (xs : List X) (x : X) (rest : List X)
    → AllByRecursion (λ y. test y ≡ false) xs → test x ≡ true
    → without_first test (xs ++ x ∷ rest) ≡ xs ++ rest
skip_without test [] x rest h is = rw is refl
skip_without {X} test (y ∷ xs) x rest h is = grind (arith, skip_without test xs x rest h.1 is)

-- ---- the items of all places

-- the items before those of a place, and those after them; each is of an earlier place, or of a later one
pub record IsSplit {X Y : Type 0} (of : Y → Place) (items : Place → X → List Y) (places : List Place) (xs : List X)
    (i : ℕ) (p : Place) : Type 0 where
  pub front : List Y
  pub back : List Y
  pub whole : (x : X) → by_place items places (set xs i x) ≡ front ++ (items p x ++ back)
  pub own : (x : X) → AllByRecursion (λ y. of y ≡ p) (items p x)
  pub earlier : AllByRecursion (λ y. place_before (of y) p ≡ true) front
  pub later : AllByRecursion (λ y. place_before p (of y) ≡ true) back

-- from the number of a place on, with another element there, the items begin with those of this place
pub items_from : {X Y : Type 0} (items : Place → X → List Y) (places : List Place) (xs : List X) (i : ℕ) (p : Place)
    (x : X) → slice_get places i ≡ Some p → i < length xs
    → by_place items (drop i places) (drop i (set xs i x))
    ≡ items p x ++ by_place items (drop (suc i) places) (drop (suc i) xs)
items_from items [] xs i p x at below = absurd cc
items_from items (r ∷ places) [] i p x at below = absurd (omega arith)
items_from items (r ∷ places) (old ∷ xs) zero p x at below = rw (same_Some r p at) refl
items_from items (r ∷ places) (old ∷ xs) (suc i) p x at below = items_from items places xs i p x at (omega arith)

-- if no place has an item, there are no items
pub no_items : {X Y : Type 0} (items : Place → X → List Y) (of : Place → X) (places : List Place)
    → ((p : Place) → items p (of p) ≡ []) → by_place items places (map of places) ≡ []
no_items items of [] none = refl
no_items items of (p ∷ places) none = rw (none p) (no_items items of places none)

module _ {X Y : Type 0} (of : Y → Place) (items : Place → X → List Y)
    (own : (p : Place) (x : X) → AllByRecursion (λ y. of y ≡ p) (items p x)) where
  -- what holds of all places holds of the places of all items
  pub each_item : (P : Place → Type 0) (places : List Place) (xs : List X) → AllByRecursion P places
      → AllByRecursion (λ y. P (of y)) (by_place items places xs)
  each_item P [] xs h = tt
  each_item P (p ∷ places) [] h = tt
  each_item P (p ∷ places) (x ∷ xs) h = each_append (λ y. P (of y)) (items p x) (by_place items places xs)
      (each_map (λ y. of y ≡ p) (λ y. P (of y)) (items p x) (λ y e. subst P (sym e) h.0) (own p x))
      (each_item P places xs h.1)

  -- of places that rise, each has its items between those of earlier and of later ones
  pub split : (places : List Place) (xs : List X) (i : ℕ) (p : Place) → IsRising place_before places
      → slice_get places i ≡ Some p → i < length xs → IsSplit of items places xs i p
  split [] xs i p rise at below = absurd cc
  split (r ∷ places) [] i p rise at below = absurd (omega arith)
  split (r ∷ places) (old ∷ xs) zero p rise at below = record {
    front = [];
    back = by_place items places xs;
    whole = λ x. rw (same_Some r p at) refl;
    own = own p;
    earlier = tt;
    later = each_item (λ q. place_before p q ≡ true) places xs (rw (same_Some r p at) at rise.0);
  }
  split (r ∷ places) (old ∷ xs) (suc i) p rise at below =
      let s = split places xs i p rise.1 at (omega arith) in
      record {
        front = items r old ++ s.front;
        back = s.back;
        whole = λ x. ap (λ (ys : List Y). items r old ++ ys) (s.whole x)
            ∙ sym (append_assoc (items r old) s.front (items p x ++ s.back));
        own = own p;
        earlier = each_append (λ y. place_before (of y) p ≡ true) (items r old) s.front
            (each_map (λ y. of y ≡ r) (λ y. place_before (of y) p ≡ true) (items r old)
            (λ y e. ap (λ (q : Place). place_before q p) e ∙ first_before r p places i rise.0 at) (own r old))
            s.earlier;
        later = s.later;
      }

  -- if all other places fail a test, or all pass it, a filter by it keeps none of the items, or all
  pub kept_absent : (p : Place) (places : List Place) (xs : List X) (test : Place → Bool) (b : Bool)
      → list_any (same_place p) places ≡ false → ((q : Place) → same_place p q ≡ false → test q ≡ b)
      → filter (λ y. test (of y)) (by_place items places xs) ≡ cond b (by_place items places xs) []
  kept_absent p places xs test b absent other = kept (λ y. test (of y)) b (by_place items places xs)
      (each_item (λ q. test q ≡ b) places xs (none_passes (same_place p) (λ q. test q ≡ b) places other absent))

module _ {X Y : Type 0} (of : Y → Place) (items : Place → X → List Y) (places : List Place) (xs : List X) (i : ℕ)
    (p : Place) (s : IsSplit of items places xs i p) (x : X) where
  -- a filter by a test on which all earlier and later places agree keeps or drops their items
  pub kept_parts : (test : Place → Bool) (a b : Bool) → test p ≡ b
      → ((q : Place) → place_before q p ≡ true → test q ≡ a) → ((q : Place) → place_before p q ≡ true → test q ≡ a)
      → filter (λ y. test (of y)) (by_place items places (set xs i x))
      ≡ cond a s.front [] ++ (cond b (items p x) [] ++ cond a s.back [])
  kept_parts test a b here before after = rw (
    s.whole x,
    filter-append (λ y. test (of y)) s.front (items p x ++ s.back),
    filter-append (λ y. test (of y)) (items p x) s.back,
    kept (λ y. test (of y)) a s.front (each_map _ (λ y. test (of y) ≡ a) s.front (λ y h. before (of y) h) s.earlier),
    kept (λ y. test (of y)) b (items p x)
        (each_map _ (λ y. test (of y) ≡ b) (items p x) (λ y e. ap test e ∙ here) (s.own x)),
    kept (λ y. test (of y)) a s.back (each_map _ (λ y. test (of y) ≡ a) s.back (λ y h. after (of y) h) s.later),
  ) refl

  -- an item of the place is inserted after its other items
  pub inserted : (y : Y) → of y ≡ p
      → with_inserted (λ a b. place_before (of a) (of b)) (by_place items places (set xs i x)) y
      ≡ s.front ++ (items p x ++ y ∷ s.back)
  inserted y is =
      let before : Y → Y → Bool = λ a b. place_before (of a) (of b) in
      rw (
        s.whole x,
        skip_inserted before y s.front (items p x ++ s.back)
            (each_map _ (λ z. before y z ≡ false) s.front (λ z h. rw is (not_after (of z) p h)) s.earlier),
        skip_inserted before y (items p x) s.back
            (each_map _ (λ z. before y z ≡ false) (items p x)
            (λ z e. rw e (ap (λ (q : Place). place_before q p) is ∙ not_before p)) (s.own x)),
        first_inserted before y s.back (each_map _ (λ z. before y z ≡ true) s.back (λ z h. rw is h) s.later),
      ) refl

  -- the first item of the place is the first one that is removed
  pub removed : (y : Y) (rest : List Y) → items p x ≡ y ∷ rest → same_place (of y) p ≡ true
      → without_first (λ z. same_place (of z) p) (by_place items places (set xs i x)) ≡ s.front ++ (rest ++ s.back)
  removed y rest are is = rw (s.whole x, are) (skip_without (λ z. same_place (of z) p) s.front y (rest ++ s.back)
      (each_map _ (λ z. same_place (of z) p ≡ false) s.front (λ z h. apart (of z) p h) s.earlier) is)
