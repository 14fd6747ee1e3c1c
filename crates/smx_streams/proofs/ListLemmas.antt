-- Lists in general.
use Rattle.smx_model.proofs.Common.{◌≡◌, Bool, ◌&&◌, not, List, [], ◌∷◌, ◌++◌, find, filter, Some, None, refl, inl}
use Rattle.smx_model.proofs.Common.{inr, list_any, is_some, cases_Bool, ComesBefore, with_inserted, arith}

-- a search in two joined lists

-- an element that a search finds in the first of two lists is found in both joined
pub find_front : {X : Type 0} (test : X → Bool) (xs ys : List X) (x : X) → find test xs ≡ Some x
    → find test (xs ++ ys) ≡ Some x
find_front test [] ys x h = absurd cc
find_front test (y ∷ xs) ys x h = grind (arith, find_front test xs ys x)

-- a search that finds nothing in the first of two lists finds what it finds in the second
pub find_past : {X : Type 0} (test : X → Bool) (xs ys : List X) → find test xs ≡ None
    → find test (xs ++ ys) ≡ find test ys
find_past test [] ys h = refl
find_past test (y ∷ xs) ys h = grind (arith, find_past test xs ys)

-- some element passes a test exactly if a search finds an element
pub any_found : {X : Type 0} (test : X → Bool) (xs : List X) → list_any test xs ≡ is_some (find test xs)
any_found test [] = refl
any_found test (x ∷ xs) = elim (cases_Bool (test x)) [ inl t ↦ rw t refl | inr f ↦ rw f (any_found test xs) ]

-- if no element passes a test, removing those that pass it removes none
pub none_goes : {X : Type 0} (test : X → Bool) (xs : List X) → find test xs ≡ None → filter (λ x. not (test x)) xs ≡ xs
none_goes test [] h = refl
none_goes test (x ∷ xs) h = grind (arith, none_goes test xs)

-- two filters in turn are one filter by both tests
pub filter_twice : {X : Type 0} (t u : X → Bool) (xs : List X)
    → filter u (filter t xs) ≡ filter (λ x. t x && u x) xs
filter_twice t u [] = refl
filter_twice t u (x ∷ xs) = grind (arith, filter_twice t u xs)

-- an element that comes before two lists comes before both joined
pub comes_both : {X : Type 0} (before : X → X → Bool) (x : X) (xs ys : List X) → ComesBefore before x xs
    → ComesBefore before x ys → ComesBefore before x (xs ++ ys)
comes_both before x [] ys h k = k
comes_both before x (y ∷ xs) ys h k = (h.0, comes_both before x xs ys h.1 k)

-- an element that comes before all others is inserted first
pub inserted_first : {X : Type 0} (before : X → X → Bool) (x : X) (ys : List X) → ComesBefore before x ys
    → with_inserted before ys x ≡ x ∷ ys
inserted_first before x [] h = refl
inserted_first before x (y ∷ ys) h = rw h.0 refl
