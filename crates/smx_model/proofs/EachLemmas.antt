-- Properties of all elements of a list, and of each with all later ones, by recursion.
use Rattle.smx_model.proofs.Common.{◌≡◌, suc, Bool, false, arith, List, [], ◌∷◌, ◌++◌, filter, find, Some, inl}
use Rattle.smx_model.proofs.Common.{inr, true, list_any, AllByRecursion, AllPairs, list_all, cases_Bool}
use Rattle.smx_model.proofs.Common.{or_parts, recursion_from_All, AllLater, with_inserted, without_first}

-- a property of all elements holds of all that a filter keeps
pub each_filter : {X : Type 0} (P : X → Type 0) (test : X → Bool) (xs : List X) → AllByRecursion P xs
    → AllByRecursion P (filter test xs)
each_filter P test [] h = tt
each_filter P test (x ∷ xs) h = grind (arith, each_filter P test xs h.1)

-- a property of all elements and of one more holds of all after that one is inserted
pub each_placed : {X : Type 0} (P : X → Type 0) (before : X → X → Bool) (xs : List X) (x : X) → P x
    → AllByRecursion P xs
    → AllByRecursion P (with_inserted before xs x)
each_placed P before [] x p h = (p, tt)
each_placed P before (y ∷ ys) x p h =
    elim (cases_Bool (before x y)) [ inl t ↦ rw t (p, h) | inr f ↦ rw f (h.0, each_placed P before ys x p h.1) ]

-- a property of all elements and of one more holds of all with that one at the end
pub each_push : {X : Type 0} (P : X → Type 0) (xs : List X) (x : X) → P x → AllByRecursion P xs
    → AllByRecursion P (xs ++ x ∷ [])
each_push P [] x p h = (p, tt)
each_push P (y ∷ ys) x p h = (h.0, each_push P ys x p h.1)

-- a property of all elements holds of the one that a search finds
pub each_find : {X : Type 0} (P : X → Type 0) (test : X → Bool) (xs : List X) (x : X) → find test xs ≡ Some x
    → AllByRecursion P xs → P x
each_find P test [] x e h = cc
each_find P test (y ∷ ys) x e h = grind (arith, each_find P test ys x)

-- if P implies Q and P holds of all elements, Q holds of all
pub each_map : {X : Type 0} (P Q : X → Type 0) (xs : List X) → ((x : X) → P x → Q x) → AllByRecursion P xs
    → AllByRecursion Q xs
each_map P Q [] f h = tt
each_map P Q (x ∷ xs) f h = (f x h.0, each_map P Q xs f h.1)

-- if P and Q hold of all elements, both hold of each
pub each_both : {X : Type 0} (P Q : X → Type 0) (xs : List X) → AllByRecursion P xs → AllByRecursion Q xs
    → AllByRecursion (λ x. P x × Q x) xs
each_both P Q [] h k = tt
each_both P Q (x ∷ xs) h k = ((h.0, k.0), each_both P Q xs h.1 k.1)

-- if all elements pass a test, and P holds of what passes, P holds of all
pub each_of_list_all : {X : Type 0} (t : X → Bool) (P : X → Type 0) (xs : List X) → ((x : X) → t x ≡ true → P x)
    → list_all t xs ≡ true → AllByRecursion P xs
each_of_list_all t P [] f e = tt
each_of_list_all t P (x ∷ xs) f e = grind (arith, f x, each_of_list_all t P xs f)

-- if no element passes a test, and P holds of what fails, P holds of all
pub none_passes : {X : Type 0} (t : X → Bool) (P : X → Type 0) (xs : List X) → ((x : X) → t x ≡ false → P x)
    → list_any t xs ≡ false → AllByRecursion P xs
none_passes t P [] f e = tt
none_passes t P (x ∷ xs) f e = let p = or_parts (t x) (list_any t xs) e in (f x p.0, none_passes t P xs f p.1)

-- if P holds of what passes a test, P holds of all elements that a filter by the test keeps
pub kept_passes : {X : Type 0} (t : X → Bool) (P : X → Type 0) (xs : List X) → ((x : X) → t x ≡ true → P x)
    → AllByRecursion P (filter t xs)
kept_passes t P [] f = tt
kept_passes t P (x ∷ xs) f = grind (arith, f x, kept_passes t P xs f)

-- a property of all elements holds of all except the first that passes a test
pub each_without_first : {X : Type 0} (P : X → Type 0) (test : X → Bool) (xs : List X) → AllByRecursion P xs
    → AllByRecursion P (without_first test xs)
each_without_first P test [] h = tt
each_without_first P test (x ∷ xs) h = grind (arith, each_without_first P test xs h.1)

-- a property of all values holds of each element
pub each_of_every : {X : Type 0} (P : X → Type 0) (xs : List X) → ((x : X) → P x) → AllByRecursion P xs
each_of_every P [] f = tt
each_of_every P (x ∷ xs) f = (f x, each_of_every P xs f)

-- if each element is related to all later ones, so it is among those that a filter keeps
pub later_filter : {X : Type 0} (R : X → X → Type 0) (keep : X → Bool) (xs : List X) → AllLater R xs
    → AllLater R (filter keep xs)
later_filter R keep [] h = tt
later_filter R keep (x ∷ xs) h = grind (arith, each_filter (R x) keep xs h.0, later_filter R keep xs h.1)

-- if each element is related to all later ones, so it is without the first that passes a test
pub later_without_first : {X : Type 0} (R : X → X → Type 0) (test : X → Bool) (xs : List X) → AllLater R xs
    → AllLater R (without_first test xs)
later_without_first R test [] h = tt
later_without_first R test (x ∷ xs) h = grind (arith, each_without_first, later_without_first R test xs h.1)

-- if R implies S, and each element is related by R to all later ones, it is related to them by S
pub later_map : {X : Type 0} (R S : X → X → Type 0) (xs : List X) → ((x y : X) → R x y → S x y) → AllLater R xs
    → AllLater S xs
later_map R S [] f h = tt
later_map R S (x ∷ xs) f h = (each_map (R x) (S x) xs (f x) h.0, later_map R S xs f h.1)

-- if each element is related to all later ones and to x, this is still so with x at the end
pub later_push : {X : Type 0} (R : X → X → Type 0) (xs : List X) (x : X) → AllByRecursion (λ y. R y x) xs
    → AllLater R xs → AllLater R (xs ++ x ∷ [])
later_push R [] x h r = (tt, tt)
later_push R (y ∷ ys) x h r = (each_push (R y) ys x h.0 r.0, later_push R ys x h.1 r.1)

-- If each element is related to all later ones, this is still so after x is inserted, under three conditions. First, x
-- is related to each element that x comes before. Second, x is related to all elements to which such an element is
-- related. Third, each other element is related to x.
pub later_placed : {X : Type 0} (R : X → X → Type 0) (before : X → X → Bool) (x : X)
    → ((y : X) → before x y ≡ true → R x y) → ((y z : X) → before x y ≡ true → R y z → R x z) → (xs : List X)
    → AllByRecursion (λ y. before x y ≡ false → R y x) xs → AllLater R xs → AllLater R (with_inserted before xs x)
later_placed R before x first later [] other h = (tt, tt)
later_placed R before x first later (y ∷ ys) other h =
    grind (arith, each_map, each_placed, later_placed R before x first later ys other.1 h.1)

-- a relation of each element to all later ones, by index, also holds by recursion
pub later_pairs : {X : Type 0} (R : X → X → Type 0) (xs : List X) → AllPairs R xs → AllLater R xs
later_pairs R [] h = tt
later_pairs R (x ∷ xs) h = (
  recursion_from_All (R x) xs (λ k d lt. h 0 (suc k) d (omega arith) (omega (arith, lt))),
  later_pairs R xs (λ i j d lt within. h (suc i) (suc j) d (omega (arith, lt)) (omega (arith, within))),
)
