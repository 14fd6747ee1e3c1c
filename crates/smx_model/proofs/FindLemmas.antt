-- Searches in lists: with fewer elements, with one more, and by keys that differ.
use Rattle.smx_model.proofs.Common.{◌≡◌, ℕ, Bool, true, false, ◌&&◌, eqb, List, [], ◌∷◌, ◌++◌, filter, find, Option}
use Rattle.smx_model.proofs.Common.{None, refl, ap, ◌∙◌, inl, inr, arith, ◌⊎◌, list_any, false≢true}
use Rattle.smx_model.proofs.Common.{nat_tests, with_inserted, AllByRecursion, AllLater}
use Rattle.smx_model.proofs.EachLemmas.{each_filter, each_map}
use Rattle.std.proofs.lemmas.List.Folds.{find-append}

-- ---- lists with fewer elements find the same, or nothing

-- `Stays` at any type: a search finds the same as before, or nothing
abbrev pub Finds : {X : Type 0} → Option X → Option X → Type 0
Finds {X} o n = (n ≡ o) ⊎ (n ≡ None)

-- a value that is found as before is found as before or not at all
pub same_finds : {X : Type 0} (o : Option X) → Finds o o
same_finds o = inl refl

-- a search by a test that no element passes finds nothing
none_finds : {X : Type 0} (t : X → Bool) (xs : List X) → AllByRecursion (λ y. t y ≡ false) xs → find t xs ≡ None
none_finds t [] h = refl
none_finds t (x ∷ xs) h = rw h.0 (none_finds t xs h.1)

-- if no two elements pass a test, a search by it finds the same after a filter, or nothing
pub finds_kept : {X : Type 0} (R : X → X → Type 0) (t keep : X → Bool) (xs : List X)
    → ((x y : X) → t x ≡ true → R x y → t y ≡ false) → AllLater R xs → Finds (find t xs) (find t (filter keep xs))
finds_kept R t keep [] f h = inl refl
finds_kept R t keep (x ∷ xs) f h = grind (arith, none_finds, each_filter, each_map, finds_kept R t keep xs f h.1)

-- if each of two searches in turn finds as before or nothing, both together do
pub finds_then : {X : Type 0} (a b c : Option X) → Finds a b → Finds b c → Finds a c
finds_then a b c h (inr z) = inr z
finds_then a b c (inl y) (inl z) = inl (z ∙ y)
finds_then a b c (inr y) (inl z) = inr (z ∙ y)

-- a function of a value that is found as before or not at all is as before or nothing, if it maps nothing to nothing
pub finds_by : {X Y : Type 0} (f : Option X → Option Y) (o n : Option X) → f None ≡ None → Finds o n → Finds (f o) (f n)
finds_by f o n z (inl e) = inl (ap f e)
finds_by f o n z (inr e) = inr (ap f e ∙ z)

-- ---- lists with one more element, or with all that pass, find the same

-- after one more element that fails a test is inserted, a search by the test finds the same
pub find_placed : {X : Type 0} (t : X → Bool) (before : X → X → Bool) (xs : List X) (x : X) → t x ≡ false
    → find t (with_inserted before xs x) ≡ find t xs
find_placed t before [] x f = rw f refl
find_placed t before (y ∷ ys) x f = grind (arith, find_placed t before ys x f)

-- if all elements that pass a test are kept, a search by it finds the same
pub find_filter : {X : Type 0} (t keep : X → Bool) (xs : List X) → ((x : X) → t x ≡ true → keep x ≡ true)
    → find t (filter keep xs) ≡ find t xs
find_filter t keep [] f = refl
find_filter t keep (x ∷ xs) f = grind (arith, f x, find_filter t keep xs f)

-- with one more element that fails a test at the end, a search by the test finds the same
pub find_push_other : {X : Type 0} (t : X → Bool) (xs : List X) (x : X) → t x ≡ false
    → find t (xs ++ x ∷ []) ≡ find t xs
find_push_other {X} t xs x f = grind (arith, find-append t xs (x ∷ []))

-- with one more element at the end, a search that finds one of the others finds the same
pub find_push_found : {X : Type 0} (t : X → Bool) (xs : List X) (x : X) → list_any t xs ≡ true
    → find t (xs ++ x ∷ []) ≡ find t xs
find_push_found t [] x h = absurd (false≢true h)
find_push_found t (y ∷ ys) x h = grind (arith, find_push_found t ys x)

-- ---- keys that differ

-- a pair that differs from a pair equal to the key is not the key
pub no_other_pair : (a b c d x y : ℕ) → (eqb a x && eqb b y) ≡ true → (eqb a c && eqb b d) ≡ false
    → (eqb c x && eqb d y) ≡ false
no_other_pair a b c d x y h k = grind (arith, nat_tests)

-- a number that differs from a number equal to the key is not the key
pub no_other_number : (a b x : ℕ) → eqb a x ≡ true → eqb a b ≡ false → eqb b x ≡ false
no_other_number a b x h k = grind (arith, nat_tests)

-- inequality of pairs is symmetric
pub not_same_pair_turned : (driver addr d a : ℕ) → (eqb d driver && eqb a addr) ≡ false
    → (eqb driver d && eqb addr a) ≡ false
not_same_pair_turned driver addr d a h = grind (arith, nat_tests)
