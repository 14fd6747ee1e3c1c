-- Tests over lists: some element passes, all elements pass, the first element that passes.
use Rattle.smx_model.proofs.Common.{◌≡◌, Bool, true, ◌||◌, not, List, [], ◌∷◌, filter, refl, ◌∙◌, arith, ◌++◌, find}
use Rattle.smx_model.proofs.Common.{Some, list_any, list_all, and_parts, or_left, and_from, false≢true, AllByRecursion}
use Rattle.smx_model.proofs.Common.{with_inserted, without_first}
use Rattle.std.proofs.lemmas.List.Folds.{list_all-append, list_any-append}

-- if two tests agree on all values, some element passes the one exactly if some element passes the other
pub any_same : {X : Type 0} (t u : X → Bool) (xs : List X) → ((x : X) → t x ≡ u x) → list_any t xs ≡ list_any u xs
any_same t u [] h = refl
any_same t u (x ∷ xs) h = rw (h x, any_same t u xs h) refl

-- if a filter keeps all elements that pass a test, some element passes it afterwards exactly if some did before
pub any_filter : {X : Type 0} (t keep : X → Bool) (xs : List X) → ((x : X) → t x ≡ true → keep x ≡ true)
    → list_any t (filter keep xs) ≡ list_any t xs
any_filter t keep [] h = refl
any_filter t keep (x ∷ xs) h = grind (arith, h x, any_filter t keep xs h)

-- if values that pass one test pass another, each element that a filter by the first keeps passes the second
pub all_passes : {X : Type 0} (t u : X → Bool) (xs : List X) → ((x : X) → t x ≡ true → u x ≡ true)
    → list_all u (filter t xs) ≡ true
all_passes t u [] h = refl
all_passes t u (x ∷ xs) h = grind (arith, h x, all_passes t u xs h)

-- an element that passes the test and has P
pub record Found {X : Type 0} (t : X → Bool) (P : X → Type 0) (xs : List X) : Type 0 where
  pub one : X
  pub passes : t one ≡ true
  pub has : P one

-- if P holds of all elements, and some element passes a test, some element passes and has P
pub any_found : {X : Type 0} (t : X → Bool) (P : X → Type 0) (xs : List X) → AllByRecursion P xs → list_any t xs ≡ true
    → Found t P xs
any_found t P [] h e = absurd (false≢true e)
any_found t P (x ∷ xs) h e = grind (arith, any_found t P xs h.1)

-- if values that pass one test pass another, and some element passes the first, some element passes the second
pub any_more : {X : Type 0} (t u : X → Bool) (xs : List X) → ((x : X) → t x ≡ true → u x ≡ true) → list_any t xs ≡ true
    → list_any u xs ≡ true
any_more t u [] h e = e
any_more t u (x ∷ xs) h e = grind (arith, h x, any_more t u xs h)

-- if P holds of all elements, and values with P that pass one test pass another, some element passing the first
-- passes the second
pub any_more_each : {X : Type 0} (P : X → Type 0) (t u : X → Bool) (xs : List X) → AllByRecursion P xs
    → ((x : X) → P x → t x ≡ true → u x ≡ true) → list_any t xs ≡ true → list_any u xs ≡ true
any_more_each P t u [] h f e = e
any_more_each P t u (x ∷ xs) h f e = grind (arith, f x h.0, any_more_each P t u xs h.1 f)

-- if values that pass one test pass another, and all elements pass the first, all pass the second
pub all_more : {X : Type 0} (t u : X → Bool) (xs : List X) → ((x : X) → t x ≡ true → u x ≡ true) → list_all t xs ≡ true
    → list_all u xs ≡ true
all_more t u [] h e = e
all_more t u (x ∷ xs) h e = let p = and_parts (t x) (list_all t xs) e in and_from _ _ (h x p.0) (all_more t u xs h p.1)

-- if all elements pass, and one more does, all pass with that one at the end
pub all_push : {X : Type 0} (t : X → Bool) (xs : List X) (x : X) → t x ≡ true → list_all t xs ≡ true
    → list_all t (xs ++ x ∷ []) ≡ true
all_push t xs x h e = list_all-append t xs (x ∷ []) ∙ and_from _ _ e (and_from _ _ h refl)

-- if all elements pass, and one more does, all pass after it is inserted
pub all_placed : {X : Type 0} (t : X → Bool) (before : X → X → Bool) (xs : List X) (x : X) → t x ≡ true
    → list_all t xs ≡ true → list_all t (with_inserted before xs x) ≡ true
all_placed t before [] x h e = and_from _ _ h refl
all_placed t before (y ∷ ys) x h e = grind (arith, all_placed t before ys x h)

-- if all elements pass, all that a filter keeps pass
pub all_filter : {X : Type 0} (t keep : X → Bool) (xs : List X) → list_all t xs ≡ true
    → list_all t (filter keep xs) ≡ true
all_filter t keep [] e = e
all_filter t keep (x ∷ xs) e = grind (arith, all_filter t keep xs)

-- if all elements pass, all pass without the first that passes another test
pub all_without : {X : Type 0} (t test : X → Bool) (xs : List X) → list_all t xs ≡ true
    → list_all t (without_first test xs) ≡ true
all_without t test [] e = e
all_without t test (x ∷ xs) e = grind (arith, all_without t test xs)

-- if some element passes, some element passes after one more is inserted
pub any_placed : {X : Type 0} (t : X → Bool) (before : X → X → Bool) (xs : List X) (x : X) → list_any t xs ≡ true
    → list_any t (with_inserted before xs x) ≡ true
any_placed t before [] x e = absurd (false≢true e)
any_placed t before (y ∷ ys) x e = grind (arith, any_placed t before ys x)

-- if some element passes, some element passes with one more at the end
pub any_push : {X : Type 0} (t : X → Bool) (xs : List X) (x : X) → list_any t xs ≡ true
    → list_any t (xs ++ x ∷ []) ≡ true
any_push t xs x e = list_any-append t xs (x ∷ []) ∙ or_left _ _ e

-- if the element that a search finds passes another test, some element passes that test
pub found_any : {X : Type 0} (test t : X → Bool) (xs : List X) (x : X) → find test xs ≡ Some x → t x ≡ true
    → list_any t xs ≡ true
found_any test t [] x e h = cc
found_any test t (y ∷ ys) x e h = grind (arith, found_any test t ys x)

-- if all elements pass a test, the one that a search by another test finds passes it
pub found_all : {X : Type 0} (test t : X → Bool) (xs : List X) (x : X) → find test xs ≡ Some x → list_all t xs ≡ true
    → t x ≡ true
found_all test t [] x e h = cc
found_all test t (y ∷ ys) x e h = grind (arith, found_all test t ys x)

-- a filter by a test that all elements pass keeps the whole list
pub keep_all : {X : Type 0} (t : X → Bool) (xs : List X) → list_all t xs ≡ true → filter t xs ≡ xs
keep_all t [] h = refl
keep_all t (x ∷ xs) h = grind (arith, keep_all t xs)

-- if two tests agree on all values, all elements pass the one exactly if all pass the other
pub all_same : {X : Type 0} (t u : X → Bool) (xs : List X) → ((x : X) → t x ≡ u x) → list_all t xs ≡ list_all u xs
all_same t u [] h = refl
all_same t u (x ∷ xs) h = rw (h x, all_same t u xs h) refl

-- each element passes a test that all values pass
pub all_true : {X : Type 0} (t : X → Bool) (xs : List X) → ((x : X) → t x ≡ true) → list_all t xs ≡ true
all_true t [] h = refl
all_true t (x ∷ xs) h = rw (h x, all_true t xs h) refl

-- a filter by a test that no element passes keeps nothing
pub none_kept : {X : Type 0} (t : X → Bool) (xs : List X) → list_all (λ x. not (t x)) xs ≡ true → filter t xs ≡ []
none_kept t [] h = refl
none_kept t (x ∷ xs) h = grind (arith, none_kept t xs)

-- the element that a search finds passes its test
pub find_passes : {X : Type 0} (test : X → Bool) (xs : List X) (x : X) → find test xs ≡ Some x → test x ≡ true
find_passes test [] x e = cc
find_passes test (y ∷ ys) x e = grind (arith, find_passes test ys x)

-- after an element is inserted, some element passes exactly if it does or some did before
pub any_of_placed : {X : Type 0} (t : X → Bool) (before : X → X → Bool) (xs : List X) (x : X)
    → list_any t (with_inserted before xs x) ≡ (t x || list_any t xs)
any_of_placed t before [] x = refl
any_of_placed t before (y ∷ ys) x = grind (arith, any_of_placed t before ys x)
