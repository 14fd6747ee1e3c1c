-- Look-ups in a list after one more element is inserted, and after some are removed.
use Rattle.smx_model.proofs.Common.{◌≡◌, ℕ, Bool, true, false, cond, not, List, [], ◌∷◌, filter, find, is_some, Some}
use Rattle.smx_model.proofs.Common.{None, refl, sym, ap, ◌∙◌, arith, inl, inr, list_any, option_map, cases_Bool}
use Rattle.smx_model.proofs.Common.{false_from_ne_true, false≢true, or_from, or_parts, nat_tests, with_inserted}
use Rattle.std.specs.Cmp.{IsEquivalence}
use Rattle.smx_model.proofs.TestLemmas.{any_of_placed}
use Rattle.smx_addresses.specs.Keys.{Key, is_key, found, AreApart}

-- equal keys

-- equality of keys is symmetric
pub is_key_sym : (p q : Key) → is_key p q ≡ is_key q p
is_key_sym p q = grind (arith, nat_tests)

-- each key is equal to itself
pub is_key_refl : (p : Key) → is_key p p ≡ true
is_key_refl p = grind (arith, nat_tests)

-- keys that are equal to a third are equal to one another
pub is_key_trans : (p q r : Key) → is_key p q ≡ true → is_key q r ≡ true → is_key p r ≡ true
is_key_trans p q r h k = grind (arith, nat_tests)

-- equal keys pass the same tests
pub is_key_congr : (p q r : Key) → is_key p q ≡ true → is_key p r ≡ is_key q r
is_key_congr p q r h = grind (arith, nat_tests)

-- keys that pass the test for equality are equal
pub key_same : (p q : Key) → is_key p q ≡ true → p ≡ q
key_same p q h = grind (arith, nat_tests)

-- equality of keys is an equivalence, as look-ups in maps require
pub keys_equal : IsEquivalence is_key
keys_equal = record { refl = is_key_refl; symm = is_key_sym; congr = λ p q r h. is_key_congr p q r h }

-- look-ups

module _ {X : Type 0} (key : X → Key) (value : X → ℕ) where
  -- some element has a key exactly if the look-up finds a value
  pub found_any : (xs : List X) (k : Key) → is_some (found key value xs k) ≡ list_any (λ x. is_key (key x) k) xs
  found_any [] k = refl
  found_any (x ∷ xs) k = rw (is_key_sym k (key x))
      (elim (cases_Bool (is_key (key x) k)) [ inl t ↦ rw t refl | inr f ↦ rw f (found_any xs k) ])

  -- the search and the look-up, for an element that is made of its key and its value
  pub found_find : (make : Key → ℕ → X) → ((x : X) → make (key x) (value x) ≡ x) → (xs : List X) (k : Key)
      → find (λ x. is_key (key x) k) xs ≡ option_map (make k) (found key value xs k)
  found_find make whole [] k = refl
  found_find make whole (x ∷ xs) k = rw (is_key_sym k (key x)) (elim (cases_Bool (is_key (key x) k)) [
    | inl t ↦ rw t (ap (λ (y : X). Some y) (sym (whole x) ∙ ap (λ (q : Key). make q (value x)) (key_same (key x) k t)))
    | inr f ↦ rw f (found_find make whole xs k)
  ])

  -- if no element has the key, nothing is found
  pub found_none : (xs : List X) (k : Key) → list_any (λ x. is_key (key x) k) xs ≡ false → found key value xs k ≡ None
  found_none [] k h = refl
  found_none (x ∷ xs) k h =
      let p = or_parts (is_key (key x) k) (list_any (λ x. is_key (key x) k) xs) h in
      rw (is_key_sym k (key x), p.0) (found_none xs k p.1)

  -- a new element with a new key
  pub found_inserted : (before : X → X → Bool) (xs : List X) (x : X) (q : Key)
      → list_any (λ y. is_key (key y) (key x)) xs ≡ false
      → found key value (with_inserted before xs x) q ≡ cond (is_key (key x) q) (Some (value x)) (found key value xs q)
  found_inserted before [] x q h = rw (is_key_sym q (key x)) refl
  found_inserted before (y ∷ ys) x q h = elim (cases_Bool (before x y)) [
    | inl t ↦ rw (t, is_key_sym q (key x)) refl
    | inr f ↦
        let p = or_parts (is_key (key y) (key x)) (list_any (λ z. is_key (key z) (key x)) ys) h in
        rw f (elim (cases_Bool (is_key q (key y))) [
          | inl a ↦ elim (cases_Bool (is_key (key x) q)) [
            | inl b ↦ absurd (false≢true (sym p.0 ∙ is_key_sym (key y) (key x) ∙ is_key_trans (key x) q (key y) b a))
            | inr b ↦ rw (a, b) refl
          ]
          | inr a ↦ rw a (found_inserted before ys x q p.1)
        ])
  ]

  -- without the elements that have the key
  pub found_filter : (xs : List X) (k q : Key)
      → found key value (filter (λ x. not (is_key (key x) k)) xs) q ≡ cond (is_key k q) None (found key value xs q)
  found_filter [] k q = elim (cases_Bool (is_key k q)) [ inl t ↦ rw t refl | inr f ↦ rw f refl ]
  found_filter (x ∷ xs) k q = elim (cases_Bool (is_key (key x) k)) [
    | inl t ↦ rw t (elim (cases_Bool (is_key k q)) [
      | inl a ↦ rw a (found_filter xs k q ∙ rw a refl)
      | inr a ↦ rw (a, is_key_sym q (key x), is_key_congr (key x) k q t, a) (found_filter xs k q ∙ rw a refl)
    ])
    | inr f ↦ rw f (elim (cases_Bool (is_key q (key x))) [
      | inl a ↦ rw (a, is_key_sym k q ∙ is_key_congr q (key x) k a ∙ f) refl
      | inr a ↦ rw a (found_filter xs k q)
    ])
  ]

-- tests of all elements

module _ {X : Type 0} where
  -- if no element passes a test, none of fewer elements does
  pub any_filter : (test keep : X → Bool) (xs : List X) → list_any test xs ≡ false
      → list_any test (filter keep xs) ≡ false
  any_filter test keep [] h = refl
  any_filter test keep (x ∷ xs) h =
      let p = or_parts (test x) (list_any test xs) h in
      let rest = any_filter test keep xs p.1 in
      elim (cases_Bool (keep x)) [ inl k ↦ rw (k, p.0) rest | inr k ↦ rw k rest ]

  -- if no element passes a test, none is removed
  pub filter_all : (test : X → Bool) (xs : List X) → list_any test xs ≡ false → filter (λ x. not (test x)) xs ≡ xs
  filter_all test [] h = refl
  filter_all test (x ∷ xs) h =
      let p = or_parts (test x) (list_any test xs) h in
      rw p.0 (ap (λ (ys : List X). x ∷ ys) (filter_all test xs p.1))

  -- two tests with the same results
  pub any_same : (p q : X → Bool) → ((x : X) → p x ≡ q x) → (xs : List X) → list_any p xs ≡ list_any q xs
  any_same p q e [] = refl
  any_same p q e (x ∷ xs) = rw (e x, any_same p q e xs) refl

  -- a test that is true only if another is
  pub none_of : (p q : X → Bool) → ((x : X) → p x ≡ true → q x ≡ true) → (xs : List X) → list_any q xs ≡ false
      → list_any p xs ≡ false
  none_of p q h [] e = refl
  none_of p q h (x ∷ xs) e =
      let s = or_parts (q x) (list_any q xs) e in
      or_from _ _ (false_from_ne_true (p x) (λ t. false≢true (sym s.0 ∙ h x t))) (none_of p q h xs s.1)

-- lists without duplicate keys

module _ {X : Type 0} (key : X → Key) where
  -- fewer elements
  pub apart_filter : (keep : X → Bool) (xs : List X) → AreApart key xs → AreApart key (filter keep xs)
  apart_filter keep [] h = tt
  apart_filter keep (x ∷ xs) h = elim (cases_Bool (keep x)) [
    | inl t ↦ rw t (any_filter (λ y. is_key (key y) (key x)) keep xs h.0, apart_filter keep xs h.1)
    | inr f ↦ rw f (apart_filter keep xs h.1)
  ]

  any_inserted : (before : X → X → Bool) (test : X → Bool) (xs : List X) (x : X) → test x ≡ false
      → list_any test xs ≡ false → list_any test (with_inserted before xs x) ≡ false
  any_inserted before test xs x f h = any_of_placed test before xs x ∙ or_from _ _ f h

  -- a new element with a new key
  pub apart_inserted : (before : X → X → Bool) (xs : List X) (x : X) → list_any (λ y. is_key (key y) (key x)) xs ≡ false
      → AreApart key xs → AreApart key (with_inserted before xs x)
  apart_inserted before [] x new h = (refl, tt)
  apart_inserted before (y ∷ ys) x new h = elim (cases_Bool (before x y)) [
    | inl t ↦ rw t (new, h)
    | inr n ↦
        let p = or_parts (is_key (key y) (key x)) (list_any (λ z. is_key (key z) (key x)) ys) new in
        rw n (
          any_inserted before (λ z. is_key (key z) (key y)) ys x (is_key_sym (key x) (key y) ∙ p.0) h.0,
          apart_inserted before ys x p.1 h.1,
        )
  ]
