-- Rising lists: with one more element, with fewer, and determined by their look-ups.
use Rattle.smx_model.proofs.Common.{◌≡◌, ℕ, Bool, true, false, List, [], ◌∷◌, filter, Some, None, refl, sym, ap, ◌∙◌}
use Rattle.smx_model.proofs.Common.{arith, inl, inr, list_any, cases_Bool, nat_tests, same_Some, pair_before}
use Rattle.smx_model.proofs.Common.{with_inserted, ComesBefore, IsRising}
use Rattle.smx_addresses.specs.Keys.{Key, is_key, found, by_key, AreApart}
use Rattle.smx_addresses.proofs.KeyLemmas.{is_key_refl, is_key_sym, key_same}

-- keys in their order

-- the order of keys is transitive
before_trans : (p q r : Key) → pair_before p.0 p.1 q.0 q.1 ≡ true → pair_before q.0 q.1 r.0 r.1 ≡ true
    → pair_before p.0 p.1 r.0 r.1 ≡ true
before_trans p q r h k = grind (arith, nat_tests)

-- a key before another differs from it
before_apart : (p q : Key) → pair_before p.0 p.1 q.0 q.1 ≡ true → is_key p q ≡ false
before_apart p q h = grind (arith, nat_tests)

-- one key comes before the other, or they are equal
before_else : (p q : Key) → pair_before p.0 p.1 q.0 q.1 ≡ false → pair_before q.0 q.1 p.0 p.1 ≡ false
    → is_key p q ≡ true
before_else p q h k = grind (arith, nat_tests)

-- an element with another key comes after or before
before_other : (p q : Key) → is_key q p ≡ false → pair_before p.0 p.1 q.0 q.1 ≡ false
    → pair_before q.0 q.1 p.0 p.1 ≡ true
before_other p q h k = grind (arith, nat_tests)

-- fewer elements

module _ {X : Type 0} (before : X → X → Bool) (keep : X → Bool) where
  before_filter : (x : X) (xs : List X) → ComesBefore before x xs → ComesBefore before x (filter keep xs)
  before_filter x [] h = tt
  before_filter x (y ∷ ys) h =
      elim (cases_Bool (keep y)) [ inl t ↦ rw t (h.0, before_filter x ys h.1) | inr f ↦ rw f (before_filter x ys h.1) ]

  -- a rising list still rises after a filter
  pub rising_filter : (xs : List X) → IsRising before xs → IsRising before (filter keep xs)
  rising_filter [] h = tt
  rising_filter (x ∷ xs) h = elim (cases_Bool (keep x))
      [ inl t ↦ rw t (before_filter x xs h.0, rising_filter xs h.1) | inr f ↦ rw f (rising_filter xs h.1) ]

-- one more element

module _ {X : Type 0} (key : X → Key) where
  before_all : (x y : X) (ys : List X) → by_key key x y ≡ true → ComesBefore (by_key key) y ys
      → ComesBefore (by_key key) x ys
  before_all x y [] h k = tt
  before_all x y (z ∷ zs) h k = (before_trans (key x) (key y) (key z) h k.0, before_all x y zs h k.1)

  before_inserted : (y x : X) (xs : List X) → by_key key y x ≡ true → ComesBefore (by_key key) y xs
      → ComesBefore (by_key key) y (with_inserted (by_key key) xs x)
  before_inserted y x [] h k = (h, tt)
  before_inserted y x (z ∷ zs) h k =
      elim (cases_Bool (by_key key x z)) [ inl t ↦ rw t (h, k) | inr f ↦ rw f (k.0, before_inserted y x zs h k.1) ]

  -- a new element with a new key
  pub rising_inserted : (x : X) (xs : List X) → list_any (λ y. is_key (key y) (key x)) xs ≡ false
      → IsRising (by_key key) xs → IsRising (by_key key) (with_inserted (by_key key) xs x)
  rising_inserted x [] new h = (tt, tt)
  rising_inserted x (y ∷ ys) new h = elim (cases_Bool (is_key (key y) (key x))) [
    | inl s ↦ let k : true ≡ false = rw s at new in absurd cc
    | inr d ↦ elim (cases_Bool (by_key key x y)) [
      | inl t ↦ rw t ((t, before_all x y ys t h.0), h)
      | inr f ↦ rw f (
        before_inserted y x ys (before_other (key x) (key y) d f) h.0,
        rising_inserted x ys (rw d at new) h.1,
      )
    ]
  ]

  later_apart : (x : X) (ys : List X) → ComesBefore (by_key key) x ys
      → list_any (λ y. is_key (key y) (key x)) ys ≡ false
  later_apart x [] h = refl
  later_apart x (y ∷ ys) h = rw (is_key_sym (key y) (key x) ∙ before_apart (key x) (key y) h.0) (later_apart x ys h.1)

  -- rising keys differ
  pub apart_rising : (xs : List X) → IsRising (by_key key) xs → AreApart key xs
  apart_rising [] h = tt
  apart_rising (x ∷ xs) h = (later_apart x xs h.0, apart_rising xs h.1)

-- two rising lists with the same look-ups are equal

module _ {X : Type 0} (key : X → Key) (value : X → ℕ) where
  -- an element that comes before all others is not among them
  found_before : (x : X) (ys : List X) → ComesBefore (by_key key) x ys → found key value ys (key x) ≡ None
  found_before x [] h = refl
  found_before x (y ∷ ys) h = rw (before_apart (key x) (key y) h.0) (found_before x ys h.1)

  found_past : (x y : X) (ys : List X) → by_key key x y ≡ true → ComesBefore (by_key key) y ys
      → found key value ys (key x) ≡ None
  found_past x y [] t h = refl
  found_past x y (z ∷ zs) t h =
      rw (before_apart (key x) (key z) (before_trans (key x) (key y) (key z) t h.0)) (found_past x y zs t h.1)

  -- the first element of one list is missing in the other
  missing : (x y : X) (xs ys : List X) → by_key key x y ≡ true → ComesBefore (by_key key) y ys
      → found key value (x ∷ xs) (key x) ≡ found key value (y ∷ ys) (key x) → ⊥
  missing x y xs ys t h e =
      let a : found key value (x ∷ xs) (key x) ≡ Some (value x) = rw (is_key_refl (key x)) refl in
      let b : found key value (y ∷ ys) (key x) ≡ None = rw (before_apart (key x) (key y) t) (found_past x y ys t h) in
      let none : Some (value x) ≡ None = sym a ∙ e ∙ b in cc

  module _ (exact : (x y : X) → key x ≡ key y → value x ≡ value y → x ≡ y) where
    -- two rising lists with the same look-up at each key are equal
    pub rising_same : (xs ys : List X) → IsRising (by_key key) xs → IsRising (by_key key) ys
        → ((k : Key) → found key value xs k ≡ found key value ys k) → xs ≡ ys
    rising_same [] [] r s h = refl
    rising_same [] (y ∷ ys) r s h =
        let a : found key value (y ∷ ys) (key y) ≡ Some (value y) = rw (is_key_refl (key y)) refl in
        let none : None ≡ Some (value y) = h (key y) ∙ a in cc
    rising_same (x ∷ xs) [] r s h =
        let a : found key value (x ∷ xs) (key x) ≡ Some (value x) = rw (is_key_refl (key x)) refl in
        let none : Some (value x) ≡ None = sym a ∙ h (key x) in cc
    rising_same (x ∷ xs) (y ∷ ys) r s h = elim (cases_Bool (by_key key x y)) [
      | inl t ↦ absurd (missing x y xs ys t s.0 (h (key x)))
      | inr f ↦ elim (cases_Bool (by_key key y x)) [
        | inl t ↦ absurd (missing y x ys xs t r.0 (sym (h (key y))))
        | inr g ↦
            let same : key x ≡ key y = key_same (key x) (key y) (before_else (key x) (key y) f g) in
            let a : found key value (x ∷ xs) (key x) ≡ Some (value x) = rw (is_key_refl (key x)) refl in
            let b : found key value (y ∷ ys) (key x) ≡ Some (value y) = rw (before_else (key x) (key y) f g) refl in
            let one = same_Some (value x) (value y) (sym a ∙ h (key x) ∙ b) in
            let first : x ≡ y = exact x y same one in
            let rest : xs ≡ ys = rising_same xs ys r.1 s.1 (λ k. elim (cases_Bool (is_key k (key x))) [
              | inl at ↦
                  let here : k ≡ key x = key_same k (key x) at in
                  ap (found key value xs) here ∙ found_before x xs r.0 ∙ sym (found_before y ys s.0)
                  ∙ ap (found key value ys) (sym same ∙ sym here)
              | inr off ↦
                  let c : found key value (x ∷ xs) k ≡ found key value xs k = rw off refl in
                  let d : found key value (y ∷ ys) k ≡ found key value ys k = rw (sym (ap (is_key k) same) ∙ off)
                  refl in
                  sym c ∙ h k ∙ d
            ]) in
            (λ i. first i ∷ rest i)
      ]
    ]
    -- elements in order, as many as a rising list has, each of which is found there, are that list
