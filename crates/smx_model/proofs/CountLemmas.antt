-- The number of occurrences of a number in a list.
use Rattle.smx_model.proofs.Common.{◌≡◌, ℕ, ◌+◌, ◌≤◌, Bool, true, false, not, cond, eqb, List, [], ◌∷◌, ◌++◌, filter}
use Rattle.smx_model.proofs.Common.{refl, sym, subst, arith, inl, inr, list_any, IsPermutation, cases_Bool, eq-eqb}
use Rattle.smx_model.proofs.Common.{false≢true, with_inserted, in_rising_order, without_first, cases_eq, ne_eqb}
use Rattle.std.proofs.Common.{ltb}
use Rattle.std.proofs.lemmas.List.Sorted.{IsPermutation-refl, IsPermutation-cons, IsPermutation-trans}
use Rattle.std.proofs.lemmas.List.Sorted.{IsPermutation-sym, IsPermutation-to_front, IsPermutation-append_left}

-- the number of occurrences of n in a list
abbrev pub times : ℕ → List ℕ → ℕ
times n [] = 0
times n (m ∷ ms) = cond (eqb m n) 1 0 + times n ms

-- the count in two joined lists is the sum of the counts
pub times_append : (n : ℕ) (xs ys : List ℕ) → times n (xs ++ ys) ≡ times n xs + times n ys
times_append n [] ys = omega arith
times_append n (x ∷ xs) ys = omega (arith, times_append n xs ys)

-- inserting a number adds one to its count, and leaves the other counts
times_placed : (n : ℕ) (xs : List ℕ) (x : ℕ) → times n (with_inserted ltb xs x) ≡ cond (eqb x n) 1 0 + times n xs
times_placed n [] x = refl
times_placed n (y ∷ ys) x = grind (arith, times_placed n ys x)

-- sorting leaves all counts
pub times_rising : (n : ℕ) (xs : List ℕ) → times n (in_rising_order xs) ≡ times n xs
times_rising n [] = refl
times_rising n (x ∷ xs) = omega (arith, times_placed n (in_rising_order xs) x, times_rising n xs)

-- a filter leaves the count of a number that passes, and makes that of one that fails 0
pub times_filter : (n : ℕ) (test : ℕ → Bool) (xs : List ℕ) → times n (filter test xs) ≡ cond (test n) (times n xs) 0
times_filter n test [] = elim (cases_Bool (test n)) [ inl t ↦ rw t refl | inr f ↦ rw f refl ]
times_filter n test (x ∷ xs) = grind (arith, times_filter n test xs, times n (filter test xs), times n xs)

-- a number that equals no element has the count 0
pub times_none : (n : ℕ) (xs : List ℕ) → list_any (λ m. eqb n m) xs ≡ false → times n xs ≡ 0
times_none n [] h = refl
times_none n (x ∷ xs) h = grind (arith, times_none n xs)

-- a number that equals some element has a count of at least one
pub times_some : (n : ℕ) (xs : List ℕ) → list_any (λ m. eqb n m) xs ≡ true → 1 ≤ times n xs
times_some n [] h = absurd (false≢true h)
times_some n (x ∷ xs) h = grind (arith, times_some n xs)

-- if a number is at most once in the old list, and no more often in the new one, the removed numbers and the new list
-- together have it as often as the old list
pub times_gone : (n : ℕ) (old new : List ℕ) → times n new ≤ times n old → times n old ≤ 1
    → times n (in_rising_order (filter (λ m. not (list_any (λ k. eqb m k) new)) old)) + times n new ≡ times n old
times_gone n old new fewer once = grind (arith, times_rising, times_filter, times, times_some, times_none)

-- the list without the first occurrence of this number
abbrev without_one : ℕ → List ℕ → List ℕ
without_one n ms = without_first (λ m. eqb m n) ms

-- exchanging the first two numbers of a list permutes it
swap_two : (x y : ℕ) (xs : List ℕ) → IsPermutation (x ∷ y ∷ xs) (y ∷ x ∷ xs)
swap_two x y xs = IsPermutation-append_left xs (x ∷ y ∷ []) (y ∷ x ∷ [])
    (IsPermutation-sym (y ∷ x ∷ []) (x ∷ y ∷ []) (IsPermutation-to_front (y ∷ []) x))

-- moving one number of a list to its front permutes it
one_in_front : (n : ℕ) (xs : List ℕ) → 1 ≤ times n xs → IsPermutation (n ∷ without_one n xs) xs
one_in_front n [] h = absurd (omega arith)
one_in_front n (x ∷ xs) h = elim (cases_eq x n) [
  | inl e ↦ rw (eq-eqb x n e) (subst (λ (y : ℕ). IsPermutation (n ∷ xs) (y ∷ xs)) (sym e) (IsPermutation-refl (n ∷ xs)))
  | inr ne ↦ let z : eqb x n ≡ false = ne_eqb x n ne in
      rw z (IsPermutation-trans (n ∷ x ∷ without_one n xs) (x ∷ n ∷ without_one n xs) (x ∷ xs)
      (swap_two n x (without_one n xs))
      (IsPermutation-cons x (n ∷ without_one n xs) xs (one_in_front n xs (omega (arith, rw z at h)))))
]

-- removing one occurrence of a number takes one from its count, and leaves the other counts
times_without : (n m : ℕ) (xs : List ℕ) → 1 ≤ times m xs → times n xs ≡ cond (eqb m n) 1 0 + times n (without_one m xs)
times_without n m [] h = absurd (omega arith)
times_without n m (x ∷ xs) h = grind (arith, times_without n m xs)

-- a list in which each number has the count 0 is empty
none_counted : (xs : List ℕ) → ((n : ℕ) → 0 ≡ times n xs) → xs ≡ []
none_counted [] h = refl
none_counted (x ∷ xs) h = let k = h x in absurd (omega (arith, rw (eq-eqb x x refl) at k))

-- two lists with the same counts are permutations of each other
pub permuted : (xs ys : List ℕ) → ((n : ℕ) → times n xs ≡ times n ys) → IsPermutation xs ys
permuted [] ys h = subst (λ (zs : List ℕ). IsPermutation [] zs) (sym (none_counted ys h)) (IsPermutation-refl [])
permuted (x ∷ xs) ys h =
    let k = h x in
    let some : 1 ≤ times x ys = omega (arith, rw (eq-eqb x x refl) at k) in
    IsPermutation-trans (x ∷ xs) (x ∷ without_one x ys) ys
    (IsPermutation-cons x xs (without_one x ys)
    (permuted xs (without_one x ys) (λ n. omega (arith, h n, times_without n x ys some))))
    (one_in_front x ys some)
