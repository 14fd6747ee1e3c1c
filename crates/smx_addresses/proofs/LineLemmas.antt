-- The entries of a table, sorted by their keys, are its list.
use Rattle.smx_model.proofs.Common.{◌≡◌, ℕ, ◌+◌, true, false, List, [], ◌∷◌, map, refl, subst, ◌∙◌, arith, inl, inr}
use Rattle.smx_model.proofs.Common.{AllByRecursion, IsPermutation, lookup, keys_of, cases_Bool, nat_tests}
use Rattle.smx_model.proofs.Common.{ComesBefore, IsRising}
use Rattle.std.specs.List.{IsDistinct, slice_index_or}
use Rattle.std.specs.Cmp.{IsTotalOrder}
use Rattle.std.specs.declared.cmp.Ordering.{Ordering}
use Rattle.std.specs.declared.cmp.Ordering.TheVariants.{Less}
use Rattle.std.specs.List.Sorted.{IsSortedByKey, IsStrictlySortedBy}
use Rattle.std.specs.Ordering.{is_lt, nat_cmp, ordering_then, on}
use Rattle.std.proofs.lemmas.Cmp.{nat_cmp_total, on_total, then_total}
use Rattle.std.proofs.lemmas.List.Sorted.{IsPermutation-map}
use Rattle.std.proofs.lemmas.Map.Keys.{IsDistinct-IsPermutation, apart_from_distinct, sorted_from_all_adjacent}
use Rattle.std.proofs.lemmas.Map.Keys.{sorted_head, sorted_tail}
use Rattle.indexmap.proofs.MapLemmas.{lookup_permutation}
use Rattle.smx_addresses.specs.Keys.{Key, is_key, found, by_key}
use Rattle.smx_addresses.specs.TableFields.{Entries}
use Rattle.smx_addresses.proofs.KeyLemmas.{is_key_sym, is_key_congr, keys_equal}
use Rattle.smx_addresses.proofs.OrderLemmas.{rising_same}
use Rattle.smx_addresses.proofs.ListedTableLemmas.{Stands}

-- the order of pairs of unsigned numbers
abbrev pub key_cmp : Key → Key → Ordering
key_cmp p q = ordering_then (nat_cmp p.0 q.0) (nat_cmp p.1 q.1)

-- the order of keys is a total order
key_total : IsTotalOrder key_cmp
key_total = then_total (on_total (λ (p : Key). p.0) nat_cmp_total) (on_total (λ (p : Key). p.1) nat_cmp_total)

-- if a key is not less than another, and they differ, the other is less than it
key_less : (p q : Key) → is_lt (key_cmp q p) ≡ false → is_key p q ≡ false → key_cmp p q ≡ Less
key_less p q h k = grind (arith, nat_tests)

-- a key that is less than another comes before it
less_before : (p q : Key) → key_cmp p q ≡ Less → by_key (λ (k : Key). k) p q ≡ true
less_before p q h = grind (arith, nat_tests)

module _ {X : Type 0} (key : X → Key) (value : X → ℕ) where
  -- an element as an entry of a table: its key and its value
  abbrev pub pair : X → Key × ℕ
  pair x = (key x, value x)

  found_lookup : (xs : List X) (q : Key) → found key value xs q ≡ lookup (is_key q) (map pair xs)
  found_lookup [] q = refl
  found_lookup (x ∷ xs) q =
      elim (cases_Bool (is_key q (key x))) [ inl t ↦ rw t refl | inr f ↦ rw f (found_lookup xs q) ]

  none_alike : (x : X) (ys : List X) → AllByRecursion (λ k. is_key (key x) k ≡ false) (keys_of (map pair ys))
      → AllByRecursion (λ y. is_key (key x) (key y) ≡ false) ys
  none_alike x [] h = tt
  none_alike x (y ∷ ys) h = (h.0, none_alike x ys h.1)

  distinct_on : (ys : List X) → IsDistinct is_key (keys_of (map pair ys))
      → IsDistinct (λ x y. is_key (key x) (key y)) ys
  unfolding IsDistinct
  distinct_on [] h = tt
  distinct_on (y ∷ ys) h = (none_alike y ys h.0, distinct_on ys h.1)

  strict : (ys : List X) → IsSortedByKey key key_cmp ys → IsDistinct (λ x y. is_key (key x) (key y)) ys
      → IsStrictlySortedBy (on key key_cmp) ys
  unfolding IsStrictlySortedBy
  strict [] h d = tt
  strict (y ∷ ys) h d = sorted_from_all_adjacent (on_total key key_total) (y ∷ ys) y (λ k l.
      key_less (key (slice_index_or (y ∷ ys) k y)) (key (slice_index_or (y ∷ ys) (k + 1) y)) (h k y (omega arith) l)
      (apart_from_distinct (λ x y. is_key (key x) (key y)) (y ∷ ys) k (k + 1) y d (omega arith) l))

  first_before : (x : X) (ys : List X) → AllByRecursion (λ y. key_cmp (key x) (key y) ≡ Less) ys
      → ComesBefore (by_key key) x ys
  first_before x [] h = tt
  first_before x (y ∷ ys) h = (less_before (key x) (key y) h.0, first_before x ys h.1)

  rising_from_strict : (ys : List X) → IsStrictlySortedBy (on key key_cmp) ys → IsRising (by_key key) ys
  rising_from_strict [] h = tt
  rising_from_strict (y ∷ ys) h = (
    first_before y ys (sorted_head (on key key_cmp) y ys h),
    rising_from_strict ys (sorted_tail (on key key_cmp) y ys h),
  )

  module _ (exact : (x y : X) → key x ≡ key y → value x ≡ value y → x ≡ y) (make : Key × ℕ → X)
      (whole : (e : Key × ℕ) → pair (make e) ≡ e) where
    made : (es : Entries) → map pair (map make es) ≡ es
    made [] = refl
    made (e ∷ es) = (λ i. whole e i ∷ made es i)

    -- for any list with the elements of the table
    pub sorted_lines : (es : Entries) (xs ys : List X) → IsPermutation (map make es) ys → IsSortedByKey key key_cmp ys
        → IsDistinct is_key (keys_of es) → Stands key value es xs → ys ≡ xs
    sorted_lines es xs ys moves sorted unique stands =
        let same : IsPermutation es (map pair ys) = subst (λ (fs : Entries). IsPermutation fs (map pair ys)) (made es)
        (IsPermutation-map pair _ _ moves) in
        let apart : IsDistinct is_key (keys_of (map pair ys)) = IsDistinct-IsPermutation is_key is_key_sym
        (keys_of es) _ (IsPermutation-map (λ (e : Key × ℕ). e.0) _ _ same) unique in
        rising_same key value exact ys xs (rising_from_strict ys (strict ys sorted (distinct_on ys apart))) stands.rises
        (λ q.
        found_lookup ys q ∙ lookup_permutation keys_equal es (map pair ys) same apart (is_key q)
        (λ x y t. is_key_congr q x y t) ∙ stands.finds q)
