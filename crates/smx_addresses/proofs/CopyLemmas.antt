-- A list that is built again, element by element.
use Rattle.smx_model.proofs.Common.{◌≡◌, ℕ, zero, suc, ◌+◌, ◌<◌, Bool, false, true, List, [], ◌∷◌, ◌++◌, length, get_or}
use Rattle.smx_model.proofs.Common.{take, filter, not, refl, sym, ap, ◌∙◌, arith, list_any, AllByRecursion, or_from}
use Rattle.smx_model.proofs.Common.{or_parts, nat_tests, take_more, Binding, Route, pair_before, with_inserted}
use Rattle.smx_model.proofs.Common.{IsRising}
use Rattle.smx_addresses.specs.BindingLists.{address_of, stream_of, is_taken, IsBindingList}
use Rattle.smx_addresses.specs.Keys.{Key, is_key, by_key, AreApart}
use Rattle.smx_addresses.specs.RouteLists.{target_of, IsRouteList}
use Rattle.smx_addresses.proofs.BindingLemmas.{either_any}
use Rattle.smx_addresses.proofs.KeyLemmas.{filter_all, is_key_sym}
use Rattle.smx_addresses.proofs.OrderLemmas.{apart_rising}

-- one element

-- a property of all elements holds of the element at an index
each_at : {X : Type 0} (P : X → Type 0) (xs : List X) (i : ℕ) (d : X) → AllByRecursion P xs → i < length xs
    → P (get_or xs i d)
each_at P [] i d h lt = absurd (omega arith)
each_at P (x ∷ xs) zero d h lt = h.0
each_at P (x ∷ xs) (suc i) d h lt = each_at P xs i d h.1 (omega arith)

-- a test that no element passes fails at each index
none_at : {X : Type 0} (test : X → Bool) (xs : List X) (i : ℕ) (d : X) → list_any test xs ≡ false → i < length xs
    → test (get_or xs i d) ≡ false
none_at test [] i d h lt = absurd (omega arith)
none_at test (x ∷ xs) zero d h lt = (or_parts (test x) (list_any test xs) h).0
none_at test (x ∷ xs) (suc i) d h lt = none_at test xs i d (or_parts (test x) (list_any test xs) h).1 (omega arith)

-- of two keys, the later one does not come before the earlier one
later_not_before : (p q : Key) → pair_before p.0 p.1 q.0 q.1 ≡ true → pair_before q.0 q.1 p.0 p.1 ≡ false
later_not_before p q h = grind (arith, nat_tests)

-- the elements before an index

module _ {X : Type 0} (key : X → Key) where
  -- if no key occurs twice, no earlier element has the key of the element at the index
  pub earlier_free : (xs : List X) (i : ℕ) (d : X) → AreApart key xs → i < length xs
      → list_any (λ y. is_key (key y) (key (get_or xs i d))) (take i xs) ≡ false
  earlier_free [] i d h lt = absurd (omega arith)
  earlier_free (x ∷ xs) zero d h lt = refl
  earlier_free (x ∷ xs) (suc i) d h lt = or_from _ _
      (is_key_sym (key x) (key (get_or xs i d)) ∙ none_at (λ y. is_key (key y) (key x)) xs i d h.0 (omega arith))
      (earlier_free xs i d h.1 (omega arith))

  -- in a rising list, the element at an index is inserted at the end of the earlier ones
  at_end : (xs : List X) (i : ℕ) (d : X) → IsRising (by_key key) xs → i < length xs
      → with_inserted (by_key key) (take i xs) (get_or xs i d) ≡ take i xs ++ get_or xs i d ∷ []
  at_end [] i d h lt = absurd (omega arith)
  at_end (x ∷ xs) zero d h lt = refl
  at_end (x ∷ xs) (suc i) d h lt =
      let before : by_key key x (get_or xs i d) ≡ true =
      each_at (λ y. by_key key x y ≡ true) xs i d h.0 (omega arith) in
      rw (later_not_before (key x) (key (get_or xs i d)) before)
      (ap (λ (ys : List X). x ∷ ys) (at_end xs i d h.1 (omega arith)))

  -- so the earlier elements and this one are one element more
  pub inserted_next : (xs : List X) (i : ℕ) (d : X) → IsRising (by_key key) xs → i < length xs
      → with_inserted (by_key key) (take i xs) (get_or xs i d) ≡ take (i + 1) xs
  inserted_next xs i d h lt = at_end xs i d h lt ∙ sym (take_more xs i d lt)

-- the binding at an index can be added to the earlier ones
pub binding_free : (bs : List Binding) (i : ℕ) (d : Binding) → IsBindingList bs → i < length bs
    → is_taken (take i bs) (record { driver = (get_or bs i d).driver; minor = (get_or bs i d).minor })
    (get_or bs i d).addr ≡ false
binding_free bs i d h lt =
    let b : Binding = get_or bs i d in
    either_any b.driver b.addr b.minor (take i bs)
    ∙ or_from _ _ (earlier_free address_of bs i d (apart_rising address_of bs h.rise) lt)
    (earlier_free stream_of bs i d h.streams lt)

-- the route at an index replaces none of the earlier ones
pub route_next : (rs : List Route) (i : ℕ) (d : Route) → IsRouteList rs → i < length rs
    → with_inserted (by_key target_of)
    (filter (λ r. not (is_key (target_of r) (target_of (get_or rs i d)))) (take i rs)) (get_or rs i d)
    ≡ take (i + 1) rs
route_next rs i d h lt =
    rw (filter_all (λ r. is_key (target_of r) (target_of (get_or rs i d))) (take i rs)
    (earlier_free target_of rs i d (apart_rising target_of rs h) lt))
    (inserted_next target_of rs i d h lt)
