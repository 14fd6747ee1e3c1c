-- The list that corresponds to a table.
use Rattle.smx_model.proofs.Common.{◌≡◌, ℕ, ◌+◌, Bool, false, cond, List, [], ◌∷◌, length, is_some, Some, None, refl}
use Rattle.smx_model.proofs.Common.{sym, ap, ◌∙◌, arith, list_any, AllByRecursion, lookup}
use Rattle.smx_model.proofs.Common.{keys_of, with_inserted, IsRising}
use Rattle.std.specs.List.{IsDistinct}
use Rattle.std.proofs.lemmas.Map.Keys.{IsDistinct-head, IsDistinct-tail}
use Rattle.smx_addresses.specs.Keys.{Key, is_key, by_key}
use Rattle.smx_addresses.specs.TableFields.{Entries, Finds, in_order}
use Rattle.smx_addresses.proofs.KeyLemmas.{is_key_sym, found_any}
use Rattle.smx_addresses.proofs.ChangeLemmas.{finds_inserted}
use Rattle.smx_addresses.proofs.OrderLemmas.{rising_same, rising_inserted}

-- if no entry has a key, a look-up by it finds nothing
absent : (k : Key) (es : Entries) → AllByRecursion (λ y. is_key k y ≡ false) (keys_of es) → lookup (is_key k) es ≡ None
absent k [] h = refl
absent k (e ∷ es) h = rw h.0 (absent k es h.1)

-- a list with one element inserted is longer by one
pub length_inserted : {X : Type 0} (before : X → X → Bool) (xs : List X) (x : X)
    → length (with_inserted before xs x) ≡ length xs + 1
length_inserted before [] x = refl
length_inserted before (y ∷ ys) x = grind (arith, length_inserted before ys x)

-- the list is as long as the table
pub length_in_order : {X : Type 0} (before : X → X → Bool) (make : Key × ℕ → X) (es : Entries)
    → length (in_order before make es) ≡ length es
length_in_order before make [] = refl
length_in_order before make (e ∷ es) = grind (arith, length_inserted, length_in_order before make es)

module _ {X : Type 0} (key : X → Key) (value : X → ℕ) where
  -- the list rises, and a look-up in the table finds what a look-up in the list finds
  pub record Stands (es : Entries) (xs : List X) : Type 0 where
    pub rises : IsRising (by_key key) xs
    pub finds : Finds key value xs es

  module _ (exact : (x y : X) → key x ≡ key y → value x ≡ value y → x ≡ y) (make : Key × ℕ → X)
      (keyed : (e : Key × ℕ) → key (make e) ≡ e.0) (valued : (e : Key × ℕ) → value (make e) ≡ e.1) where
    -- if no key occurs twice, the sorted elements of a table correspond to it
    pub in_order_stands : (es : Entries) → IsDistinct is_key (keys_of es) → Stands es (in_order (by_key key) make es)
    in_order_stands [] h = record { rises = tt; finds = λ k. refl }
    in_order_stands (e ∷ es) h =
        let rest = in_order_stands es (IsDistinct-tail is_key e.0 (keys_of es) h) in
        let new : list_any (λ x. is_key (key x) (key (make e))) (in_order (by_key key) make es) ≡ false =
        rw (keyed e) (sym (found_any key value (in_order (by_key key) make es) e.0)
        ∙ ap is_some (sym (rest.finds e.0) ∙ absent e.0 es (IsDistinct-head is_key e.0 (keys_of es) h))) in
        record {
          rises = rising_inserted key (make e) (in_order (by_key key) make es) new rest.rises;
          finds = finds_inserted key value (in_order (by_key key) make es) (by_key key) es (e ∷ es)
              (make e) rest.finds new
              (λ q. rw (keyed e, valued e)
              (ap (λ (b : Bool). cond b (Some e.1) (lookup (is_key q) es)) (is_key_sym q e.0)));
        }

    -- only one list corresponds to a table
    pub computed_is : (es : Entries) (xs : List X) → IsDistinct is_key (keys_of es) → Stands es xs
        → in_order (by_key key) make es ≡ xs
    computed_is es xs u h =
        let k = in_order_stands es u in
        rising_same key value exact _ xs k.rises h.rises (λ q. sym (k.finds q) ∙ h.finds q)
