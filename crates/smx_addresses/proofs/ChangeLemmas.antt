-- Look-ups in a table after an entry is set or removed, and the list with the same look-ups.
use Rattle.smx_model.proofs.Common.{◌≡◌, ℕ, Bool, false, cond, not, List, [], ◌∷◌, filter, Option, Some, None, refl}
use Rattle.smx_model.proofs.Common.{sym, ap, ◌∙◌, inl, inr, list_any, lookup, cases_Bool, with_inserted, IsRising}
use Rattle.smx_model.proofs.Common.{arith}
use Rattle.std.proofs.lemmas.Map.Entries.{option_filter}
use Rattle.smx_addresses.specs.Keys.{Key, is_key, found, by_key, AreApart}
use Rattle.smx_addresses.specs.TableFields.{Entries, Finds}
use Rattle.smx_addresses.proofs.KeyLemmas.{is_key_sym, is_key_congr, found_none, found_inserted, found_filter, any_same}
use Rattle.smx_addresses.proofs.OrderLemmas.{rising_filter, rising_inserted}

-- a table in which the entry at a key is now w, or is removed if w is `None`
abbrev pub Sets : Entries → Entries → Key → Option ℕ → Type 0
Sets old new k w = (q : Key) → lookup (is_key q) new ≡ cond (is_key k q) w (lookup (is_key q) old)

-- the same change, from the table as it was before room was made
pub sets_from : (before old new : Entries) (k : Key) (w : Option ℕ) → old ≡ before → Sets old new k w
    → Sets before new k w
sets_from before old new k w e s q = s q ∙ ap (λ (es : Entries). cond (is_key k q) w (lookup (is_key q) es)) e

-- a removed key is not left
any_gone : {X : Type 0} (key : X → Key) (k : Key) (xs : List X)
    → list_any (λ x. is_key (key x) k) (filter (λ x. not (is_key (key x) k)) xs) ≡ false
any_gone key k [] = refl
any_gone key k (x ∷ xs) = grind (arith, any_gone key k xs)

module _ {X : Type 0} (key : X → Key) (value : X → ℕ) (xs : List X) where
  -- a new element with a new key
  pub finds_inserted : (before : X → X → Bool) (es fs : Entries) (x : X) → Finds key value xs es
      → list_any (λ y. is_key (key y) (key x)) xs ≡ false → Sets es fs (key x) (Some (value x))
      → Finds key value (with_inserted before xs x) fs
  finds_inserted before es fs x h new set q =
      set q ∙ ap (cond (is_key (key x) q) (Some (value x))) (h q) ∙ sym (found_inserted key value before xs x q new)

  -- a key removed
  pub finds_filter : (es fs : Entries) (k : Key) → Finds key value xs es → Sets es fs k None
      → Finds key value (filter (λ x. not (is_key (key x) k)) xs) fs
  finds_filter es fs k h set q = set q ∙ ap (cond (is_key k q) None) (h q) ∙ sym (found_filter key value xs k q)

  -- an element that replaces the one with its key
  pub finds_replaced : (es fs : Entries) (x : X) → Finds key value xs es → Sets es fs (key x) (Some (value x))
      → Finds key value (with_inserted (by_key key) (filter (λ y. not (is_key (key y) (key x))) xs) x) fs
  finds_replaced es fs x h set q =
      set q ∙ ap (cond (is_key (key x) q) (Some (value x))) (h q)
      ∙ elim (cases_Bool (is_key (key x) q)) [ inl t ↦ rw t refl | inr f ↦ rw f refl ]
      ∙ ap (cond (is_key (key x) q) (Some (value x))) (sym (found_filter key value xs (key x) q))
      ∙ sym (found_inserted key value (by_key key) _ x q (any_gone key (key x) xs))

  -- a rising list still rises after an element replaces the one with its key
  pub rises_replaced : (x : X) → IsRising (by_key key) xs
      → IsRising (by_key key) (with_inserted (by_key key) (filter (λ y. not (is_key (key y) (key x))) xs) x)
  rises_replaced x h = rising_inserted key x _ (any_gone key (key x) xs) (rising_filter (by_key key) _ xs h)

-- look-ups without the elements whose value fails a test
pub found_kept : {X : Type 0} (key : X → Key) (value : X → ℕ) (keep : ℕ → Bool) (xs : List X) → AreApart key xs
    → (q : Key)
    → found key value (filter (λ x. keep (value x)) xs) q ≡ option_filter keep (found key value xs q)
found_kept key value keep [] h q = refl
found_kept key value keep (x ∷ xs) h q = elim (cases_Bool (keep (value x))) [
  | inl t ↦
      rw t (elim (cases_Bool (is_key q (key x)))
      [ inl a ↦ rw (a, t) refl | inr a ↦ rw a (found_kept key value keep xs h.1 q) ])
  | inr f ↦ rw f (elim (cases_Bool (is_key q (key x))) [
    | inl a ↦
        found_kept key value keep xs h.1 q
        ∙ ap (option_filter keep)
        (found_none key value xs q
        (any_same _ _ (λ y. is_key_sym (key y) q ∙ is_key_congr q (key x) (key y) a ∙ is_key_sym (key x) (key y)) xs
        ∙ h.0)) ∙ rw (a, f) refl
    | inr a ↦ found_kept key value keep xs h.1 q ∙ rw a refl
  ])
]
