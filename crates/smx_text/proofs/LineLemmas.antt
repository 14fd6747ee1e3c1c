-- Lines of bytes, and the first line.
use Rattle.smx_text.proofs.Common.{refl, ap, arith, inl, inr, ◌⊎◌, nat_tests, LINE_FEED, IsOneLine}
use Rattle.std.proofs.Common.{◌≡◌, ℕ, Bool, true, false, eqb, List, [], ◌∷◌, ◌++◌}
use Rattle.smx_words.proofs.CutLemmas.{apart}

-- bytes that contain a line feed are not one line
pub not_one : (xs after : List ℕ) → IsOneLine (xs ++ LINE_FEED ∷ after) → ⊥
not_one [] after h = h.0 refl
not_one (x ∷ xs) after h = not_one xs after h.1

-- bytes have one first line, and one rest after it
pub one_cut : (xs ys cs ds : List ℕ) → IsOneLine xs → IsOneLine ys
    → xs ++ LINE_FEED ∷ cs ≡ ys ++ LINE_FEED ∷ ds → (xs ≡ ys) × (cs ≡ ds)
one_cut = apart LINE_FEED

-- any bytes are one line without a line feed, or start with a whole line
pub first_line : (xs : List ℕ) → IsOneLine xs
    ⊎ ((text after : List ℕ) × IsOneLine text × (xs ≡ text ++ LINE_FEED ∷ after))
first_line [] = inl tt
first_line (x ∷ xs) = by_first (eqb x LINE_FEED) refl (first_line xs) where
  by_first : (b : Bool) → eqb x LINE_FEED ≡ b
      → IsOneLine xs ⊎ ((text after : List ℕ) × IsOneLine text × (xs ≡ text ++ LINE_FEED ∷ after))
      → IsOneLine (x ∷ xs) ⊎ ((text after : List ℕ) × IsOneLine text × (x ∷ xs ≡ text ++ LINE_FEED ∷ after))
  by_first true is more = let same : x ≡ LINE_FEED = grind (arith, nat_tests) in
      inr ([], xs, tt, ap (λ (y : ℕ). y ∷ xs) same)
  by_first false is (inl one) = inl (grind (arith, nat_tests), one)
  by_first false is (inr (text, after, one, e)) =
      inr (x ∷ text, after, (grind (arith, nat_tests), one), ap (λ (ys : List ℕ). x ∷ ys) e)
