-- Compares names, and makes them from bytes. No public clause needs this.
use Rattle.std.proofs.Common.{◌≡◌, refl, sym, ap, ◌∙◌, ℕ, suc, zero, ◌+◌, ◌<◌, true, nat_eq}
use Rattle.std.proofs.Common.{List, [], ◌∷◌, ◌++◌, length, take, drop, get_or, arith}
use Rattle.std.specs.Prelude.{slice_set}
use Rattle.std.specs.Cmp.Lexicographic.{pointwise}
use Rattle.std.specs.List.{list_all}
use Rattle.std.specs.Int.{from_le_bytes, to_le_bytes, w64}
use Rattle.std.proofs.lemmas.Bool.{eqb-true, eq-eqb}
use Rattle.std.proofs.lemmas.Bool.Decides.{Decides-eqb, same_from_decides}
use Rattle.std.proofs.lemmas.List.Folds.{list_all_more}
use Rattle.std.proofs.lemmas.Nat.{le_bytes_8}
use Rattle.std.proofs.lemmas.Slice.Eq.{slice_eq-Decides}
use Rattle.smx_types.specs.Names.{is_name_byte}

-- two lists of eight bytes are equal if the numbers that they spell are equal
pub same_numbers : (xs ys : List ℕ) (m n : ℕ) → length xs ≡ 8 → length ys ≡ 8
    → ((i : ℕ) → get_or xs i 0 < 256) → ((i : ℕ) → get_or ys i 0 < 256)
    → m ≡ from_le_bytes w64 xs → n ≡ from_le_bytes w64 ys → nat_eq m n ≡ pointwise nat_eq xs ys
same_numbers xs ys m n lx ly sx sy em en =
    same_from_decides _ _ (same, numbers) (slice_eq-Decides Decides-eqb xs ys _ refl)
  where
    same : nat_eq m n ≡ true → xs ≡ ys
    same e = sym (le_bytes_8 xs m lx sx em) ∙ ap (to_le_bytes w64) (eqb-true m n e) ∙ le_bytes_8 ys n ly sy en

    numbers : xs ≡ ys → nat_eq m n ≡ true
    numbers e = eq-eqb m n (em ∙ ap (from_le_bytes w64) e ∙ sym en)

-- one more byte in the place of a zero
pub one_more : (bs zs : List ℕ) (n : ℕ) → n < length bs → n < length zs
    → slice_set (take n bs ++ drop n zs) n (get_or bs n 0) ≡ take (suc n) bs ++ drop (suc n) zs
one_more [] zs n few room = elim few [ ]
one_more (b ∷ bs) [] n few room = elim room [ ]
one_more (b ∷ bs) (z ∷ zs) zero few room = refl
one_more (b ∷ bs) (z ∷ zs) (suc n) few room = ap (λ xs. b ∷ xs) (one_more bs zs n (omega arith) (omega arith))

-- one more byte of a name
pub one_more_named : (bs : List ℕ) (n : ℕ) → n < length bs → list_all is_name_byte (take n bs) ≡ true
    → is_name_byte (get_or bs n 0) ≡ true → list_all is_name_byte (take (n + 1) bs) ≡ true
one_more_named bs n few named one = list_all_more is_name_byte bs n 0 few ∙ grind (arith, one, named)
