-- Drivers with links, judged by the bits of their words.
use Rattle.smx_model.proofs.Common.{◌≡◌, ℕ, ◌<◌, Bool, true, false, not, eqb, List, [], ◌∷◌, get_or, refl, sym, ap, ◌∙◌}
use Rattle.smx_model.proofs.Common.{arith, inl, inr, cases_Bool, eqb-true, eq-eqb}
use Rattle.smx_model.proofs.Common.{or_left, or_right, nat_tests, Link, reaches}
use Rattle.std.proofs.Common.{◌^◌}
use Rattle.std.specs.Int.{trailing_zeros, w128}
use Rattle.std.proofs.lemmas.Nat.Bits.{bit_at-trailing_zeros}
use Rattle.smx_links.specs.LinkLists.{is_upper}
use Rattle.smx_links.specs.declared.masks.TheConstants.{WORD_BITS}
use Rattle.smx_links.specs.Masks.{AreMasks, HasAnyBit, is_set}
use Rattle.smx_links.proofs.BitLemmas.{is_set_zero}

-- a driver without links reaches no driver
pub none_reached : (ls : List Link) (a b : ℕ) → is_upper ls a ≡ false → reaches ls a b ≡ false
none_reached [] a b h = refl
none_reached (l ∷ ls) a b h = grind (arith, none_reached ls a b, none_reached ls a l.ctl.driver)

-- a driver with a link reaches some driver
some_reached : (ls : List Link) (a : ℕ) → is_upper ls a ≡ true → (b : ℕ) × (reaches ls a b ≡ true)
some_reached [] a h = absurd cc
some_reached (l ∷ ls) a h = elim (cases_Bool (eqb l.ctl.driver a)) [
  | inl here ↦
      let same : eqb a l.ctl.driver ≡ true = eq-eqb a l.ctl.driver (sym (eqb-true l.ctl.driver a here)) in (
        l.lower.driver,
        or_right (reaches ls a l.lower.driver) _
            (rw (same, eq-eqb l.lower.driver l.lower.driver refl) refl),
      )
  | inr other ↦
      let rest = some_reached ls a (rw other at h) in
      (rest.0, or_left (reaches ls a rest.0) _ rest.1)
]

-- a word has a bit exactly if a link leads from its driver
pub any_is_upper : (ls : List Link) (ws : List ℕ) (a : ℕ) (r : Bool) → AreMasks ls ws → HasAnyBit ws a r
    → r ≡ is_upper ls a
any_is_upper ls ws a true m h = grind (arith, none_reached ls a h.0, m a h.0)
any_is_upper ls ws a false m h = grind (arith, some_reached ls a, m a)

-- a word that is not 0 has a bit
pub has_bits : (ws : List ℕ) (a w : ℕ) → get_or ws a 0 ≡ w → get_or ws a 0 < 2 ^ WORD_BITS
    → HasAnyBit ws a (not (eqb w 0))
has_bits ws a w e fits = elim (cases_Bool (eqb w 0)) [
  | inl t ↦ rw t (λ b. ap (λ (x : ℕ). is_set x b) (e ∙ eqb-true w 0 t) ∙ is_set_zero b)
  | inr f ↦
      let some : 0 < get_or ws a 0 = grind (arith, nat_tests) in
      let low = bit_at-trailing_zeros w128 (get_or ws a 0) some fits in
      rw f (trailing_zeros w128 (get_or ws a 0), ap (λ (x : ℕ). eqb x 1) low.1)
]
