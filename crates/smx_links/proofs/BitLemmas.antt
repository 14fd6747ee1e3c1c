-- Bits of words, and the bits that one more link adds.
use Rattle.smx_model.proofs.Common.{◌≡◌, ℕ, ◌<◌, ◌≤◌, Bool, true, false, ◌&&◌, ◌||◌, eqb, cond, List, length, get_or}
use Rattle.smx_model.proofs.Common.{refl, sym, ap, ◌∙◌, arith, inl, inr, eqb-true, cases_lt}
use Rattle.smx_model.proofs.Common.{false_from_ne_true, get_or_past, nat_tests}
use Rattle.std.proofs.Common.{◌^◌, max, bit_or}
use Rattle.std.proofs.Math.Bool.{or-false, or_comm}
use Rattle.std.specs.Int.{bit_at}
use Rattle.std.proofs.lemmas.Nat.Bits.{bit_at_or, bit_at-lt, bit_at-pow_same, bit_at-pow_other, bit_at-zero}
use Rattle.std.proofs.lemmas.Nat.Bits.{bit_at_above}
use Rattle.smx_links.specs.declared.masks.TheConstants.{WORD_BITS}
use Rattle.smx_links.specs.Masks.{is_set, has_bit, AreJoined}

-- a bit is 0 or 1
set_max : (x y : ℕ) → x < 2 → y < 2 → eqb (max x y) 1 ≡ (eqb x 1 || eqb y 1)
set_max x y h k = grind (arith, nat_tests)

-- the bits of a union are the bits of both words
pub is_set_or : (v w b : ℕ) → is_set (bit_or v w) b ≡ (is_set v b || is_set w b)
is_set_or v w b = rw (bit_at_or v w b) (set_max (bit_at v b) (bit_at w b) (bit_at-lt v b) (bit_at-lt w b))

-- a power of two has one bit
pub is_set_pow : (k b : ℕ) → is_set (2 ^ k) b ≡ eqb k b
is_set_pow k b = grind (arith, bit_at-pow_same k, bit_at-pow_other k b)

-- 0 has no bits
pub is_set_zero : (b : ℕ) → is_set 0 b ≡ false
is_set_zero b = ap (λ x. eqb x 1) (bit_at-zero b)

-- no bit of a word is set past its last one
pub is_set_past : (w b : ℕ) → w < 2 ^ WORD_BITS → WORD_BITS ≤ b → false ≡ is_set w b
is_set_past w b fits past = sym (ap (λ x. eqb x 1) (bit_at_above w WORD_BITS b fits past))

-- word a, with the bits of r added if a is u or reaches u
abbrev pub joined_word : List ℕ → ℕ → ℕ → ℕ → ℕ
joined_word ws u r a = cond (eqb a u || has_bit ws a u) (bit_or (get_or ws a 0) r) (get_or ws a 0)

-- the bits of a joined word
joined_bits : (c : Bool) (w x k b : ℕ) → is_set (cond c (bit_or w (bit_or x (2 ^ k))) w) b
    ≡ (is_set w b || (c && (eqb k b || is_set x b)))
joined_bits true w x k b = grind (arith, is_set_or, is_set_pow, or_comm)
joined_bits false w x k b = sym (or-false (is_set w b))

-- no bit is set past the last word
pub past_bits : (ws : List ℕ) (a b : ℕ) → length ws ≤ a → has_bit ws a b ≡ false
past_bits ws a b h = rw (get_or_past ws a 0 h) (is_set_zero b)

-- if each word is joined in this way, the words are joined
pub joined_words : (old new : List ℕ) (u k : ℕ) → u < length old → length new ≡ length old
    → ((a : ℕ) → a < length old → get_or new a 0 ≡ joined_word old u (bit_or (get_or old k 0) (2 ^ k)) a)
    → AreJoined old u k new
joined_words old new u k below long each a b = elim (cases_lt a (length old)) [
  | inl lt ↦ ap (λ w. is_set w b) (each a lt)
      ∙ joined_bits (eqb a u || has_bit old a u) (get_or old a 0) (get_or old k 0) k b
  | inr past ↦
      let far : eqb a u ≡ false = false_from_ne_true (eqb a u) (λ t. let e = eqb-true a u t in absurd (omega arith)) in
      let no : (b : ℕ) → has_bit old a b ≡ false = λ b. past_bits old a b past in
      past_bits new a b (omega arith) ∙ sym (rw (no b, no u, far) refl)
]
