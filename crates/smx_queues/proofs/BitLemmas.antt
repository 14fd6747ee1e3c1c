-- Marks after a change of one word, and the number of marks.
use Rattle.std.proofs.Common.{◌≡◌, ◌≢◌, ℕ, zero, suc, ◌+◌, ◌-◌, ◌*◌, ◌/◌, ◌%◌, ◌<◌, ◌≤◌, ◌^◌, Bool, true, false, cond}
use Rattle.std.proofs.Common.{eqb, ◌&&◌, not, List, length, set, get_or, refl, sym, ap, ◌∙◌, arith, inl, inr, w64}
use Rattle.std.specs.Prelude.{bit_and, bit_or}
use Rattle.std.specs.Int.{bit_at, bit_not, trailing_zeros}
use Rattle.std.proofs.lemmas.Bool.{and_right, cases_eq, cases_lt}
use Rattle.std.proofs.lemmas.List.{get_or-set_other, get_or-set_same, get_or_default, get_or_past, length-set}
use Rattle.std.proofs.lemmas.Nat.{shr-shr}
use Rattle.std.proofs.lemmas.Nat.Bits.{bit_at-trailing_zeros, bit_at-zero, bit_at_above, bit_at_clear_other}
use Rattle.std.proofs.lemmas.Nat.Bits.{bit_at_clear_same, bit_at_set_other, bit_at_set_same}
use Rattle.smx_queues.specs.Bits.{AreBits, bit_of, count_below}

-- the word of a number is one of the words
pub word_below : (words : List ℕ) (n : ℕ) → n < 64 * length words → n / 64 < length words
word_below words n below = omega arith

-- a number's bit is below 64
bit_below : (n : ℕ) → n % 64 < 64
bit_below n = omega arith

-- two numbers with the same word and the same bit are the same
same_number : (m n : ℕ) → m / 64 ≡ n / 64 → m % 64 ≡ n % 64 → m ≡ n
same_number m n word bit = omega arith

-- ---- one mark is set or cleared

-- the number is marked now, or is not, and all other numbers are marked as before
pub record IsOneChanged (words new : List ℕ) (n : ℕ) (mark : Bool) : Type 0 where
  pub many : length new ≡ length words
  pub here : bit_of new n ≡ mark
  pub others : (m : ℕ) → m ≢ n → bit_of new m ≡ bit_of words m

-- this is so if a word was written that has another bit only for this number
written : (words : List ℕ) (n old x : ℕ) (mark : Bool) → n < 64 * length words → old ≡ get_or words (n / 64) old
    → eqb (bit_at x (n % 64)) 1 ≡ mark → ((i : ℕ) → i < 64 → i ≢ n % 64 → bit_at x i ≡ bit_at old i)
    → IsOneChanged words (set words (n / 64) x) n mark
written words n old x mark below read bit same =
    grind (arith, length-set, get_or-set_same, bit_below, same_number, get_or_default, get_or-set_other)

-- a mark is set
pub mark_set : (words : List ℕ) (n old : ℕ) → n < 64 * length words → old ≡ get_or words (n / 64) old
    → IsOneChanged words (set words (n / 64) (bit_or old (1 * 2 ^ (n % 64) % 2 ^ 64))) n true
mark_set words n old below read = written words n old (bit_or old (1 * 2 ^ (n % 64) % 2 ^ 64)) true below read
    (ap (λ (b : ℕ). eqb b 1) (bit_at_set_same w64 old (n % 64) (bit_below n)))
    (λ i lt other. bit_at_set_other w64 old (n % 64) (bit_below n) i other)

-- a mark is cleared
pub mark_cleared : (words : List ℕ) (n old : ℕ) → n < 64 * length words → old ≡ get_or words (n / 64) old
    → IsOneChanged words (set words (n / 64) (bit_and old (bit_not w64 (1 * 2 ^ (n % 64) % 2 ^ 64)))) n false
mark_cleared words n old below read =
    written words n old (bit_and old (bit_not w64 (1 * 2 ^ (n % 64) % 2 ^ 64))) false below read
    (ap (λ (b : ℕ). eqb b 1) (bit_at_clear_same w64 old (n % 64) (bit_below n)))
    (λ i lt other. bit_at_clear_other w64 old (n % 64) (bit_below n) i lt other)

-- the words stay sound, if the new first word is not after the old one nor after a word with a new mark
pub still_bits : (first new_first count : ℕ) (words new : List ℕ) (n : ℕ) (mark : Bool) → AreBits first count words
    → IsOneChanged words new n mark → n < count → new_first ≤ first → (mark ≡ true → new_first ≤ n / 64)
    → AreBits new_first count new
still_bits first new_first count words new n mark h c lt le low = grind arith

-- if a mark was set, a number that was marked is still marked
pub still_marked : (words new : List ℕ) (n : ℕ) → IsOneChanged words new n true → (m : ℕ) → bit_of words m ≡ true
    → bit_of new m ≡ true
still_marked words new n c m was = grind arith

-- if a mark was cleared, a number is marked if it was, unless it is this one
pub all_but_one : (words new : List ℕ) (n : ℕ) → IsOneChanged words new n false → (m : ℕ)
    → bit_of new m ≡ (bit_of words m && not (eqb n m))
all_but_one words new n c m = grind (arith, and_right)

-- if a mark was cleared, there is one mark less before each later number, and as many before each other one
one_less : (words new : List ℕ) (n : ℕ) → IsOneChanged words new n false → bit_of words n ≡ true → (k : ℕ)
    → (n < k → count_below new k + 1 ≡ count_below words k) × (k ≤ n → count_below new k ≡ count_below words k)
one_less words new n c was zero = (λ lt. absurd (omega (arith, lt)), λ _. refl)
one_less words new n c was (suc k) =
    let r = one_less words new n c was k in
    elim (cases_eq k n) [
      | inl is ↦
          let e = r.1 (omega (arith, is)) in
          let a : cond {A = ℕ} (bit_of new k) 1 0 ≡ 0 = ap (λ (b : Bool). cond b 1 0) (ap (bit_of new) is ∙ c.here) in
          let b : cond {A = ℕ} (bit_of words k) 1 0 ≡ 1 = ap (λ (b : Bool). cond b 1 0) (ap (bit_of words) is ∙ was) in
          (λ _. omega (arith, e, a, b), λ le. absurd (omega (arith, is, le)))
      | inr other ↦
          let same : cond {A = ℕ} (bit_of new k) 1 0 ≡ cond {A = ℕ} (bit_of words k) 1 0 =
          ap (λ (b : Bool). cond b 1 0) (c.others k other) in (
            λ lt. let e = r.0 (omega (arith, other, lt)) in omega (arith, e, same),
            λ le. let e = r.1 (omega (arith, le)) in omega (arith, e, same),
          )
    ]

-- if a mark was cleared, there are fewer marks
pub fewer : (words new : List ℕ) (n : ℕ) → IsOneChanged words new n false → n < 64 * length words
    → bit_of words n ≡ true → count_below new (64 * length new) < count_below words (64 * length words)
fewer words new n c below was = grind (arith, one_less words new n c was (64 * length words))

-- ---- the least mark

-- no number of a word without marks is marked
none_in : (words : List ℕ) (m : ℕ) → get_or words (m / 64) 0 ≡ 0 → bit_of words m ≡ false
none_in words m empty = grind (arith, bit_at-zero (m % 64))

-- a number after the last word isn't marked
pub none_past : (words : List ℕ) (m : ℕ) → length words ≤ m / 64 → bit_of words m ≡ false
none_past words m past = none_in words m (get_or_past words (m / 64) 0 past)

-- ---- the least mark from a number on

-- number `m` is the first marked number from number `n` on
pub record IsFound (words : List ℕ) (n m : ℕ) : Type 0 where
  pub from : n ≤ m
  pub marked : bit_of words m ≡ true
  pub least : (k : ℕ) → n ≤ k → k < m → bit_of words k ≡ false

-- a bit of a shifted word is a higher bit of the word
shifted : (x k i : ℕ) → bit_at (x / 2 ^ k) i ≡ bit_at x (k + i)
shifted x k i = ap (λ (y : ℕ). y % 2) (shr-shr x k i)

-- a number is marked if its bit in its word is 1; the word and the bit are known
bit_is : (words : List ℕ) (m w x i : ℕ) → m / 64 ≡ w → m % 64 ≡ i → x ≡ get_or words w 0
    → bit_of words m ≡ eqb (bit_at x i) 1
bit_is words m w x i word bit read = rw (word, bit, ← read) refl

-- a bit that is 1 is one of the lowest 64
low_bit : (x i : ℕ) → x < 2 ^ 64 → bit_at x i ≡ 1 → i < 64
low_bit x i fits one = grind (arith, bit_at_above x 64 i fits)

-- the lowest bit of the number's word, from the number's bit on, is the first mark
pub found_here : (words : List ℕ) (n x : ℕ) → x ≡ get_or words (n / 64) 0 → x < 2 ^ 64 → 0 < x / 2 ^ (n % 64)
    → x / 2 ^ (n % 64) < 2 ^ 64 → IsFound words n (n + trailing_zeros w64 (x / 2 ^ (n % 64)))
found_here words n x read fits some fits_too =
    let z = bit_at-trailing_zeros w64 (x / 2 ^ (n % 64)) some fits_too in
    let bit : ℕ = trailing_zeros w64 (x / 2 ^ (n % 64)) in
    let one : bit_at x (n % 64 + bit) ≡ 1 = sym (shifted x (n % 64) bit) ∙ z.1 in
    let low : n % 64 + bit < 64 = low_bit x (n % 64 + bit) fits one in
    record {
      from = omega arith;
      marked = bit_is words (n + bit) (n / 64) x (n % 64 + bit) (omega (arith, low)) (omega (arith, low)) read
          ∙ ap (λ (b : ℕ). eqb b 1) one;
      least = λ k le lt.
          bit_is words k (n / 64) x (n % 64 + (k - n)) (omega (arith, le, lt, low)) (omega (arith, le, lt, low)) read
          ∙ ap (λ (b : ℕ). eqb b 1)
          (sym (shifted x (n % 64) (k - n)) ∙ z.2 (k - n) (omega (arith, le, lt)));
    }

-- if a word has no bit from the number's bit on, none of its numbers is marked from this number on
none_here : (words : List ℕ) (n x k : ℕ) → x ≡ get_or words (n / 64) 0 → x / 2 ^ (n % 64) ≡ 0 → n ≤ k
    → k / 64 ≡ n / 64 → bit_of words k ≡ false
none_here words n x k read empty le word =
    bit_is words k (n / 64) x (n % 64 + (k % 64 - n % 64)) word (omega (arith, le, word)) read
    ∙ ap (λ (b : ℕ). eqb b 1) (sym (shifted x (n % 64) (k % 64 - n % 64))
    ∙ (ap (λ (y : ℕ). bit_at y (k % 64 - n % 64)) empty ∙ bit_at-zero (k % 64 - n % 64)))

-- if the words up to `next` have no bit from the number's bit on, none of their numbers is marked from this number on
none_between : (words : List ℕ) (n x next k : ℕ) → x ≡ get_or words (n / 64) 0 → x / 2 ^ (n % 64) ≡ 0
    → ((w : ℕ) → n / 64 + 1 ≤ w → w < next → get_or words w 0 ≡ 0) → n ≤ k → k / 64 < next
    → bit_of words k ≡ false
none_between words n x next k read empty zeros le lt = grind (arith, none_here, none_in, zeros (k / 64))

-- the lowest bit of the next word with a bit is the first mark
pub found_later : (words : List ℕ) (n x next y : ℕ) → x ≡ get_or words (n / 64) 0 → x / 2 ^ (n % 64) ≡ 0
    → ((w : ℕ) → n / 64 + 1 ≤ w → w < next → get_or words w 0 ≡ 0) → n / 64 + 1 ≤ next
    → y ≡ get_or words next 0 → 0 < y → y < 2 ^ 64 → IsFound words n (64 * next + trailing_zeros w64 y)
found_later words n x next y read empty zeros later there some fits =
    grind (arith, bit_at-trailing_zeros w64 y some fits, bit_is words, none_between words n x next)

-- if no later word has a bit either, no number is marked from this number on
pub none_later : (words : List ℕ) (n x next : ℕ) → x ≡ get_or words (n / 64) 0 → x / 2 ^ (n % 64) ≡ 0
    → ((w : ℕ) → n / 64 + 1 ≤ w → w < next → get_or words w 0 ≡ 0) → length words ≤ next → (k : ℕ) → n ≤ k
    → bit_of words k ≡ false
none_later words n x next read empty zeros past k le = elim (cases_lt (k / 64) next) [
  | inl less ↦ none_between words n x next k read empty zeros le less
  | inr more ↦ none_past words k (omega (arith, more, past))
]
