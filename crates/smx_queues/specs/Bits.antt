-- Marks by number, as contracts see them.
use Rattle.std.specs.Prelude.{◌≡◌, ℕ, zero, suc, ◌+◌, ◌*◌, ◌/◌, ◌%◌, ◌<◌, ◌≤◌, ◌^◌, Bool, true, false, ◌&&◌, ◌==◌, not}
use Rattle.std.specs.Prelude.{if◌then◌else◌, List, length, slice_index}
use Rattle.std.specs.Int.{bit_at}

-- a count of numbers, and words of 64 bits: each number has a bit, which is 1 if the number is marked
pub record BitTable : Type 0 where
  pub count : ℕ
  pub words : List ℕ

-- whether the bit of a number is 1 in such words
abbrev pub bit_of : List ℕ → ℕ → Bool
bit_of words n = bit_at (slice_index words (n / 64)) (n % 64) == 1

-- the number is marked
abbrev pub has_bit : BitTable → ℕ → Bool
has_bit b n = bit_of b.words n

-- the number is marked, and is not this one
abbrev pub has_bit_but : BitTable → ℕ → ℕ → Bool
has_bit_but b n m = has_bit b m && not (n == m)

-- how many of the first numbers have a bit that is 1
abbrev pub count_below : List ℕ → ℕ → ℕ
count_below words zero = 0
count_below words (suc n) = count_below words n + (if bit_of words n then 1 else 0)

-- how many numbers are marked
abbrev pub bit_count : BitTable → ℕ
bit_count b = count_below b.words (64 * length b.words)

-- no number of a word before this one is marked
abbrev pub HaveNoneBefore : ℕ → List ℕ → Type 0
HaveNoneBefore first words = (n : ℕ) → n < 64 * first → bit_of words n ≡ false

-- there are bits for this count of numbers, and no other bit is 1
pub record AreBits (first count : ℕ) (words : List ℕ) : Type 0 where
  pub before : HaveNoneBefore first words
  pub first_in : first ≤ length words
  pub many : count ≤ 64 * length words
  pub small : 64 * length words < 2 ^ 64
  pub below : (n : ℕ) → bit_of words n ≡ true → n < count
