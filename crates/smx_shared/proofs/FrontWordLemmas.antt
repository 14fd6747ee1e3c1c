-- The first word: a front, and the turn bit.
use Rattle.std.proofs.Common.{◌≡◌, refl, ℕ, ◌+◌, ◌*◌, ◌/◌, ◌%◌, ◌<◌, ◌≤◌, List, length, Bool, true, false, ap, ap₂}
use Rattle.std.proofs.Common.{◌∙◌, arith, max}
use Rattle.std.specs.Prelude.{bit_or}
use Rattle.std.specs.Int.Bits.{or_step}
use Rattle.std.proofs.lemmas.Nat.{or_shifted}
use Rattle.smx_types.specs.declared.command.Entry.{Entry}
use Rattle.smx_types.specs.declared.driver.DriverSpec.{DriverSpec}
use Rattle.smx_model.specs.Histories.{after}
use Rattle.smx_shared.specs.Fronts.{front_of, word_of, turn_bit, IsFrontOf}
use Rattle.smx_shared.specs.TurnRule.{Turn, free, held, bit_of}
use Rattle.smx_shared.specs.declared.front.Front.{Front}

-- or with 0 changes nothing
or_zero : (a : ℕ) → bit_or a 0 ≡ a
or_zero a = grind (arith, or_shifted a 0 0 (omega arith))

-- or with 1 sets the turn bit
or_one : (n : ℕ) → bit_or n 1 ≡ n / 2 * 2 + 1
or_one n = let e : bit_or n 1 ≡ bit_or (n / 2) (1 / 2) * 2 + max (n % 2) (1 % 2) = or_step n 1 in
    let z = or_zero (n / 2) in let p : max (n % 2) 1 ≡ 1 = omega arith in e ∙ ap₂ (λ (x y : ℕ). x * 2 + y) z p

-- the word of a front has the turn bit free
pub front_even : (drivers : List DriverSpec) (h : List Entry) → front_of drivers h % 2 ≡ 0
unfolding front_of
front_even drivers h = omega arith

-- if the turn was free, it is taken
pub or_free : (drivers : List DriverSpec) (h : List Entry) → bit_or (front_of drivers h) 1 ≡ front_of drivers h + 1
or_free drivers h = grind (arith, front_even drivers h, or_one)

-- if the turn was held, the word is unchanged
pub or_held : (drivers : List DriverSpec) (h : List Entry) → bit_or (front_of drivers h + 1) 1 ≡ front_of drivers h + 1
or_held drivers h = grind (arith, front_even drivers h, or_one)

-- a word that shows the turn held is odd
pub held_odd : (drivers : List DriverSpec) (n : ℕ) (h : List Entry) → n ≡ front_of drivers h + 1 → n % 2 ≡ 1
held_odd drivers n h e = grind (arith, front_even drivers h)

-- a word that shows the turn free is even
pub free_even : (drivers : List DriverSpec) (n : ℕ) (h : List Entry) → n ≡ front_of drivers h → n % 2 ≡ 0
free_even drivers n h e = ap (λ (k : ℕ). k % 2) e ∙ front_even drivers h

-- a word is the front and its own turn bit
pub front_and_bit : (drivers : List DriverSpec) (n : ℕ) (h : List Entry) (t : Turn) → n ≡ front_of drivers h + bit_of t
    → n ≡ front_of drivers h + n % 2
front_and_bit drivers n h free e = grind (arith, front_even drivers h)
front_and_bit drivers n h (held j) e = grind (arith, front_even drivers h)

-- a history within these limits of entries and links has a small word
pub word_small : (drivers : List DriverSpec) (n : ℕ) (h : List Entry) → n ≡ front_of drivers h + n % 2
    → length h ≤ 100000 → length (after drivers h).links ≤ 1024 → n < 4096 * 4294967296
unfolding front_of
word_small drivers n h is few links = omega arith

-- a word is read as the front from which it was made
pub reads_front : (drivers : List DriverSpec) (n : ℕ) (h : List Entry) (front : Front) → n ≡ front_of drivers h + n % 2
    → length (after drivers h).links ≤ 1024 → word_of front ≡ n → front.links < 2048
    → IsFrontOf front drivers h × (turn_bit front.held ≡ n % 2)
unfolding front_of
reads_front drivers n h front is links word few = grind arith

-- a front whose turn bit is set shows it
pub shows_held : (b : Bool) → turn_bit b ≡ 1 → b ≡ true
shows_held true e = refl
shows_held false e = absurd (omega arith)
