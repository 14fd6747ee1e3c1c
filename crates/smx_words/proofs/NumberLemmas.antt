-- Numbers as words: the leading digits of bytes, and the number that they spell.
use Rattle.smx_words.proofs.Common.{◌≡◌, ◌≢◌, ℕ, ◌+◌, ◌*◌, ◌-◌, ◌^◌, ◌<◌, ◌≤◌, Bool, true, false, cond, eqb, ◌&&◌}
use Rattle.smx_words.proofs.Common.{◌||◌, List, [], ◌∷◌, ◌++◌, length, slice_index, get_or, take, drop, refl, sym, ap}
use Rattle.smx_words.proofs.Common.{◌∙◌, arith, is_ascii_digit, digits_value, decimal, and_parts, nat_tests}
use Rattle.smx_words.proofs.Common.{FitsNumber, SPACE, IsFree}
use Rattle.std.proofs.Common.{ltb, inl, inr}
use Rattle.std.specs.List.{prefix_len, take_while}
use Rattle.std.specs.Str.{all_ascii_digits}
use Rattle.std.proofs.lemmas.Str.Parse.{IsNumeralModel, numerals_by_value, tells_all_ascii_digits}
use Rattle.std.proofs.lemmas.Str.Parse.{digits_value-take-le}
use Rattle.std.proofs.lemmas.Int.Digits.{digits_value_more}
use Rattle.std.proofs.lemmas.Fmt.{decimal-digits_value, digits_decimal, digits_value-decimal, first_decimal}
use Rattle.std.proofs.lemmas.Fmt.{decimal_nonempty, decimal_digit, decimal_injective}
use Rattle.std.proofs.lemmas.Bool.{cases_lt}
use Rattle.std.proofs.lemmas.List.{length-append, length-take-le, get_or-take, take-take}
use Rattle.std.proofs.lemmas.List.Folds.{length-prefix_len}
use Rattle.std.proofs.lemmas.List.Sums.{prefix_len-drop_all, prefix_len-drop_no, prefix_len-le-length}
use Rattle.std.proofs.lemmas.List.Sums.{take_while-cons}
use Rattle.std.proofs.Math.Seq.{get_or-append_seam}
use Rattle.smx_words.proofs.CutLemmas.{apart, is_cut}

-- digits and their value are a numeral model, as the laws of `decimal` require
pub own : IsNumeralModel (λ ds. all_ascii_digits ds ≡ true) (digits_value 10)
own = numerals_by_value _ tells_all_ascii_digits

-- the word of a number is only digits
pub decimal_digits : (n : ℕ) → FitsNumber n → all_ascii_digits (decimal n) ≡ true
decimal_digits n fits = digits_decimal own n (omega arith)

-- the word of a number determines the number
pub same_number : (n m : ℕ) → FitsNumber n → FitsNumber m → decimal n ≡ decimal m → n ≡ m
same_number n m h k e = decimal_injective n m (omega arith) (omega arith) e

-- ---- the leading digits of bytes

-- the digits at the start of some bytes
abbrev pub leading : List ℕ → List ℕ
leading w = take_while is_ascii_digit w

-- leading digits are digits
leading_digits : (w : List ℕ) → all_ascii_digits (leading w) ≡ true
leading_digits [] = refl
leading_digits (b ∷ w) = rw (take_while-cons is_ascii_digit b w) (by_first _ refl (leading_digits w)) where
  by_first : (t : Bool) → is_ascii_digit b ≡ t → all_ascii_digits (leading w) ≡ true
      → all_ascii_digits (cond t (b ∷ leading w) []) ≡ true
  by_first true e more = rw e more
  by_first false e more = refl

-- digits before bytes that start with no digit are the leading digits
before_others : (v a : List ℕ) → all_ascii_digits v ≡ true → prefix_len is_ascii_digit a ≡ 0 → leading (v ++ a) ≡ v
before_others [] a h none = rw none refl
before_others (d ∷ v) a h none =
    let parts = and_parts (is_ascii_digit d) (all_ascii_digits v) h in
    rw (take_while-cons is_ascii_digit d (v ++ a), parts.0)
    (ap (λ (x : List ℕ). d ∷ x) (before_others v a parts.1 none))

-- if bytes start with the word of a number and no digit follows, their leading digits are that word
pub leads : (w : List ℕ) (n : ℕ) (after : List ℕ) → FitsNumber n → prefix_len is_ascii_digit after ≡ 0
    → w ≡ decimal n ++ after → (leading w ≡ decimal n) × (prefix_len is_ascii_digit w ≡ length (decimal n))
leads w n after fits none e =
    let same = ap leading e ∙ before_others (decimal n) after (decimal_digits n fits) none in
    (same, sym (length-prefix_len is_ascii_digit w) ∙ ap length same)

-- leading digits end where no digit follows
pub ends : (w : List ℕ) (i : ℕ) → prefix_len is_ascii_digit w ≡ i + prefix_len is_ascii_digit (drop i w)
    → (i < length w → is_ascii_digit (get_or w i 0) ≡ false) → prefix_len is_ascii_digit w ≡ i
ends w i leads stop = elim (cases_lt i (length w)) [
  | inl lt ↦ omega (arith, leads, prefix_len-drop_no is_ascii_digit w i 0 lt (stop lt))
  | inr out ↦ omega (arith, leads, prefix_len-drop_all is_ascii_digit w i out)
]

-- one more digit multiplies a number by ten and adds the digit
pub value_more : (w : List ℕ) (i n : ℕ) → i < length w → is_ascii_digit (get_or w i 0) ≡ true
    → n ≡ digits_value 10 (take i w) → n * 10 + (get_or w i 0 - 48) ≡ digits_value 10 (take (i + 1) w)
value_more w i n lt k is = let more = digits_value_more 10 w i lt in grind (arith, nat_tests)

-- ---- the number that leading digits spell

-- leading digits that start with a value of at least 2^32 are the word of no number
pub too_large : (w : List ℕ) (i : ℕ) → i ≤ prefix_len is_ascii_digit w → 2 ^ 32 ≤ digits_value 10 (take i w)
    → (n : ℕ) → FitsNumber n → leading w ≢ decimal n
too_large w i le large n fits e =
    let front = sym (take-take i (prefix_len is_ascii_digit w) w le) ∙ ap (take i) e in
    let same = ap (digits_value 10) front in
    let less = digits_value-take-le 10 (decimal n) i (omega arith) in
    let value = digits_value-decimal own n (omega arith) in
    omega (arith, same, less, value, large, fits)

-- a number has a digit, and no leading zero
good_start : (n : ℕ) → n < 2 ^ 32 → (0 < length (decimal n)) × (get_or (decimal n) 0 0 ≡ 48 → length (decimal n) ≡ 1)
good_start n h =
    elim (cases_lt 0 n) [
      | inl pos ↦ let some = decimal_nonempty n (omega arith) in
          let first = first_decimal n pos (omega arith) in
          (some, λ zero_first. absurd (omega (arith, first, zero_first)))
      | inr none ↦ let zero_is : n ≡ 0 = omega arith in let one = decimal_digit 0 (omega arith) in
          rw (zero_is, one) (omega arith, λ e. refl)
    ]

-- leading digits with a wrong start, of which there is at least one, are a zero before other digits
is_wrong : (w : List ℕ) (i : ℕ) → 0 < i → (eqb i 0 || (eqb (get_or w 0 0) 48 && ltb 1 i)) ≡ true
    → (get_or w 0 0 ≡ 48) × (1 < i)
is_wrong w i pos h = (grind (arith, nat_tests), grind (arith, nat_tests))

-- leading digits without a wrong start are one or more, and only one if the first is a zero
is_right : (w : List ℕ) (i : ℕ) → (eqb i 0 || (eqb (get_or w 0 0) 48 && ltb 1 i)) ≡ false
    → (0 < i) × (get_or w 0 0 ≡ 48 → i ≤ 1)
is_right w i h = (grind (arith, nat_tests), λ z. grind (arith, nat_tests))

-- no leading digits, or a zero before other digits, are the word of no number
pub wrong_start : (w : List ℕ) (i : ℕ) → prefix_len is_ascii_digit w ≡ i
    → (eqb i 0 || (eqb (get_or w 0 0) 48 && ltb 1 i)) ≡ true → (n : ℕ) → FitsNumber n → leading w ≢ decimal n
wrong_start w i ends wrong n fits e =
    let long = sym (length-prefix_len is_ascii_digit w) ∙ ap length e in
    let start = good_start n fits in
    let bad = is_wrong w i (omega (arith, long, ends, start.0)) wrong in
    let first : get_or (decimal n) 0 0 ≡ 48 = ap (λ (x : List ℕ). get_or x 0 0) (sym e)
    ∙ get_or-take (prefix_len is_ascii_digit w) w 0 0 (omega (arith, ends, bad.1)) ∙ bad.0 in
    omega (arith, start.1 first, long, ends, bad.1)

-- one or more leading digits, without a zero before others, are the word of their value
pub right_start : (w : List ℕ) (i n : ℕ) → prefix_len is_ascii_digit w ≡ i → n ≡ digits_value 10 (take i w) → n < 2 ^ 32
    → (eqb i 0 || (eqb (get_or w 0 0) 48 && ltb 1 i)) ≡ false → take i w ≡ decimal n
right_start w i n ends value small right =
    let all : all_ascii_digits (take i w) ≡ true = rw (← ends) (leading_digits w) in
    let long = length-take-le i w (omega (arith, prefix_len-le-length is_ascii_digit w)) in
    let start = is_right w i right in
    let one : get_or (take i w) 0 0 ≡ 48 → length (take i w) ≡ 1 = λ first. let few =
    start.1 (sym (get_or-take i w 0 0 start.0) ∙ first) in omega (arith, few, start.0, long) in
    sym (decimal-digits_value own (take i w) all (omega (arith, long, start.0)) one
    (omega (arith, small, value))) ∙ ap decimal (sym value)

-- ---- numbers as words, and before a space

-- digits contain no space
all_free : (w : List ℕ) → all_ascii_digits w ≡ true → IsFree SPACE w
all_free [] h = tt
all_free (b ∷ w) h = (λ e. space_is_none b w e h, all_free w (grind (arith, nat_tests))) where
  space_is_none : (b : ℕ) (w : List ℕ) → b ≡ 32 → all_ascii_digits (b ∷ w) ≡ true → ⊥
  space_is_none b w e h = grind (arith, nat_tests)

-- the word of a number contains no space
pub number_free : (n : ℕ) → FitsNumber n → IsFree SPACE (decimal n)
number_free n fits = all_free (decimal n) (decimal_digits n fits)

-- if a space follows a number's digits, the bytes start with that number, and the rest after it is unique
pub is_first : (w : List ℕ) (i n : ℕ) → FitsNumber n → i < length w → take i w ≡ decimal n → slice_index w i ≡ 32
    → FitsNumber n × (w ≡ decimal n ++ SPACE ∷ take (length w - (i + 1)) (drop (i + 1) w))
    × ((m : ℕ) (after : List ℕ) → FitsNumber m → w ≡ decimal m ++ SPACE ∷ after
    → after ≡ take (length w - (i + 1)) (drop (i + 1) w))
is_first w i n small lt front space =
    let rest = take (length w - (i + 1)) (drop (i + 1) w) in
    let cut : w ≡ decimal n ++ SPACE ∷ rest = is_cut SPACE w i lt space
    ∙ ap (λ (x : List ℕ). x ++ SPACE ∷ rest) front in (
      small,
      cut,
      λ m after fits e.
          (apart SPACE (decimal m) (decimal n) after rest (number_free m fits) (number_free n small)
          (sym e ∙ cut)).1,
    )

-- if bytes start with a number and a space, a space follows their leading digits
pub not_first : (w : List ℕ) (m : ℕ) (after : List ℕ) → FitsNumber m → w ≡ decimal m ++ SPACE ∷ after
    → (prefix_len is_ascii_digit w < length w) × (slice_index w (prefix_len is_ascii_digit w) ≡ 32)
not_first w m after fits e =
    let at = (leads w m (SPACE ∷ after) fits refl e).1 in (
      omega (arith, at, ap (length {A = ℕ}) e ∙ length-append (decimal m) (SPACE ∷ after)),
      ap (slice_index w) at ∙ ap (λ (x : List ℕ). slice_index x (length (decimal m))) e
          ∙ get_or-append_seam (decimal m) SPACE after 0,
    )
