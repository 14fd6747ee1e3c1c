-- Bytes as words of hexadecimal digits.
use Rattle.smx_words.proofs.Common.{◌≡◌, ◌≢◌, ℕ, zero, suc, ◌+◌, ◌*◌, ◌<◌, Bool, true, eqb, ◌&&◌, ◌||◌, List, [], ◌∷◌}
use Rattle.smx_words.proofs.Common.{◌++◌, length, slice_index, get_or, take, refl, sym, ap, ◌∙◌, arith, list_all}
use Rattle.smx_words.proofs.Common.{and_parts, nat_tests, hex_word, is_digit, FitsBytes}
use lib.Seq.{take-append_seam}
use Rattle.std.proofs.Common.{◌/◌, ◌%◌, not, ltb, set}
use Rattle.std.specs.Prelude.{codes}
use Rattle.std.proofs.lemmas.Bool.Decides.{Decides-below_and}
use Rattle.std.proofs.lemmas.List.{take_more, take_more_set}
use Rattle.hex.specs.Hex.{IsBytes, encode_lower, encode_with, lower_digits}
use Rattle.smx_words.specs.HexWords.{digit_value}
use Rattle.smx_words.specs.LineReading.{IsSpelled}

-- ---- digits

-- if all bytes pass a test, the byte at each index passes it
pub all_at : (test : ℕ → Bool) (w : List ℕ) (i : ℕ) → i < length w → list_all test w ≡ true
    → test (slice_index w i) ≡ true
all_at test [] i lt h = absurd (omega arith)
all_at test (b ∷ w) zero lt h = (and_parts (test b) (list_all test w) h).0
all_at test (b ∷ w) (suc i) lt h = all_at test w i (omega arith) (and_parts (test b) (list_all test w) h).1

-- the library's sixteen lower-case digits are digits
digit_at : (k : ℕ) → k < 16 → is_digit (slice_index lower_digits k) ≡ true
digit_at k lt = all_at is_digit lower_digits k lt refl

-- a test: each number below another number passes a test
abbrev all_below : (ℕ → Bool) → ℕ → Bool
all_below test zero = true
all_below test (suc n) = test n && all_below test n

-- a test: a byte is no digit, or has a value below 16 and is the digit of that value
abbrev is_told : ℕ → Bool
is_told d = not (is_digit d) || (ltb (digit_value d) 16 && eqb (slice_index lower_digits (digit_value d)) d)

-- a digit has a value below 16, and it is the digit of that value
value_back : (d : ℕ) → is_digit d ≡ true → (digit_value d < 16) × (slice_index lower_digits (digit_value d) ≡ d)
value_back d h =
    let low : d < 103 = grind (arith, nat_tests) in
    let told : is_told d ≡ true = (Decides-below_and is_told (λ k. is_told k ≡ true) (all_below is_told)
    (λ k. (λ e. e, λ e. e)) refl (λ n. refl) 103).0 refl d low in
    by_parts (is_digit d) (digit_value d) (slice_index lower_digits (digit_value d)) h told where
      by_parts : (t : Bool) (v e : ℕ) → t ≡ true → (not t || (ltb v 16 && eqb e d)) ≡ true → (v < 16) × (e ≡ d)
      by_parts t v e h k = (grind (arith, nat_tests), grind (arith, nat_tests))

-- ---- bytes and their digits

-- bytes that can be spelled are bytes as the library defines them
pub are_bytes : (bs : List ℕ) → FitsBytes bs → IsBytes bs
are_bytes [] h i = omega arith
are_bytes (b ∷ bs) h zero = h.0
are_bytes (b ∷ bs) h (suc i) = are_bytes bs h.1 i

-- numbers below 256 at each index are bytes that can be spelled
pub fits_all : (bs : List ℕ) → IsBytes bs → FitsBytes bs
fits_all [] h = tt
fits_all (b ∷ bs) h = (h 0, fits_all bs (λ i. h (suc i)))

-- encoded bytes are only digits
pub encoded_digits : (bs : List ℕ) → FitsBytes bs → list_all is_digit (encode_lower bs) ≡ true
unfolding encode_with
encoded_digits [] h = refl
encoded_digits (b ∷ bs) h =
    let small = h.0 in
    rw (digit_at (b / 16) (omega arith), digit_at (b % 16) (omega arith), encoded_digits bs h.1) refl

-- bytes are encoded as twice as many digits
pub encoded_long : (bs : List ℕ) → length (encode_lower bs) ≡ 2 * length bs
unfolding encode_with
encoded_long [] = refl
encoded_long (b ∷ bs) = omega (arith, encoded_long bs)

-- the digits of one or more bytes are the word of these bytes
pub some_digits : (w bs : List ℕ) → 0 < length w → w ≡ encode_lower bs → w ≡ hex_word bs
unfolding encode_with
some_digits w [] some e = absurd (omega (arith, ap (length {A = ℕ}) e))
some_digits w (b ∷ bs) some e = e

-- a word other than a dash that spells bytes is their digits, of even length and not empty
pub by_digits : (w bs : List ℕ) → w ≢ codes "-" → FitsBytes bs → w ≡ hex_word bs
    → (0 < length w) × (list_all is_digit w ≡ true) × (length w ≡ 2 * length bs)
by_digits w [] other fits e = absurd (other e)
by_digits w (b ∷ bs) other fits e =
    let even = ap (length {A = ℕ}) e ∙ encoded_long (b ∷ bs) in
    (omega (arith, even), ap (list_all is_digit) e ∙ encoded_digits (b ∷ bs) fits, even)

-- ---- the bytes that digits spell

-- the bytes that digits spell, two digits each
abbrev pub bytes_at : List ℕ → List ℕ
bytes_at [] = []
bytes_at (a ∷ []) = []
bytes_at (a ∷ b ∷ w) = (digit_value a * 16 + digit_value b) ∷ bytes_at w

-- digits of even length spell bytes that can be spelled and that are encoded as these digits
pub spelled_by : (w : List ℕ) (n : ℕ) → length w ≡ 2 * n → list_all is_digit w ≡ true
    → FitsBytes (bytes_at w) × (w ≡ encode_lower (bytes_at w))
unfolding encode_with
spelled_by [] n even h = (tt, refl)
spelled_by (a ∷ []) n even h = absurd (omega (arith, even))
spelled_by (a ∷ b ∷ w) zero even h = absurd (omega (arith, even))
spelled_by (a ∷ b ∷ w) (suc n) even h =
    let first = and_parts (is_digit a) (is_digit b && list_all is_digit w) h in
    let second = and_parts (is_digit b) (list_all is_digit w) first.1 in
    let more = spelled_by w n (omega (arith, even)) second.1 in
    let x = value_back a first.0 in
    let y = value_back b second.0 in
    let v = digit_value a * 16 + digit_value b in
    let top : v / 16 ≡ digit_value a = omega (arith, x.0, y.0) in
    let bottom : v % 16 ≡ digit_value b = omega (arith, x.0, y.0) in
    ((omega (arith, x.0, y.0), more.0), rw (top, bottom, x.1, y.1, ← more.1) refl)

-- one or more digits of even length are the word of some bytes
pub spell_some : (w : List ℕ) → 0 < length w → length w % 2 ≢ 1 → list_all is_digit w ≡ true
    → IsSpelled FitsBytes hex_word w
spell_some w some even h =
    let s = spelled_by w (length w / 2) (omega (arith, even)) h in
    (bytes_at w, s.0, some_digits w (bytes_at w) some s.1)

-- the byte at an index is spelled by the two digits at twice that index
byte_at : (w : List ℕ) (i : ℕ) → 2 * i + 1 < length w
    → get_or (bytes_at w) i 0 ≡ digit_value (get_or w (2 * i) 0) * 16 + digit_value (get_or w (2 * i + 1) 0)
byte_at [] i lt = absurd (omega arith)
byte_at (a ∷ []) i lt = absurd (omega arith)
byte_at (a ∷ b ∷ w) zero lt = refl
byte_at (a ∷ b ∷ w) (suc i) lt =
    let second : 2 * suc i + 1 ≡ suc (suc (2 * i + 1)) = omega arith in
    let first : 2 * suc i ≡ suc (suc (2 * i)) = omega arith in
    rw (second, first) (byte_at w i (omega arith))

-- ---- the loop that sets the bytes

-- setting the next byte to the value of the next two digits makes one more byte that the digits spell
pub one_byte_more : (w bs : List ℕ) (i : ℕ) → length w ≡ 2 * length bs → list_all is_digit w ≡ true → i < length bs
    → take i bs ≡ take i (bytes_at w)
    → take (i + 1) (set bs i (digit_value (get_or w (2 * i) 0) * 16 + digit_value (get_or w (2 * i + 1) 0)))
    ≡ take (i + 1) (bytes_at w)
one_byte_more w bs i even h lt so_far =
    let s = spelled_by w (length bs) even h in
    let long = ap (length {A = ℕ}) s.1 ∙ encoded_long (bytes_at w) in
    take_more_set bs i _ lt
    ∙ rw (so_far, ← byte_at w i (omega arith)) (sym (take_more (bytes_at w) i 0 (omega (arith, even, long))))

-- if the bytes that digits spell were put before others, that many of the first bytes are those
pub set_are : (w new old got : List ℕ) (n : ℕ) → got ≡ take n (new ++ old) → length new ≡ n
    → FitsBytes new × (w ≡ encode_lower new) → FitsBytes got × (w ≡ encode_lower got)
set_are w new old got n kept long both =
    let same : got ≡ new = kept ∙ ap (λ (k : ℕ). take k (new ++ old)) (sym long) ∙ take-append_seam new old in
    rw same both
