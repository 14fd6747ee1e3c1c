-- Bytes as a word.
use Rattle.std.specs.Prelude.{ℕ, ◌+◌, ◌-◌, Bool, ◌&&◌, ◌||◌, nat_le, nat_lt, if◌then◌else◌, List, [], ◌∷◌, codes}
use Rattle.hex.specs.Hex.{encode_lower}

-- two lower-case digits for each byte, the high four bits first; a dash for no bytes
abbrev pub hex_word : List ℕ → List ℕ
hex_word [] = codes "-"
hex_word (b ∷ bs) = encode_lower (b ∷ bs)

-- `0` to `9` and `a` to `f`
abbrev pub is_digit : ℕ → Bool
is_digit byte = (nat_le 48 byte && nat_le byte 57) || (nat_le 97 byte && nat_le byte 102)

-- the value of a digit
abbrev pub digit_value : ℕ → ℕ
digit_value digit = if nat_lt digit 97 then digit - 48 else digit - 97 + 10
