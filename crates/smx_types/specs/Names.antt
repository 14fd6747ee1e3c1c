-- The bytes of a driver's name.
use Rattle.std.specs.Prelude.{ℕ, Bool, ◌&&◌, ◌||◌, nat_le, List, [], ◌∷◌, ◌++◌, length, drop, slice_index}
use Rattle.std.specs.Char.{is_ascii_digit, is_ascii_lowercase}
use Rattle.std.specs.List.{list_all}

-- a to z, or 0 to 9
abbrev pub is_name_byte : ℕ → Bool
is_name_byte b = is_ascii_lowercase b || is_ascii_digit b

-- 1 to 8 of a to z and 0 to 9; the first is a letter
abbrev pub is_name : List ℕ → Bool
is_name text = is_ascii_lowercase (slice_index text 0) && (nat_le (length text) 8 && list_all is_name_byte text)

-- a name followed by zeros up to eight bytes, as it is stored
abbrev pub padded : List ℕ → List ℕ
padded text = text ++ drop (length text) (0 ∷ 0 ∷ 0 ∷ 0 ∷ 0 ∷ 0 ∷ 0 ∷ 0 ∷ [])
