-- How HTML shows a text.
use Rattle.std.specs.Prelude.{ℕ, List, [], ◌∷◌, codes, ◌==◌, if◌then◌else◌}
use Rattle.std.specs.List.{flat_map}

-- `&`, `<` and `>` by their names, and every other byte by itself
abbrev pub escaped_byte : ℕ → List ℕ
escaped_byte b =
    if b == 38 then codes "&amp;" else (if b == 60 then codes "&lt;" else (if b == 62 then codes "&gt;" else b ∷ []))

-- a text as HTML shows it
abbrev pub escaped : List ℕ → List ℕ
escaped text = flat_map escaped_byte text
