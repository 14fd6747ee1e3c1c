-- An escaped text has no tags.
use Rattle.std.proofs.Common.{◌≡◌, ◌≢◌, ℕ, ◌<◌, Bool, true, false, List, [], ◌∷◌, ◌++◌, refl, subst, arith}
use Rattle.std.specs.Prelude.{◌==◌, codes, if◌then◌else◌}
use Rattle.std.specs.List.{AllByRecursion}
use Rattle.smx_steps.specs.Escapes.{escaped, escaped_byte}

-- the byte neither begins nor ends a tag
abbrev pub IsNoTag : ℕ → Type 0
IsNoTag b = (b ≢ 60) × (b ≢ 62)

-- texts that are one after the other
both : (xs ys : List ℕ) → AllByRecursion IsNoTag xs → AllByRecursion IsNoTag ys → AllByRecursion IsNoTag (xs ++ ys)
both [] ys h k = k
both (x ∷ xs) ys (one, rest) k = (one, both xs ys rest k)

-- a byte below `<` or above `>`
low : (b : ℕ) → b < 60 → IsNoTag b
low b lt = (λ is. omega (arith, lt, is), λ is. omega (arith, lt, is))

high : (b : ℕ) → 62 < b → IsNoTag b
high b lt = (λ is. omega (arith, lt, is), λ is. omega (arith, lt, is))

-- a byte by its name, or by itself if it has none
of_byte : (b : ℕ) (amp lt gt : Bool) → (b == 60) ≡ lt → (b == 62) ≡ gt
    → AllByRecursion IsNoTag
    (if amp then codes "&amp;" else (if lt then codes "&lt;" else (if gt then codes "&gt;" else b ∷ [])))
of_byte b true lt gt e f = (
  low 38 (omega arith),
  (high 97 (omega arith), (high 109 (omega arith), (high 112 (omega arith), (low 59 (omega arith), tt)))),
)
of_byte b false true gt e f =
    (low 38 (omega arith), (high 108 (omega arith), (high 116 (omega arith), (low 59 (omega arith), tt))))
of_byte b false false true e f =
    (low 38 (omega arith), (high 103 (omega arith), (high 116 (omega arith), (low 59 (omega arith), tt))))
of_byte b false false false e f = (
  (
    λ is. let bad : (60 == 60) ≡ false = subst (λ (x : ℕ). (x == 60) ≡ false) is e in absurd cc,
    λ is. let bad : (62 == 62) ≡ false = subst (λ (x : ℕ). (x == 62) ≡ false) is f in absurd cc,
  ),
  tt,
)

pub no_tags : (text : List ℕ) → AllByRecursion IsNoTag (escaped text)
no_tags [] = tt
no_tags (b ∷ text) =
    both (escaped_byte b) (escaped text) (of_byte b (b == 38) (b == 60) (b == 62) refl refl) (no_tags text)
