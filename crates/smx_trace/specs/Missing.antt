-- The merge of two lists that rise. No public clause needs this.
use Rattle.std.specs.Prelude.{◌≡◌, ℕ, true, false, List, [], ◌∷◌, ◌++◌}
use Rattle.std.specs.Prelude.{Bool}
use Rattle.std.specs.List.{AllByRecursion, flat_map}
use Rattle.smx_model.specs.Changes.{missing_from}
use Rattle.smx_trace.specs.Ranks.{IsRanked, is_before}

-- each of these comes before x
abbrev pub AreBefore : {X : Type 0} → (X → ℕ × ℕ) → X → List X → Type 0
AreBefore rank x ys = AllByRecursion (λ y. is_before rank y x ≡ true) ys

-- the first of these, if there is one, doesn't come before x
abbrev pub StartsAt : {X : Type 0} → (X → ℕ × ℕ) → X → List X → Type 0
StartsAt rank x [] = Unit {0}
StartsAt rank x (y ∷ ys) = is_before rank y x ≡ false

-- `rest` follows some elements of `ys` that come before each of `xs`
pub record ComesTo {X : Type 0} (rank : X → ℕ × ℕ) (ys xs rest : List X) : Type 0 where
  pub passed : List X
  pub whole : ys ≡ passed ++ rest
  pub before : AllByRecursion (λ x. AreBefore rank x passed) xs

-- A step of the walk along a rising list. Before it, `others` is left of the list, after elements that come before x
-- and before all later elements. After it, `rest` is left, after elements that come before the later elements. The text
-- has grown by the text of x, unless x is in the list.
abbrev pub StepsTo : {X : Type 0} → (X → ℕ × ℕ) → (X → X → Bool) → (X → List ℕ) → X → List X → List X → List ℕ
    → List ℕ → Type 0
StepsTo {X} rank same text x others rest before after = (ys xs : List X) → IsRanked rank ys
    → AllByRecursion (λ z. is_before rank x z ≡ true) xs → ComesTo rank ys (x ∷ xs) others
    → ComesTo rank ys xs rest × (after ≡ before ++ flat_map text (missing_from same (x ∷ []) ys))
