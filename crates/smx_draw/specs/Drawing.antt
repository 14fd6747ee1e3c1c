-- Parts of a picture, one after the other.
use Rattle.std.specs.Prelude.{◌≡◌, ℕ, List, [], ◌∷◌, ◌++◌}
use Rattle.smx_draw.specs.declared.svg.block.Area.{Area}

module _ {X : Type 0} where
  -- the text `after` is `before`, followed by the element of each of these, at some place, and nothing else
  abbrev pub Draws : (X → Area → List ℕ) → List X → List ℕ → List ℕ → Type 0
  Draws element [] before after = after ≡ before
  Draws element (x ∷ xs) before after = (at : Area) × Draws element xs (before ++ element x at) after

-- the text contains this part
abbrev pub HasPart : List ℕ → List ℕ → Type 0
HasPart text part = (before after : List ℕ) × (text ≡ before ++ part ++ after)
