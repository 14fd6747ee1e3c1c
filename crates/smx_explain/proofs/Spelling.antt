-- The words that complete a line from some values and then a choice.
use Rattle.smx_explain.proofs.Common.{ℕ, List, [], ◌∷◌, Version, GoesOn, IsValue, Choice, Value}
use Rattle.smx_explain.specs.Columns.{EndsThere, wanted_of}

-- the words complete the line
abbrev pub Spells : Version → List Value → Choice → List (List ℕ) → Type 0
Spells version values choice [] = EndsThere (wanted_of values choice)
Spells version values choice (word ∷ words) = (behind : List Value) × (next : Choice)
    × GoesOn version values choice word behind next × Spells version behind next words

-- a word for each of the values
abbrev pub Takes : List Value → List (List ℕ) → Type 0
Takes [] [] = Unit {0}
Takes [] (word ∷ words) = ⊥
Takes (value ∷ values) [] = ⊥
Takes (value ∷ values) (word ∷ words) = IsValue value word × Takes values words
