-- Words for some values, one by one.
use Rattle.smx_explain.proofs.Common.{◌≡◌, ℕ, List, [], ◌∷◌, refl, ap, IsValue, Value}
use Rattle.smx_explain.proofs.Spelling.{Takes}

-- a word for each of some values
abbrev pub Words : List Value → Type 0
Words [] = Unit {0}
Words (value ∷ values) = ((word : List ℕ) × IsValue value word) × Words values

-- the words for these values, in order
abbrev pub words_of : (values : List Value) → Words values → List (List ℕ)
words_of [] ws = []
words_of (value ∷ values) ws = ws.0.0 ∷ words_of values ws.1

-- words for the values are a word for each
pub each : (values : List Value) (args : List (List ℕ)) → Takes values args
    → (ws : Words values) × (args ≡ words_of values ws)
each [] [] takes = (tt, refl)
each [] (arg ∷ args) takes = absurd takes
each (value ∷ values) [] takes = absurd takes
each (value ∷ values) (arg ∷ args) takes =
    let t = each values args takes.1 in (((arg, takes.0), t.0), ap (λ (ws : List (List ℕ)). arg ∷ ws) t.1)
