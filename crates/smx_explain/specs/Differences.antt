-- The first line in which two texts differ.
use Rattle.std.specs.Prelude.{◌≡◌, ◌≢◌, ℕ, ◌+◌, List, ◌∷◌, ◌++◌, length, ◌⊎◌}
use Rattle.std.specs.List.{AllByRecursion}
use Rattle.smx_words.specs.Words.{LINE_FEED, lines_text}
use Rattle.smx_text.specs.Grammar.{IsOneLine}

-- the first line of these bytes, whole or not
abbrev pub IsFirstLine : List ℕ → List ℕ → Type 0
IsFirstLine line bytes = IsOneLine line × ((bytes ≡ line) ⊎ ((after : List ℕ) × (bytes ≡ line ++ LINE_FEED ∷ after)))

-- both texts begin with these lines
pub record Begin (one other : List ℕ) (lines : List (List ℕ)) (rest behind : List ℕ) : Type 0 where
  pub are_lines : AllByRecursion IsOneLine lines
  pub one_is : one ≡ lines_text lines ++ rest
  pub other_is : other ≡ lines_text lines ++ behind

-- Line `number` is `told` in the one text and `has` in the other, and all earlier lines are the same.
pub record IsFirstDifference (one other : List ℕ) (number : ℕ) (told has : List ℕ) : Type 0 where
  -- this number of lines precede it, the same in both
  pub before : List (List ℕ)
  pub counted : number ≡ length before + 1
  -- then each text has a whole line
  pub told_is_one : IsOneLine told
  pub has_is_one : IsOneLine has
  pub more : List ℕ
  pub rest : List ℕ
  pub begin : Begin one other before (told ++ LINE_FEED ∷ more) (has ++ LINE_FEED ∷ rest)
  -- and these two lines are not the same
  pub differ : told ≢ has

-- no line differs before one of the texts has no further whole line
pub record AreAlike (one other : List ℕ) : Type 0 where
  pub lines : List (List ℕ)
  pub rest : List ℕ
  pub behind : List ℕ
  pub begin : Begin one other lines rest behind
  pub ends : IsOneLine rest ⊎ IsOneLine behind
