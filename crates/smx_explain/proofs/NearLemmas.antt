-- The first near word of two joined tables, and the word that is meant.
use Rattle.smx_explain.proofs.Common.{◌≡◌, ℕ, Bool, true, false, List, [], ◌∷◌, ◌++◌, Option, Some, None, length}
use Rattle.smx_explain.proofs.Common.{refl, Version, V1, V2, WordRow, rows_in, Choice, ProgramsLine, SessionCommand}
use Rattle.std.specs.Prelude.{if◌then◌else◌, nat_eq}
use Rattle.smx_explain.specs.Hints.{first_near, is_near, meant}
use Rattle.smx_explain.specs.declared.kinds.Choice.TheVariants.{Command}

-- what holds of the rest of a search holds of all of it, if a row in front that is near ends it
found_by : (near : Bool) (first : List ℕ) (rest more : Option (List ℕ)) (verb : List ℕ)
    → (rest ≡ Some verb → more ≡ Some verb) → (if near then Some first else rest) ≡ Some verb
    → (if near then Some first else more) ≡ Some verb
found_by true first rest more verb on is = is
found_by false first rest more verb on is = on is

-- a search that finds nothing goes on
missed_by : (near : Bool) (first : List ℕ) (rest more last : Option (List ℕ)) → (rest ≡ None → more ≡ last)
    → (if near then Some first else rest) ≡ None → (if near then Some first else more) ≡ last
missed_by true first rest more last on none = absurd (cc none)
missed_by false first rest more last on none = on none

-- a near word of the first table is that of both
pub first_found : (ks ls : List WordRow) (word verb : List ℕ) → first_near ks word ≡ Some verb
    → first_near (ks ++ ls) word ≡ Some verb
first_found [] ls word verb is = absurd (cc is)
first_found (k ∷ ks) ls word verb is =
    found_by (is_near word k.0) k.0 (first_near ks word) (first_near (ks ++ ls) word) verb
    (first_found ks ls word verb) is

-- if no word of the first table is near, the near word of both is that of the second
pub first_missed : (ks ls : List WordRow) (word : List ℕ) → first_near ks word ≡ None
    → first_near (ks ++ ls) word ≡ first_near ls word
first_missed [] ls word none = refl
first_missed (k ∷ ks) ls word none =
    missed_by (is_near word k.0) k.0 (first_near ks word) (first_near (ks ++ ls) word) (first_near ls word)
    (first_missed ks ls word) none

-- a near word of the choice is meant by a word that is not empty
pub meant_first : (version : Version) (choice : Choice) (word verb : List ℕ) → nat_eq (length word) 0 ≡ false
    → first_near (rows_in version choice) word ≡ Some verb → meant version choice word ≡ Some verb
meant_first version choice [] verb some is = absurd (cc some)
meant_first version ProgramsLine (b ∷ word) verb some is =
    first_found (rows_in version ProgramsLine) (rows_in version Command) (b ∷ word) verb is
meant_first version SessionCommand (b ∷ word) verb some is = absurd (none version is) where
  none : (v : Version) → first_near (rows_in v SessionCommand) (b ∷ word) ≡ Some verb → ⊥
  none V1 h = cc h
  none V2 h = cc h
meant_first version choice (b ∷ word) verb some is = is
