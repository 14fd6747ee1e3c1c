-- Ordered lists.
use Rattle.std.specs.Prelude.{◌≡◌, ℕ, Bool, true, nat_lt, if◌then◌else◌, List, [], ◌∷◌}
use Rattle.std.specs.List.{AllByRecursion}

-- the list with one more element, just before the first that comes after it
abbrev pub with_inserted : {X : Type 0} → (X → X → Bool) → List X → X → List X
with_inserted before [] x = x ∷ []
with_inserted before (y ∷ ys) x = if before x y then x ∷ y ∷ ys else y ∷ with_inserted before ys x

-- the relation holds between each element and all later ones
abbrev pub AllLater : {X : Type 0} → (X → X → Type 0) → List X → Type 0
AllLater R [] = Unit {0}
AllLater R (x ∷ xs) = AllByRecursion (R x) xs × AllLater R xs

-- the element comes before each element of the list
abbrev pub ComesBefore : {X : Type 0} → (X → X → Bool) → X → List X → Type 0
ComesBefore before x xs = AllByRecursion (λ y. before x y ≡ true) xs

-- each element comes before all later ones, so there are no duplicates
abbrev pub IsRising : {X : Type 0} → (X → X → Bool) → List X → Type 0
IsRising before xs = AllLater (λ x y. before x y ≡ true) xs

-- the same numbers, rising
abbrev pub in_rising_order : List ℕ → List ℕ
in_rising_order [] = []
in_rising_order (n ∷ ns) = with_inserted nat_lt (in_rising_order ns) n

-- the list without the first element that passes the test
abbrev pub without_first : {X : Type 0} → (X → Bool) → List X → List X
without_first test [] = []
without_first test (x ∷ xs) = if test x then xs else x ∷ without_first test xs
