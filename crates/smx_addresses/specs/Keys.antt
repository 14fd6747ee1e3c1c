-- Lists whose elements have a key of two numbers, and look-ups by key.
use Rattle.std.specs.Prelude.{◌≡◌, ℕ, Bool, false, ◌&&◌, ◌==◌, if◌then◌else◌, List, [], ◌∷◌, Option, Some, None}
use Rattle.std.specs.List.{list_any}
use Rattle.smx_model.specs.Configuration.{pair_before}

-- a driver, and an address or a minor
abbrev pub Key : Type 0
Key = ℕ × ℕ

-- both keys have the same numbers
abbrev pub is_key : Key → Key → Bool
is_key p q = (p.0 == q.0) && (p.1 == q.1)

-- the value of the first element with the key
abbrev pub found : {X : Type 0} → (X → Key) → (X → ℕ) → List X → Key → Option ℕ
found key value [] k = None
found key value (x ∷ xs) k = if is_key k (key x) then Some (value x) else found key value xs k

-- no two elements have the same key
abbrev pub AreApart : {X : Type 0} → (X → Key) → List X → Type 0
AreApart key [] = Unit {0}
AreApart key (x ∷ xs) = (list_any (λ y. is_key (key y) (key x)) xs ≡ false) × AreApart key xs

-- order by key, the first number before the second
abbrev pub by_key : {X : Type 0} → (X → Key) → X → X → Bool
by_key key x y = pair_before (key x).0 (key x).1 (key y).0 (key y).1

-- the result of a look-up by a key, after some keys are removed
abbrev pub left_of : List Key → Key → Option ℕ → Option ℕ
left_of gone k r = if list_any (is_key k) gone then None else r
