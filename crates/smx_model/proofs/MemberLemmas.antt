-- The elements of a list after an insertion or a filter.
use Rattle.smx_model.proofs.Common.{suc, Bool, arith, List, ◌∷◌, filter, refl, All-filter}
use Rattle.std.specs.List.{Contains}
use Rattle.std.proofs.lemmas.List.Elements.{All-contains, All-contains_itself}

-- the first element of a list is in it
pub is_first : {X : Type 0} (x : X) (xs : List X) → Contains (x ∷ xs) x
is_first x xs = (0, omega arith, refl)

-- an element of a list is in it with one more at the front
pub is_later : {X : Type 0} (x y : X) (ys : List X) → Contains ys x → Contains (y ∷ ys) x
is_later x y ys h = let lt = h.1 in (suc h.0, omega arith, h.2)

-- an element that a filter keeps was in the list
pub of_filtered : {X : Type 0} (test : X → Bool) (xs : List X) (x : X) → Contains (filter test xs) x → Contains xs x
of_filtered test xs x h =
    All-contains (Contains xs) (filter test xs) x (All-filter test (Contains xs) xs (All-contains_itself xs)) h
