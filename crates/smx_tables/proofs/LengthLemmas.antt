-- The lengths of changed lists.
use Rattle.std.proofs.Common.{◌≡◌, ◌+◌, ◌≤◌, Bool, List, length, filter}
use Rattle.smx_model.specs.Ordered.{with_inserted}
use Rattle.smx_addresses.proofs.ListedTableLemmas.{length_inserted}
use Rattle.std.proofs.lemmas.List.Sums.{length-filter, count_by-le-length}

-- a list with one item inserted is longer by one
pub longer_by_one : {X : Type 0} (before : X → X → Bool) (xs new : List X) (x : X) → new ≡ with_inserted before xs x
    → length new ≡ length xs + 1
longer_by_one before xs new x e = rw e (length_inserted before xs x)

-- a filter keeps at most as many items
pub fewer : {X : Type 0} (test : X → Bool) (xs : List X) → length (filter test xs) ≤ length xs
fewer test xs = rw (length-filter test xs) (count_by-le-length test xs)

-- a filtered list is not longer
pub not_more : {X : Type 0} (t : X → Bool) (xs new : List X) → new ≡ filter t xs → length new ≤ length xs
not_more t xs new e = rw e (fewer t xs)
