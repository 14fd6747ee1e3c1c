-- At most as many serials leave a flow as are in it.
use Rattle.std.proofs.Common.{◌≡◌, ℕ, ◌≤◌, ltb, List, [], ◌∷◌, length, refl, arith}
use Rattle.std.proofs.lemmas.List.{length-map}
use Rattle.smx_model.specs.Configuration.{QueuedMessage}
use Rattle.smx_model.specs.Ordered.{in_rising_order}
use Rattle.smx_model.specs.Removal.{serials_that_left}
use Rattle.smx_tables.proofs.LengthLemmas.{longer_by_one, not_more}

-- a list in rising order is as long as before
as_many : (ns : List ℕ) → length (in_rising_order ns) ≡ length ns
as_many [] = refl
as_many (n ∷ ns) = omega (arith, longer_by_one ltb (in_rising_order ns) _ n refl, as_many ns)

-- at most as many serials leave a flow as are in it
pub few_left : (old new : List QueuedMessage) → length (serials_that_left old new) ≤ length old
few_left old new = grind (arith, as_many, not_more, length-map)
