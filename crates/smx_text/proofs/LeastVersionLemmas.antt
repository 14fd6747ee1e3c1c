-- The earliest version that can express something.
use Rattle.smx_text.proofs.Common.{refl, arith, nat_tests, most_drivers, DriverSpec, V1}
use Rattle.std.proofs.Common.{◌≡◌, ◌≤◌, Bool, true, false, List, length}
use Rattle.smx_types.specs.Versions.{are_more_drivers, version_2_where}

-- if version 1 is the earliest version, the reason for version 2 does not hold
pub is_first : (b : Bool) → version_2_where b ≡ V1 → b ≡ false
is_first true h = absurd cc
is_first false h = refl

-- as many drivers as version 1 allows, or fewer, are no reason for version 2
pub few_drivers : (ds : List DriverSpec) → length ds ≤ most_drivers V1 → are_more_drivers ds ≡ false
few_drivers ds few = grind arith

-- if the drivers are no reason for version 2, there are at most as many as version 1 allows
pub not_more : (ds : List DriverSpec) → are_more_drivers ds ≡ false → length ds ≤ most_drivers V1
not_more ds few = grind (arith, nat_tests)
