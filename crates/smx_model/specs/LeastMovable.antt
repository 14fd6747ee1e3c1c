-- The least movable place.
use Rattle.std.specs.Prelude.{◌≡◌, true, false, List, Option, Some, None}
use Rattle.smx_types.specs.declared.driver.DriverSpec.{DriverSpec}
use Rattle.smx_types.specs.declared.stream.Place.{Place}
use Rattle.smx_model.specs.Configuration.{Configuration, place_before}
use Rattle.smx_model.specs.Settling.{is_movable, IsSettled}

-- the place is movable and none before it is; or `None`, and the configuration is settled
abbrev pub IsLeastMovable : List DriverSpec → Configuration → Option Place → Type 0
IsLeastMovable drivers c None = IsSettled drivers c
IsLeastMovable drivers c (Some p) =
    (is_movable drivers c p ≡ true) × ((q : Place) → place_before q p ≡ true → is_movable drivers c q ≡ false)
