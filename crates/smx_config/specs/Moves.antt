-- The move that settling makes next. No public clause needs this.
use Rattle.std.specs.Prelude.{◌≡◌, ℕ, true, false, List, Option, Some, None}
use Rattle.smx_config.specs.declared.settling.Move.{Move}
use Rattle.smx_types.specs.declared.driver.DriverSpec.{DriverSpec}
use Rattle.smx_types.specs.declared.stream.Place.{Place}
use Rattle.smx_model.specs.Configuration.{Configuration}
use Rattle.smx_model.specs.Queues.{is_full}
use Rattle.smx_model.specs.RunMarks.{next_of_first}
use Rattle.smx_model.specs.Settling.{next_open_place, least_movable}
use Rattle.smx_config.specs.Marking.{IsAt}

-- the place with this number is not full
abbrev pub IsOpenAt : List DriverSpec → Configuration → ℕ → Type 0
IsOpenAt drivers c n = (q : Place) → IsAt drivers n q → is_full c q ≡ false

-- the place with this number is full
abbrev pub IsFullAt : List DriverSpec → Configuration → ℕ → Type 0
IsFullAt drivers c n = (q : Place) → IsAt drivers n q → is_full c q ≡ true

-- the next place of the first message at this place is the one with this number
pub record GoesTo (drivers : List DriverSpec) (c : Configuration) (p : Place) (n : ℕ) : Type 0 where
  pub place : Place
  pub there : IsAt drivers n place
  pub next : next_of_first drivers c p ≡ Some place

-- the number of the place where the first message of a place goes next, if there is one
abbrev pub IsNextOf : List DriverSpec → Configuration → Place → Option ℕ → Type 0
IsNextOf drivers c p None = next_of_first drivers c p ≡ None
IsNextOf drivers c p (Some n) = GoesTo drivers c p n

-- the move is from the place with one number to the place with another, which is the next place of the first message
-- and is not full
pub record IsOpenMove (drivers : List DriverSpec) (c : Configuration) (m : Move) : Type 0 where
  pub from : Place
  pub to : Place
  pub from_at : IsAt drivers m.from from
  pub to_at : IsAt drivers m.to to
  pub goes : next_open_place drivers c from ≡ Some to

-- a move from the least movable place
pub record IsFirstMove (drivers : List DriverSpec) (c : Configuration) (m : Move) : Type 0 where
  pub moves : IsOpenMove drivers c m
  pub least : least_movable drivers c ≡ Some moves.from

-- from the least movable place to its next open place; or no place is movable
abbrev pub IsLeastMove : List DriverSpec → Configuration → Option Move → Type 0
IsLeastMove drivers c None = least_movable drivers c ≡ None
IsLeastMove drivers c (Some m) = IsFirstMove drivers c m
