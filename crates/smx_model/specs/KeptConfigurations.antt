-- The invariant of configurations: it holds of the empty one, and each command preserves it.
use Rattle.std.specs.Prelude.{◌≢◌, ◌<◌, List}
use Rattle.std.specs.List.{All, AllPairs}
use Rattle.smx_types.specs.declared.driver.DriverSpec.{DriverSpec}
use Rattle.smx_model.specs.Configuration.{Configuration}
use Rattle.smx_model.specs.KnownStreams.{AreStreamsKnown}
use Rattle.smx_model.specs.OrderedParts.{AreListsOrdered}
use Rattle.smx_model.specs.Removal.{serials}
use Rattle.smx_model.specs.Settling.{IsSettled}
use Rattle.smx_model.specs.SoundLinks.{AreIdsRising, AreLinksSound, AreRoutesSound}
use Rattle.smx_model.specs.Swept.{IsSwept}

-- no two queued messages have the same serial, and each serial is below the next one
pub record AreSerialsSound (c : Configuration) : Type 0 where
  pub apart : AllPairs (λ m n. m ≢ n) (serials c.flow)
  pub below_next : All (λ n. n < c.next_serial) (serials c.flow)

-- the part of the invariant that also holds before settling
pub record IsSound (drivers : List DriverSpec) (c : Configuration) : Type 0 where
  -- the links form no cycle, and no stream is below two of them
  pub links : AreLinksSound c.links
  -- their ids rise and are below the next one
  pub ids : AreIdsRising c.links c.next_id
  -- each route names a link of its own driver
  pub routes : AreRoutesSound drivers c
  -- each part names streams that its drivers have
  pub known : AreStreamsKnown drivers c
  -- each list is in order
  pub ordered : AreListsOrdered c
  -- the queued messages have different serials
  pub serials : AreSerialsSound c
  -- nothing belongs to streams that don't exist
  pub swept : IsSwept drivers c

-- the configuration is sound, and no message can move
pub record IsKept (drivers : List DriverSpec) (c : Configuration) : Type 0 where
  pub sound : IsSound drivers c
  pub settled : IsSettled drivers c
