-- The next place of messages with an address, as it was last found. No public clause needs this.
use Rattle.std.specs.Prelude.{◌≡◌, ℕ, ◌+◌, ◌<◌, ◌≤◌, ◌^◌, Bool, true, false, List, length, Option, Some, None}
use Rattle.std.specs.Prelude.{slice_index_or}
use Rattle.smx_types.specs.declared.command.Command.{Command}
use Rattle.smx_types.specs.declared.command.Command.TheVariants as command
use Rattle.smx_types.specs.declared.driver.DriverSpec.{DriverSpec}
use Rattle.smx_types.specs.declared.stream.Place.{Place}
use Rattle.smx_model.specs.Configuration.{Configuration}
use Rattle.smx_model.specs.Settling.{next_place}
use Rattle.smx_queues.specs.PlaceLists.{places_of}
use Rattle.smx_config.specs.Marking.{IsAt}
use Rattle.smx_config.specs.declared.hops.Hop.{Hop}
use Rattle.smx_config.specs.declared.hops.Hops.{Hops}

-- the next place of messages with this address, from this place, is the one with this number
pub record LeadsTo (drivers : List DriverSpec) (c : Configuration) (p : Place) (addr n : ℕ) : Type 0 where
  pub place : Place
  pub there : IsAt drivers n place
  pub next : next_place drivers c p addr ≡ Some place

-- the number of the next place of messages with an address, from a place, if there is one
abbrev pub IsWay : List DriverSpec → Configuration → Place → ℕ → Option ℕ → Type 0
IsWay drivers c p addr None = next_place drivers c p addr ≡ None
IsWay drivers c p addr (Some n) = LeadsTo drivers c p addr n

-- both configurations have the same links, routes, bindings and hung-up streams, so messages have the same next places
-- in both
pub record KeepsWays (old new : Configuration) : Type 0 where
  pub links : new.links ≡ old.links
  pub routes : new.routes ≡ old.routes
  pub binds : new.binds ≡ old.binds
  pub hungs : new.hungs ≡ old.hungs

-- the command, if it is accepted, only adds or removes messages
abbrev pub keeps_ways : Command → Bool
keeps_ways (command.Write fd addr bytes) = true
keeps_ways (command.Read fd) = true
keeps_ways (command.Flush fd w) = true
keeps_ways (command.Inject name minor addr bytes) = true
keeps_ways (command.Transmit name minor) = true
keeps_ways k = false

-- the hop of the place with this number
abbrev pub hop_at : Hops → ℕ → Hop
hop_at h i = slice_index_or h.hops.items i (record { addr = 0; to = 0; age = 0 })

-- there is a hop for each place, and those of this age lead where messages go next, unless it is the last age
pub record AreHops (drivers : List DriverSpec) (c : Configuration) (h : Hops) : Type 0 where
  pub many : length h.hops.items ≡ length (places_of drivers)
  pub young : (i : ℕ) → (hop_at h i).age ≤ h.age
  pub right : (i : ℕ) (p : Place) → IsAt drivers i p → (hop_at h i).age ≡ h.age → h.age + 1 < 2 ^ 64
      → LeadsTo drivers c p (hop_at h i).addr (hop_at h i).to
