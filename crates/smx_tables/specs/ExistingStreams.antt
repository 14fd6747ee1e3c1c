-- The table of streams and the links: the holds of each stream, and the streams that exist.
use Rattle.std.specs.Prelude.{◌≡◌, ℕ, ◌+◌, ◌≤◌, Bool, true, false, ◌&&◌, not, nat_lt, List, [], ◌∷◌, if◌then◌else◌}
use Rattle.std.specs.List.{All}
use Rattle.smx_types.specs.declared.driver.DriverSpec.{DriverSpec}
use Rattle.smx_types.specs.declared.link.Link.{Link}
use Rattle.smx_types.specs.declared.stream.StreamId.{StreamId}
use Rattle.smx_model.specs.Configuration.{Configuration}
use Rattle.smx_model.specs.Standing.{is_persistent, is_below, exists}
use Rattle.smx_streams.specs.StreamTables.{StreamTable, number_at, exists as is_there}
use Rattle.smx_tables.specs.ListedLinks.{is_orphaned}

-- 1 for a stream below a link, and 0 for any other stream
abbrev pub holds_of : List Link → StreamId → ℕ
holds_of links s = if is_below links s then 1 else 0

-- each stream below a link has one hold, and no other stream has a hold
abbrev pub AreHeld : List Link → StreamTable → Type 0
AreHeld links t = (s : StreamId) → number_at t.holds s ≡ holds_of links s

-- the streams in the table are those that exist
abbrev pub TellsExisting : List DriverSpec → Configuration → StreamTable → Type 0
TellsExisting drivers c t = (s : StreamId) → is_there t s ≡ exists drivers c s

-- the lower stream of the link is held
abbrev pub is_held : StreamTable → Link → Bool
is_held t l = nat_lt 0 (number_at t.holds l.lower)

-- the link is ordinary, its lower stream is held, and its controlling stream is not in the table
abbrev pub is_loose : StreamTable → Link → Bool
is_loose t l = not (is_persistent l) && (is_held t l && not (is_there t l.ctl))

-- what holds while the lower streams of orphaned links are released
pub record IsReleasing (links : List Link) (climbs : ℕ) (t : StreamTable) : Type 0 where
  -- each held stream is below a link, and has one hold
  pub once : (s : StreamId) → number_at t.holds s ≤ holds_of links s
  -- each link whose lower stream is no longer held is orphaned
  pub orphaned : All (λ l. is_held t l ≡ false → is_orphaned t.fds links climbs l ≡ true) links

-- the total number of holds of the lower streams of these links
abbrev pub holds_below : List Link → StreamTable → ℕ
holds_below [] t = 0
holds_below (l ∷ ls) t = number_at t.holds l.lower + holds_below ls t
