-- The streams that a change touches, so that they may have ceased to exist, and what is removed with them.
use Rattle.std.specs.Prelude.{◌≡◌, ℕ, ◌+◌, ◌≤◌, Bool, true, ◌&&◌, ◌||◌, not, List, filter, length}
use Rattle.std.specs.List.{list_any, list_all}
use Rattle.smx_types.specs.declared.link.Link.{Link}
use Rattle.smx_types.specs.declared.stream.StreamId.{StreamId}
use Rattle.smx_model.specs.Configuration.{Configuration, same_stream}
use Rattle.smx_model.specs.Removal.{without_queues_at}
use Rattle.smx_model.specs.Standing.{is_persistent}
use Rattle.smx_streams.specs.StreamTables.{StreamTable, exists as is_there}
use Rattle.smx_tables.specs.ExistingStreams.{is_held, is_loose, holds_below, IsReleasing}
use Rattle.smx_tables.specs.ListedLinks.{AreIdsOf}

-- the stream is in the table, or touched
abbrev pub is_there_or_touched : StreamTable → List StreamId → StreamId → Bool
is_there_or_touched t touched s = is_there t s || list_any (same_stream s) touched

-- the stream was seen, and is not in the table
abbrev pub is_dead : StreamTable → List StreamId → StreamId → Bool
is_dead t seen s = not (is_there t s) && list_any (same_stream s) seen

-- the configuration without the messages, full marks and bindings of some streams
abbrev pub without_streams : Configuration → (StreamId → Bool) → Configuration
without_streams c goes = without_queues_at unbound (λ p. goes p.stream) where
  unbound : Configuration
  unbound = record c { binds = filter (λ b. not (goes (record { driver = b.driver; minor = b.minor }))) c.binds }

-- the controlling stream of each ordinary link, and each stream with a binding, a message or a full mark, is in the
-- table or touched
pub record IsTouched (t : StreamTable) (touched : List StreamId) (c : Configuration) : Type 0 where
  pub links : list_all (λ l. is_persistent l || is_there_or_touched t touched l.ctl) c.links ≡ true
  pub binds : list_all (λ b. is_there_or_touched t touched (record { driver = b.driver; minor = b.minor })) c.binds
      ≡ true
  pub flow : list_all (λ h. is_there_or_touched t touched h.place.stream) c.flow ≡ true
  pub fulls : list_all (λ p. is_there_or_touched t touched p.stream) c.fulls ≡ true

-- the link isn't loose, or its controlling stream is touched
abbrev pub is_watched : StreamTable → List StreamId → Link → Bool
is_watched t touched l = not (is_loose t l) || list_any (same_stream l.ctl) touched

-- what holds while the lower streams of loose links are released, so that these streams may cease to exist
pub record IsCascade (links : List Link) (t : StreamTable) (touched : List StreamId) (room : ℕ) : Type 0 where
  -- only the lower streams of orphaned links were released
  pub releasing : (climbs : ℕ) → IsReleasing links climbs t
  -- the controlling stream of each loose link is touched
  pub watched : list_all (is_watched t touched) links ≡ true
  -- there is room for the touched streams, and for one stream for each hold below a link
  pub enough : length touched + holds_below links t ≤ room

-- the ids are those of the links whose lower streams are not held, with room for the ids of the other links
pub record AreReleased (links : List Link) (t : StreamTable) (ids : List ℕ) (room : ℕ) : Type 0 where
  pub same : AreIdsOf (λ l. not (is_held t l)) links ids
  pub enough : length ids + holds_below links t ≤ room
