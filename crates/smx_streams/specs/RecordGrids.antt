-- The records of streams, by driver and minor. No public clause needs this.
use Rattle.std.specs.Prelude.{◌≡◌, ℕ, ◌+◌, ◌<◌, ◌≤◌, nat_lt, Bool, true, false, ◌&&◌, List, [], map, length}
use Rattle.std.specs.Prelude.{slice_index_or, slice_set, Option, Some, None, if◌then◌else◌, IfSome}
use Rattle.slab.specs.Slab.{Slab, get}
use Rattle.smx_types.specs.declared.limits.TheConstants.{MAX_DRIVERS}
use Rattle.smx_types.specs.declared.stream.StreamId.{StreamId}
use Rattle.smx_model.specs.Configuration.{same_stream}
use Rattle.smx_streams.specs.declared.records.Record.{Record}
use Rattle.smx_streams.specs.HungRows.{flag_at}
use Rattle.smx_streams.specs.StreamTables.{is_in_range, number_at}

-- for each driver, a key or `None` at each minor
abbrev pub Grid : Type 0
Grid = List (List (Option ℕ))

-- the key of the stream's record
abbrev pub key_at : Grid → StreamId → Option ℕ
key_at grid s = slice_index_or (slice_index_or grid s.driver []) s.minor None

-- the grid with this key at a stream
abbrev pub with_key : Grid → StreamId → Option ℕ → Grid
with_key grid s key = slice_set grid s.driver (slice_set (slice_index_or grid s.driver []) s.minor key)

-- the record with this key
abbrev pub record_of_key : Slab Record → Option ℕ → Option Record
record_of_key records None = None
record_of_key records (Some key) = get records key

-- the number of descriptors in a record, or 0 without a record
abbrev pub opens_of : Option Record → ℕ
opens_of None = 0
opens_of (Some r) = r.opens

-- the number of holds in a record, or 0 without a record
abbrev pub holds_of : Option Record → ℕ
holds_of None = 0
holds_of (Some r) = r.holds

-- whether the record says that its stream is hung up; a stream without a record is not hung up
abbrev pub hung_of : Option Record → Bool
hung_of None = false
hung_of (Some r) = r.hung

-- the number of minors of each driver, and for each minor the descriptors, the holds and the flag
pub record Uses : Type 0 where
  pub minors : List ℕ
  pub opens : List (List ℕ)
  pub holds : List (List ℕ)
  pub hungs : List (List Bool)

-- there are at most as many drivers as allowed; a stream that has descriptors or is hung up is in range; a hung-up
-- stream has at least one descriptor or hold
pub record AreSound (u : Uses) : Type 0 where
  pub few : length u.minors ≤ MAX_DRIVERS
  pub range : (s : StreamId) → 0 < number_at u.opens s → is_in_range u.minors s.driver s.minor ≡ true
  pub flagged : (s : StreamId) → flag_at u.hungs s ≡ true → is_in_range u.minors s.driver s.minor ≡ true
  pub hung : (s : StreamId) → flag_at u.hungs s ≡ true → 0 < number_at u.opens s + number_at u.holds s

abbrev pub uses_of : Grid → Slab Record → Uses
uses_of grid records = record {
  minors = map length grid;
  opens = map (map (λ key. opens_of (record_of_key records key))) grid;
  holds = map (map (λ key. holds_of (record_of_key records key))) grid;
  hungs = map (map (λ key. hung_of (record_of_key records key))) grid;
}

-- one stream has these numbers and this flag, and no other stream has changed
pub record AreSet (old : Uses) (s : StreamId) (opens holds : ℕ) (hung : Bool) (new : Uses) : Type 0 where
  pub minors : new.minors ≡ old.minors
  pub opens_now : (x : StreamId) → number_at new.opens x ≡ (if same_stream x s then opens else number_at old.opens x)
  pub holds_now : (x : StreamId) → number_at new.holds x ≡ (if same_stream x s then holds else number_at old.holds x)
  pub hungs_now : (x : StreamId) → flag_at new.hungs x ≡ (if same_stream x s then hung else flag_at old.hungs x)

-- the numbers and the flag of the stream are those of its record
pub record IsRecordOf (u : Uses) (s : StreamId) (r : Option Record) : Type 0 where
  pub opens : opens_of r ≡ number_at u.opens s
  pub holds : holds_of r ≡ number_at u.holds s
  pub hung : hung_of r ≡ flag_at u.hungs s
  pub used : IfSome r (λ x. 0 < x.opens + x.holds)

-- the record is the stream's, and it counts at least one descriptor or hold
pub record IsRecord (s : StreamId) (r : Record) : Type 0 where
  pub stream : r.stream ≡ s
  pub used : 0 < r.opens + r.holds

-- there are at most as many drivers as allowed; each key leads to the record of its stream; the key of each record is
-- in the row of its stream
pub record AreRecords (grid : Grid) (records : Slab Record) : Type 0 where
  pub few : length grid ≤ MAX_DRIVERS
  pub listed : (s : StreamId) (key : ℕ) → key_at grid s ≡ Some key
      → (r : Record) × (get records key ≡ Some r) × IsRecord s r
  pub recorded : (key : ℕ) (r : Record) → get records key ≡ Some r → key_at grid r.stream ≡ Some key

-- the record counts at least one descriptor or hold, and its stream has hung up
abbrev pub is_used_and_hung : Record → Bool
is_used_and_hung r = nat_lt 0 (r.opens + r.holds) && r.hung

-- the stream has the numbers and the flag of record `r`, and no other stream has changed
pub record IsSet (grid : Grid) (records : Slab Record) (r : Record) (new_grid : Grid) (new : Slab Record) : Type 0 where
  pub whole : AreRecords new_grid new
  pub set : AreSet (uses_of grid records) r.stream r.opens r.holds (is_used_and_hung r) (uses_of new_grid new)
