-- Numbers and keys by driver and minor.
use Rattle.smx_model.proofs.Common.{◌≡◌, ℕ, zero, suc, ◌<◌, true, List, [], ◌∷◌, length, map, get_or, replicate, Option}
use Rattle.smx_model.proofs.Common.{Some, None, if◌then◌else◌, refl, ap, ◌∙◌, get_or_past, StreamId, same_stream, arith}
use Rattle.std.proofs.Common.{set}
use Rattle.std.proofs.Math.ListN.{get_or-map}
use Rattle.std.proofs.lemmas.List.{get_or-set_same, get_or-set_other, length-set, length-replicate}
use Rattle.slab.specs.Slab.{Slab}
use Rattle.smx_streams.specs.declared.records.Record.{Record}
use Rattle.smx_streams.specs.RecordGrids.{Grid, key_at, with_key, record_of_key, opens_of, holds_of, hung_of}
use Rattle.smx_streams.specs.StreamTables.{number_at, is_in_range}
use Rattle.smx_streams.specs.HungRows.{flag_at}
-- the test for equal streams decides equality, and each stream equals itself
pub use Rattle.smx_model.proofs.SweptLemmas.{stream_self as same_self}
pub use Rattle.smx_model.proofs.TurningLemmas.{same_stream_is as same_is}

-- the numbers at a stream are those that its key leads to

-- in a grid made by mapping each key, a stream has the image of its key
read_at : {X : Type 0} (f : Option ℕ → X) (grid : Grid) (s : StreamId)
    → get_or (get_or (map (map f) grid) s.driver []) s.minor (f None) ≡ f (key_at grid s)
read_at {X} f grid s = ap (λ (row : List X). get_or row s.minor (f None)) (get_or-map (map f) grid s.driver [])
    ∙ get_or-map f (get_or grid s.driver []) s.minor None

-- a stream has as many descriptors as the record at its key, or none
pub opens_at : (grid : Grid) (records : Slab Record) (s : StreamId)
    → number_at (map (map (λ key. opens_of (record_of_key records key))) grid) s
    ≡ opens_of (record_of_key records (key_at grid s))
opens_at grid records s = read_at (λ key. opens_of (record_of_key records key)) grid s

-- a stream has as many holds as the record at its key, or none
pub holds_at : (grid : Grid) (records : Slab Record) (s : StreamId)
    → number_at (map (map (λ key. holds_of (record_of_key records key))) grid) s
    ≡ holds_of (record_of_key records (key_at grid s))
holds_at grid records s = read_at (λ key. holds_of (record_of_key records key)) grid s

-- a stream has hung up exactly if the record at its key says so
pub hungs_at : (grid : Grid) (records : Slab Record) (s : StreamId)
    → flag_at (map (map (λ key. hung_of (record_of_key records key))) grid) s
    ≡ hung_of (record_of_key records (key_at grid s))
hungs_at grid records s = read_at (λ key. hung_of (record_of_key records key)) grid s

-- a key that is set

-- the stream has the new key, and each other stream keeps its key
pub key_set : (grid : Grid) (s : StreamId) (key : Option ℕ) (x : StreamId) → s.driver < length grid
    → s.minor < length (get_or grid s.driver [])
    → key_at (with_key grid s key) x ≡ (if same_stream x s then key else key_at grid x)
key_set grid s key x driver minor = grind (arith, get_or-set_same, get_or-set_other)

-- each driver keeps its number of minors
pub lengths_set : (grid : Grid) (s : StreamId) (key : Option ℕ) → map length (with_key grid s key) ≡ map length grid
lengths_set grid s key = by grid s.driver where
  by : (g : Grid) (d : ℕ) → map length (set g d (set (get_or g d []) s.minor key)) ≡ map length g
  by [] d = refl
  by (row ∷ rows) zero = ap (λ n. n ∷ map length rows) (length-set row s.minor key)
  by (row ∷ rows) (suc d) = ap (λ ns. length row ∷ ns) (by rows d)

-- a stream with a key is in range

-- the driver of a stream with a key exists
pub has_driver : (grid : Grid) (s : StreamId) (key : ℕ) → key_at grid s ≡ Some key → s.driver < length grid
has_driver grid s key h = grind (arith, get_or_past grid s.driver)

-- the minor of a stream with a key is in the row of its driver
pub has_minor : (grid : Grid) (s : StreamId) (key : ℕ) → key_at grid s ≡ Some key
    → s.minor < length (get_or grid s.driver [])
has_minor grid s key h = grind (arith, get_or_past (get_or grid s.driver []) s.minor None)

-- a stream with a key is in range by its driver's number of minors
pub in_range_of_key : (grid : Grid) (s : StreamId) (key : ℕ) → key_at grid s ≡ Some key
    → is_in_range (map length grid) s.driver s.minor ≡ true
in_range_of_key grid s key h = grind (arith, get_or-map length grid s.driver, has_minor grid s key h)

-- no keys

-- a list of empty keys has no key at any index
none_in : (n m : ℕ) → get_or {A = Option ℕ} (replicate n None) m None ≡ None
none_in zero m = refl
none_in (suc n) zero = refl
none_in (suc n) (suc m) = none_in n m

-- if there are no keys, no stream has one
pub no_keys : (minors : List ℕ) (s : StreamId) → key_at (map (λ n. replicate n None) minors) s ≡ None
no_keys minors s = by minors s.driver where
  by : (ns : List ℕ) (d : ℕ) → get_or {A = Option ℕ} (get_or (map (λ n. replicate n None) ns) d []) s.minor None ≡ None
  by [] d = refl
  by (n ∷ ns) zero = none_in n s.minor
  by (n ∷ ns) (suc d) = by ns d

-- if there are no keys, each driver has the given number of minors
pub no_keys_lengths : (minors : List ℕ) → map length (map (λ n. replicate {A = Option ℕ} n None) minors) ≡ minors
no_keys_lengths [] = refl
no_keys_lengths (n ∷ ns) = grind (arith, length-replicate, no_keys_lengths ns)
