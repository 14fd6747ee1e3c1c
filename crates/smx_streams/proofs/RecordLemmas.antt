-- Records by driver and minor: changed, added and removed.
use Rattle.smx_model.proofs.Common.{◌≡◌, ◌≢◌, ℕ, ◌+◌, ◌<◌, ◌≤◌, true, false, List, length, map, replicate, Option, Some}
use Rattle.smx_model.proofs.Common.{None, if◌then◌else◌, refl, sym, ap, ◌∙◌, arith, inl, inr, cases_Bool, cases_eq}
use Rattle.smx_model.proofs.Common.{both_ways, ltb-true, lt-ltb, nat_lt, is_some, nat_tests, same_Some, MAX_DRIVERS}
use Rattle.smx_model.proofs.Common.{StreamId, same_stream, rules}
use Rattle.std.proofs.lemmas.List.{length-map}
use Rattle.std.proofs.lemmas.List.Elements.{same_from_all_zip}
use Rattle.slab.specs.Slab.{Slab, get, IsSlabClone, IsSlotClone, Updates}
use Rattle.smx_streams.specs.declared.records.Record.{Record}
use Rattle.smx_streams.specs.RecordGrids.{Grid, key_at, record_of_key, opens_of, holds_of, uses_of, AreSet, AreRecords}
use Rattle.smx_streams.specs.RecordGrids.{AreSound, IsRecord, IsSet, hung_of, is_used_and_hung}
use Rattle.smx_streams.specs.StreamTables.{number_at, is_in_range}
use Rattle.smx_streams.proofs.GridLemmas.{same_is, same_self, opens_at, holds_at, in_range_of_key, no_keys, hungs_at}
use Rattle.smx_streams.specs.HungRows.{flag_at}

-- the result of a change: the slot of one key, and the key of one stream
record IsChange (grid : Grid) (old : Slab Record) (s : StreamId) (key : ℕ) (new_key : Option ℕ) (slot : Option Record)
    (new_grid : Grid) (new : Slab Record) : Type 0 where
  keys : (x : StreamId) → key_at new_grid x ≡ (if same_stream x s then new_key else key_at grid x)
  slots : Updates old new key slot
  -- no other stream has the key
  apart : (x : StreamId) → key_at grid x ≡ Some key → same_stream x s ≡ true
  -- the record of any other key is not the stream's
  alone : (k : ℕ) (r : Record) → k ≢ key → get old k ≡ Some r → same_stream r.stream s ≡ false

-- if the key of one stream changes, each other stream keeps its key
other_keys : (grid : Grid) (s x : StreamId) (new_key k : Option ℕ) (new_grid : Grid)
    → ((y : StreamId) → key_at new_grid y ≡ (if same_stream y s then new_key else key_at grid y))
    → same_stream x s ≡ false → key_at new_grid x ≡ key_at grid x
other_keys grid s x new_key k new_grid h f = h x ∙ rw f refl

-- if the key of one stream changes, that stream has the new key
same_keys : (grid : Grid) (s x : StreamId) (new_key : Option ℕ) (new_grid : Grid)
    → ((y : StreamId) → key_at new_grid y ≡ (if same_stream y s then new_key else key_at grid y))
    → same_stream x s ≡ true → key_at new_grid x ≡ new_key
same_keys grid s x new_key new_grid h t = h x ∙ rw t refl

-- the record of any other stream stays
other_record : (grid : Grid) (old : Slab Record) (s x : StreamId) (key : ℕ) (new_key : Option ℕ) (slot : Option Record)
    (new_grid : Grid) (new : Slab Record) → IsChange grid old s key new_key slot new_grid new → same_stream x s ≡ false
    → record_of_key new (key_at new_grid x) ≡ record_of_key old (key_at grid x)
other_record grid old s x key new_key slot new_grid new h f = grind (arith, other_keys)

-- the number of drivers stays
few_still : (grid new_grid : Grid) → length grid ≤ MAX_DRIVERS → map length new_grid ≡ map length grid
    → length new_grid ≤ MAX_DRIVERS
few_still grid new_grid few same =
    let lengths : Grid → List ℕ = map length in
    let many : length (lengths new_grid) ≡ length (lengths grid) = ap length same in
    omega (arith, few, many, length-map grid length, length-map new_grid length)

-- the record stays, or is new
is_set_some : (grid : Grid) (old : Slab Record) (key : ℕ) (r : Record) (new_grid : Grid) (new : Slab Record)
    → AreRecords grid old → length new_grid ≤ MAX_DRIVERS → 0 < r.opens + r.holds
    → IsChange grid old r.stream key (Some key) (Some r) new_grid new → AreRecords new_grid new
is_set_some grid old key r new_grid new whole few used h =
    record { few = few; listed = listed; recorded = recorded } where
      listed : (x : StreamId) (k : ℕ) → key_at new_grid x ≡ Some k → (q : Record) × (get new k ≡ Some q) × IsRecord x q
      listed x k is = elim (cases_Bool (same_stream x r.stream)) [
        | inl t ↦
            let e = same_Some key k (sym (same_keys grid r.stream x (Some key) new_grid h.keys t) ∙ is) in
            (r, ap (get new) (sym e) ∙ h.slots.changed, record { stream = sym (same_is x r.stream t); used = used })
        | inr f ↦
            let was = sym (other_keys grid r.stream x (Some key) None new_grid h.keys f) ∙ is in
            let there = whole.listed x k was in
            let differs : k ≢ key = λ e. both_ways (same_stream x r.stream) f (h.apart x (was ∙ ap Some e)) in
            (there.0, h.slots.others k differs ∙ there.1, there.2)
      ]

      recorded : (k : ℕ) (q : Record) → get new k ≡ Some q → key_at new_grid q.stream ≡ Some k
      recorded k q is = elim (cases_eq k key) [
        | inl e ↦
            let eq = same_Some r q (sym h.slots.changed ∙ ap (get new) (sym e) ∙ is) in
            ap (λ (x : Record). key_at new_grid x.stream) (sym eq)
            ∙ same_keys grid r.stream r.stream (Some key) new_grid h.keys (same_self r.stream) ∙ ap Some (sym e)
        | inr differs ↦
            let was = sym (h.slots.others k differs) ∙ is in
            other_keys grid r.stream q.stream (Some key) None new_grid h.keys (h.alone k q differs was)
            ∙ whole.recorded k q was
      ]

-- the record is removed
is_set_none : (grid : Grid) (old : Slab Record) (s : StreamId) (key : ℕ) (new_grid : Grid) (new : Slab Record)
    → AreRecords grid old → length new_grid ≤ MAX_DRIVERS
    → IsChange grid old s key None None new_grid new → AreRecords new_grid new
is_set_none grid old s key new_grid new whole few h = grind arith

-- the numbers after the change
numbers_set : (grid : Grid) (old : Slab Record) (r : Record) (key : ℕ) (new_key : Option ℕ) (slot : Option Record)
    (new_grid : Grid) (new : Slab Record) → IsChange grid old r.stream key new_key slot new_grid new
    → opens_of (record_of_key new new_key) ≡ r.opens → holds_of (record_of_key new new_key) ≡ r.holds
    → hung_of (record_of_key new new_key) ≡ is_used_and_hung r
    → (uses_of new_grid new).minors ≡ (uses_of grid old).minors
    → AreSet (uses_of grid old) r.stream r.opens r.holds (is_used_and_hung r) (uses_of new_grid new)
numbers_set grid old r key new_key slot new_grid new h opens holds hung minors =
    grind (
      arith,
      opens_at new_grid new,
      opens_at grid old,
      holds_at new_grid new,
      holds_at grid old,
      hungs_at new_grid new,
      hungs_at grid old,
    )

-- a record with a descriptor or hold is both used and hung up exactly if its flag is set
flag_of_used : (r : Record) → 0 < r.opens + r.holds → r.hung ≡ is_used_and_hung r
flag_of_used r used = rw (lt-ltb 0 (r.opens + r.holds) used) refl

-- a record without a descriptor and without a hold is not both used and hung up
flag_of_none : (r : Record) → r.opens ≡ 0 → r.holds ≡ 0 → false ≡ is_used_and_hung r
flag_of_none r opens holds = rw (opens, holds) refl

-- the stream had the key

-- if a stream has a key, no other stream has that key
known_apart : (grid : Grid) (old : Slab Record) (s : StreamId) (key : ℕ) → AreRecords grid old
    → key_at grid s ≡ Some key → (x : StreamId) → key_at grid x ≡ Some key → same_stream x s ≡ true
known_apart grid old s key whole there x is = grind (arith, same_Some, same_self s)

-- if a stream has a key, the record of any other key is that of another stream
known_alone : (grid : Grid) (old : Slab Record) (s : StreamId) (key : ℕ) → AreRecords grid old
    → key_at grid s ≡ Some key → (k : ℕ) (q : Record) → k ≢ key → get old k ≡ Some q → same_stream q.stream s ≡ false
known_alone grid old s key whole there k q differs is = grind (arith, same_Some k key, same_is q.stream s)

-- putting back a record that counts a descriptor or hold sets only the numbers of its stream
pub put_back_some : (grid : Grid) (old : Slab Record) (key : ℕ) (r : Record) (new : Slab Record) → AreRecords grid old
    → key_at grid r.stream ≡ Some key → 0 < r.opens + r.holds → Updates old new key (Some r) → IsSet grid old r grid new
put_back_some grid old key r new whole there used slots =
    let change : IsChange grid old r.stream key (Some key) (Some r) grid new = record {
      keys = λ x. elim (cases_Bool (same_stream x r.stream))
          [ inl t ↦ rw t (ap (key_at grid) (same_is x r.stream t) ∙ there) | inr f ↦ rw f refl ];
      slots = slots;
      apart = known_apart grid old r.stream key whole there;
      alone = known_alone grid old r.stream key whole there;
    } in
    record {
      whole = is_set_some grid old key r grid new whole whole.few used change;
      set = numbers_set grid old r key (Some key) (Some r) grid new change (ap opens_of slots.changed)
          (ap holds_of slots.changed) (ap hung_of slots.changed ∙ flag_of_used r used) refl;
    }

-- removing a record that counts nothing, with its key, sets only the numbers of its stream, to 0
pub put_back_none : (grid : Grid) (old : Slab Record) (key : ℕ) (r : Record) (new_grid : Grid) (new : Slab Record)
    → AreRecords grid old → key_at grid r.stream ≡ Some key → r.opens ≡ 0 → r.holds ≡ 0 → Updates old new key None
    → ((x : StreamId) → key_at new_grid x ≡ (if same_stream x r.stream then None else key_at grid x))
    → (uses_of new_grid new).minors ≡ (uses_of grid old).minors → IsSet grid old r new_grid new
put_back_none grid old key r new_grid new whole there opens holds slots keys minors =
    let change : IsChange grid old r.stream key None None new_grid new = record {
      keys = keys;
      slots = slots;
      apart = known_apart grid old r.stream key whole there;
      alone = known_alone grid old r.stream key whole there;
    } in
    record {
      whole = is_set_none grid old r.stream key new_grid new whole (few_still grid new_grid whole.few minors)
          change;
      set = numbers_set grid old r key None None new_grid new change (sym opens) (sym holds)
          (flag_of_none r opens holds) minors;
    }

-- the stream had no key

-- a new record under a free key that counts a descriptor or hold sets only the numbers of its stream
pub put_new : (grid : Grid) (old : Slab Record) (key : ℕ) (r : Record) (new_grid : Grid) (new : Slab Record)
    → AreRecords grid old → key_at grid r.stream ≡ None → get old key ≡ None → 0 < r.opens + r.holds
    → Updates old new key (Some r)
    → ((x : StreamId) → key_at new_grid x ≡ (if same_stream x r.stream then Some key else key_at grid x))
    → (uses_of new_grid new).minors ≡ (uses_of grid old).minors → IsSet grid old r new_grid new
put_new grid old key r new_grid new whole none vacant used slots keys minors =
    let change : IsChange grid old r.stream key (Some key) (Some r) new_grid new = record {
      keys = keys;
      slots = slots;
      apart = λ x is. let there = whole.listed x key is in let same : ◌≡◌ {A = Option Record} None (Some there.0) =
          sym vacant ∙ there.1 in absurd cc;
      alone = λ k q differs is. elim (cases_Bool (same_stream q.stream r.stream)) [
        | inl t ↦ let same : ◌≡◌ {A = Option ℕ} (Some k) None =
            sym (whole.recorded k q is) ∙ ap (key_at grid) (same_is q.stream r.stream t) ∙ none in absurd cc
        | inr f ↦ f
      ];
    } in
    record {
      whole = is_set_some grid old key r new_grid new whole (few_still grid new_grid whole.few minors) used
          change;
      set = numbers_set grid old r key (Some key) (Some r) new_grid new change (ap opens_of slots.changed)
          (ap holds_of slots.changed) (ap hung_of slots.changed ∙ flag_of_used r used) minors;
    }

-- a stream with a descriptor is in range
pub used_is_in_range : (grid : Grid) (records : Slab Record) (s : StreamId)
    → 0 < number_at (uses_of grid records).opens s → is_in_range (uses_of grid records).minors s.driver s.minor ≡ true
used_is_in_range grid records s h = by (key_at grid s) refl where
  by : (o : Option ℕ) → key_at grid s ≡ o → is_in_range (uses_of grid records).minors s.driver s.minor ≡ true
  by (Some key) is = in_range_of_key grid s key is
  by None is = let none : number_at (uses_of grid records).opens s ≡ 0 = opens_at grid records s
      ∙ ap (λ o. opens_of (record_of_key records o)) is in absurd (omega (arith, none))

-- a hung-up stream is in range
pub hung_is_in_range : (grid : Grid) (records : Slab Record) (s : StreamId)
    → flag_at (uses_of grid records).hungs s ≡ true → is_in_range (uses_of grid records).minors s.driver s.minor ≡ true
hung_is_in_range grid records s h = by (key_at grid s) refl where
  by : (o : Option ℕ) → key_at grid s ≡ o → is_in_range (uses_of grid records).minors s.driver s.minor ≡ true
  by (Some key) is = in_range_of_key grid s key is
  by None is = let none : flag_at (uses_of grid records).hungs s ≡ false = hungs_at grid records s
      ∙ ap (λ o. hung_of (record_of_key records o)) is in absurd cc

-- there are at most as many drivers as allowed
pub few_minors : (grid : Grid) (records : Slab Record) → AreRecords grid records
    → length (uses_of grid records).minors ≤ MAX_DRIVERS
few_minors grid records whole = omega (arith, whole.few, length-map grid length)

-- no records

-- if there are no keys and no records, each key leads to its record, and each record has its key
pub none_recorded : (minors : List ℕ) (records : Slab Record) → length minors ≤ MAX_DRIVERS
    → ((k : ℕ) → get records k ≡ None) → AreRecords (map (λ n. replicate n None) minors) records
none_recorded minors records few none = grind (arith, length-map, no_keys)

-- if there are no keys, no stream has a descriptor
pub no_opens : (minors : List ℕ) (records : Slab Record) (s : StreamId)
    → number_at (uses_of (map (λ n. replicate n None) minors) records).opens s ≡ 0
no_opens minors records s = opens_at (map (λ n. replicate n None) minors) records s
    ∙ ap (λ o. opens_of (record_of_key records o)) (no_keys minors s)

-- if there are no keys, no stream has a hold
pub no_holds : (minors : List ℕ) (records : Slab Record) (s : StreamId)
    → number_at (uses_of (map (λ n. replicate n None) minors) records).holds s ≡ 0
no_holds minors records s = holds_at (map (λ n. replicate n None) minors) records s
    ∙ ap (λ o. holds_of (record_of_key records o)) (no_keys minors s)

-- if there are no keys, no stream has hung up
pub no_hungs : (minors : List ℕ) (records : Slab Record) (s : StreamId)
    → flag_at (uses_of (map (λ n. replicate n None) minors) records).hungs s ≡ false
no_hungs minors records s = hungs_at (map (λ n. replicate n None) minors) records s
    ∙ ap (λ o. hung_of (record_of_key records o)) (no_keys minors s)

-- a hung-up stream has at least one descriptor or hold
pub hung_is_used : (grid : Grid) (records : Slab Record) (s : StreamId) → AreRecords grid records
    → flag_at (uses_of grid records).hungs s ≡ true
    → 0 < number_at (uses_of grid records).opens s + number_at (uses_of grid records).holds s
hung_is_used grid records s whole h =
    grind (arith, opens_at grid records s, holds_at grid records s, hungs_at grid records s)

-- records that are found by their keys are valid
pub are_sound : (grid : Grid) (records : Slab Record) → AreRecords grid records → AreSound (uses_of grid records)
are_sound grid records whole = search (rules, few_minors, used_is_in_range, hung_is_in_range, hung_is_used)

-- a record that counts nothing

-- if the numbers of descriptors and of holds add up to no more than 0, both are 0
pub counts_none : (x y : ℕ) → nat_lt 0 (x + y) ≡ false → (x ≡ 0) × (y ≡ 0)
counts_none x y h = (grind (arith, nat_tests), grind (arith, nat_tests))

-- a number that passes the test for more than 0 is more than 0
pub counts_some : (n : ℕ) → nat_lt 0 n ≡ true → 0 < n
counts_some n h = ltb-true 0 n h

-- a stream with a key has a record, and a stream without a key has none
pub key_tells : (grid : Grid) (records : Slab Record) (s : StreamId) → AreRecords grid records
    → is_some (key_at grid s)
    ≡ nat_lt 0 (number_at (uses_of grid records).opens s + number_at (uses_of grid records).holds s)
key_tells grid records s whole = grind (arith, opens_at grid records s, holds_at grid records s)

-- a clone

-- a clone of a slot is the same slot
same_slot : (x y : Option Record) → IsSlotClone (λ old copy. copy ≡ old) x y → y ≡ x
same_slot None y h = h
same_slot (Some r) None h = absurd h
same_slot (Some r) (Some copy) h = rw h refl

-- a clone of the records has the same slots
pub same_slots : (records copy : Slab Record) → IsSlabClone (λ old copy. copy ≡ old) records copy
    → copy.slots ≡ records.slots
same_slots records copy h = same_from_all_zip _ records.slots copy.slots h.slots same_slot

-- records with the same slots fit the same keys
pub same_records : (grid : Grid) (records copy : Slab Record) → copy.slots ≡ records.slots → AreRecords grid records
    → AreRecords grid copy
same_records grid records copy same whole = record {
  few = whole.few;
  listed = λ s key there. rw same (whole.listed s key there);
  recorded = λ key r there. whole.recorded key r (rw same at there);
}

-- records with the same slots have the same record at each key
same_of_key : (records copy : Slab Record) → copy.slots ≡ records.slots → (key : Option ℕ)
    → record_of_key copy key ≡ record_of_key records key
same_of_key records copy same None = refl
same_of_key records copy same (Some key) = rw same refl

-- records with the same slots have the same numbers and flags
pub same_uses : (grid : Grid) (records copy : Slab Record) → copy.slots ≡ records.slots
    → uses_of grid copy ≡ uses_of grid records
same_uses grid records copy same = λ i. record {
  minors = map length grid;
  opens = map (map (λ key. opens_of (same_of_key records copy same key i))) grid;
  holds = map (map (λ key. holds_of (same_of_key records copy same key i))) grid;
  hungs = map (map (λ key. hung_of (same_of_key records copy same key i))) grid;
}
