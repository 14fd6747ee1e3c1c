-- Places that are marked, one after another.
use Rattle.smx_config.proofs.Common.{◌≡◌, ℕ, ◌<◌, Bool, true, false, ◌&&◌, eqb, List, [], ◌∷◌, None, refl, sym, ap}
use Rattle.smx_config.proofs.Common.{◌∙◌, subst, arith, inl, inr, list_any, cases_Bool, false≢true, Link, Place}
use Rattle.smx_config.proofs.Common.{DriverSpec, StreamId, Configuration, same_place, same_stream, first_message}
use Rattle.smx_config.proofs.Common.{BitTable, has_bit, IsAt, IsMarkedWhere}
use Rattle.std.specs.Prelude.{◌+◌, nat_lt}
use Rattle.std.specs.List.{All, AllByRecursion}
use Rattle.std.proofs.Common.{rules}
use Rattle.std.proofs.lemmas.Bool.{and_parts, eqb-true, lt-ltb}
use Rattle.std.proofs.lemmas.Bool.Decides.{nat_tests}
use Rattle.std.proofs.lemmas.List.Elements.{recursion_from_All}
use Rattle.smx_types.specs.declared.stream.Side.{Side}
use Rattle.smx_types.specs.declared.stream.Side.TheVariants as side
use Rattle.smx_model.specs.Configuration.{QueuedMessage, same_side}
use Rattle.smx_model.specs.DriverList.{minors_of}
use Rattle.smx_model.specs.Paths.{reaches}
use Rattle.smx_model.specs.RunMarks.{asks_up, is_below_driver}
use Rattle.smx_links.specs.Masks.{IsWithin}
use Rattle.smx_config.specs.Marking.{asks_at, asks_between}
use Rattle.smx_queues.proofs.PlacesOfLemmas.{number_known}
use Rattle.smx_config.proofs.PlaceNumberLemmas.{one_number}

-- if no place with a message passes the test, nothing has to be marked
pub none_marked : (drivers : List DriverSpec) (flow : List QueuedMessage) (test : Place → Bool) (m : BitTable)
    → ((p : Place) → test p ≡ true → first_message flow p ≡ None) → IsMarkedWhere drivers flow test m m
none_marked drivers flow test m none =
    record { kept = λ i h. h; marked = λ i p there some t. absurd (some (none p t)); count = refl }

-- a mark at the number of a place is enough for the test of this place
pub one_marked : (drivers : List DriverSpec) (flow : List QueuedMessage) (place : Place) (n : ℕ) (old new : BitTable)
    → IsAt drivers n place → has_bit new n ≡ true → ((i : ℕ) → has_bit old i ≡ true → has_bit new i ≡ true)
    → new.count ≡ old.count → IsMarkedWhere drivers flow (same_place place) old new
one_marked drivers flow place n old new there here kept same = record {
  kept = kept;
  marked = λ i p at some t.
      subst (λ (x : ℕ). has_bit new x ≡ true) (one_number drivers n i place p there at t) here;
  count = same;
}

-- ---- one side of a driver's streams, one minor after another

-- the places that pass the test and whose minors are below a number
abbrev pub asks_below : Configuration → ℕ → Side → ℕ → ℕ → Place → Bool
asks_below c driver s addr n p = asks_at c driver s addr p && nat_lt p.stream.minor n

-- marks for all minors below the number of the driver's minors are marks for all its streams
pub all_minors : (drivers : List DriverSpec) (c : Configuration) (driver : ℕ) (s : Side) (addr n : ℕ)
    (old new : BitTable) → n ≡ minors_of drivers driver
    → IsMarkedWhere drivers c.flow (asks_below c driver s addr n) old new
    → IsMarkedWhere drivers c.flow (asks_at c driver s addr) old new
all_minors drivers c driver s addr n old new many m = record {
  kept = m.kept;
  marked = λ i p there some t.
      let a = and_parts (same_side p.side s && eqb p.stream.driver driver) _ t in
      let is = eqb-true p.stream.driver driver (and_parts (same_side p.side s) _ a.0).1 in
      let known = number_known drivers i p there in
      let lt : p.stream.minor < n = omega (arith, known.1, many, ap (minors_of drivers) is) in
      m.marked i p there some (rw (t, lt-ltb p.stream.minor n lt) refl);
  count = m.count;
}

-- ---- the read sides below a driver, one lower driver after another

-- a read side that is asked for belongs to a stream below the driver
asked_below : (c : Configuration) (driver addr : ℕ) (p : Place) → asks_up c driver addr p ≡ true
    → is_below_driver c driver p.stream ≡ true
asked_below c driver addr p t = grind arith

-- a link between two drivers is a path from the upper driver to the lower one
below_reaches : (links : List Link) (s : StreamId) (driver lower : ℕ) → s.driver ≡ lower
    → list_any (λ l. same_stream l.lower s && eqb l.ctl.driver driver) links ≡ true
    → reaches links driver lower ≡ true
below_reaches [] s driver lower is h = absurd cc
below_reaches (l ∷ links) s driver lower is h = grind (arith, below_reaches links s driver lower is)

-- if no path leads from the one driver to the other, none of the places between them has to be marked
pub none_between : (drivers : List DriverSpec) (c : Configuration) (driver addr lower : ℕ) (m : BitTable)
    → reaches c.links driver lower ≡ false → IsMarkedWhere drivers c.flow (asks_between c driver addr lower) m m
none_between drivers c driver addr lower m none = none_marked drivers c.flow (asks_between c driver addr lower) m
    (λ p t.
    let both = and_parts (asks_up c driver addr p) (eqb p.stream.driver lower) t in
    absurd (false≢true (sym none ∙ below_reaches c.links p.stream driver lower
    (eqb-true p.stream.driver lower both.1) (asked_below c driver addr p both.0))))

-- the read sides that are asked for, at streams below the driver whose own driver has a number below this one
abbrev pub asks_before : Configuration → ℕ → ℕ → ℕ → Place → Bool
asks_before c driver addr n p = asks_up c driver addr p && nat_lt p.stream.driver n

-- after the marks at one more lower driver, the marks at all lower drivers so far are set
pub next_lower : (drivers : List DriverSpec) (c : Configuration) (driver addr lower : ℕ) (old mid new : BitTable)
    → IsMarkedWhere drivers c.flow (asks_before c driver addr lower) old mid
    → IsMarkedWhere drivers c.flow (asks_between c driver addr lower) mid new
    → IsMarkedWhere drivers c.flow (asks_before c driver addr (lower + 1)) old new
next_lower drivers c driver addr lower old mid new a b = record {
  kept = λ i h. b.kept i (a.kept i h);
  marked = λ i p there some t.
      let both = and_parts (asks_up c driver addr p) (nat_lt p.stream.driver (lower + 1)) t in
      elim (cases_Bool (nat_lt p.stream.driver lower)) [
        | inl before ↦ b.kept i (a.marked i p there some (rw (both.0, before) refl))
        | inr last ↦ b.marked i p there some (grind (arith, nat_tests))
      ];
  count = b.count ∙ a.count;
}

-- the marks on the read sides of a driver's streams are enough for those that are below the upper driver
pub side_marked : (drivers : List DriverSpec) (c : Configuration) (driver addr lower : ℕ) (old new : BitTable)
    → IsMarkedWhere drivers c.flow (asks_at c lower side.Read addr) old new
    → IsMarkedWhere drivers c.flow (asks_between c driver addr lower) old new
side_marked drivers c driver addr lower old new m = search rules

-- if the drivers of all links are below `n`, so is the driver of each stream below a link
lower_within : (n : ℕ) (links : List Link) (s : StreamId) (driver : ℕ) → All (IsWithin n) links
    → list_any (λ l. same_stream l.lower s && eqb l.ctl.driver driver) links ≡ true → s.driver < n
lower_within n links s driver within h = by links (recursion_from_All (IsWithin n) links within) h where
  by : (ls : List Link) → AllByRecursion (IsWithin n) ls
      → list_any (λ l. same_stream l.lower s && eqb l.ctl.driver driver) ls ≡ true → s.driver < n
  by [] w t = absurd cc
  by (l ∷ ls) w t = elim (cases_Bool (same_stream l.lower s && eqb l.ctl.driver driver)) [
    | inl here ↦
        let both = and_parts (same_stream l.lower s) (eqb l.ctl.driver driver) here in
        let same = and_parts (eqb l.lower.driver s.driver) (eqb l.lower.minor s.minor) both.0 in
        omega (arith, w.0.1, eqb-true l.lower.driver s.driver same.0)
    | inr f ↦ by ls w.1 (rw f at t)
  ]

-- marks for all drivers below `n` are enough, if the drivers of all links are below `n`
pub all_before : (drivers : List DriverSpec) (c : Configuration) (driver addr n : ℕ) (old new : BitTable)
    → All (IsWithin n) c.links
    → IsMarkedWhere drivers c.flow (asks_before c driver addr n) old new
    → IsMarkedWhere drivers c.flow (asks_up c driver addr) old new
all_before drivers c driver addr n old new within m = record {
  kept = m.kept;
  marked = λ i p there some t.
      let lt = lower_within n c.links p.stream driver within (asked_below c driver addr p t) in
      m.marked i p there some (rw (t, lt-ltb p.stream.driver n lt) refl);
  count = m.count;
}
