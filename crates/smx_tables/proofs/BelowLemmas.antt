-- Emptying the read sides below listed links, link by link.
use Rattle.smx_tables.proofs.Common.{◌≡◌, ℕ, Bool, false, ◌&&◌, ◌||◌, not, eqb, List, [], ◌∷◌, ◌++◌, filter, find}
use Rattle.smx_tables.proofs.Common.{arith, Option, Some, None, sym, ◌∙◌, and-false, or-false, option_map_or}
use Rattle.smx_tables.proofs.Common.{filter_agree, nat_tests, Link, Place, QueuedMessage, same_place, same_stream}
use Rattle.smx_tables.proofs.Common.{AreLowersApart, is_listed, is_read_below_listed}
use Rattle.std.specs.Prelude.{Vec}
use Rattle.smx_types.specs.declared.stream.Side.TheVariants as side
use Rattle.smx_model.specs.Configuration.{same_side, read_side}
use Rattle.smx_queues.specs.FlowTables.{FlowLists}
use Rattle.smx_tables.specs.DroppedMessages.{EmptiesPlaces, HasRoom}
use Rattle.smx_tables.proofs.AboveLemmas.{above_with_id, stream_turned, IsIdsRising}
use Rattle.smx_tables.proofs.DropLemmas.{filter_twice}
use Rattle.smx_tables.proofs.ReleasedIdLemmas.{listed_one_more}
use Rattle.smx_tables.proofs.RemovalLemmas.{none_passes}

-- one more id adds the read side of the stream below its link, if it is the id of a link
one_read_more : (links : List Link) (ids : List ℕ) (id : ℕ) → AreLowersApart links → IsIdsRising links → (p : Place)
    → is_read_below_listed links (ids ++ id ∷ []) p ≡ (is_read_below_listed links ids p
    || (option_map_or (λ k. same_stream k.lower p.stream) (find (λ k. eqb k.id id) links) false
    && same_side p.side side.Read))
one_read_more links ids id apart rise p =
    rw (← above_with_id links id p.stream apart rise) (by (same_side p.side side.Read) (find _ links)) where
      by : (b : Bool) (o : Option Link) → (b && option_map_or (λ l. is_listed (ids ++ id ∷ []) l.id) o false)
          ≡ ((b && option_map_or (λ l. is_listed ids l.id) o false) || (option_map_or (λ l. eqb l.id id) o false && b))
      by b None = grind (arith, nat_tests)
      by b (Some l) = rw (listed_one_more ids id l.id) (grind (arith, nat_tests))

-- the id of a link adds one place
pub read_more : (links : List Link) (ids : List ℕ) (id : ℕ) (l : Link) → AreLowersApart links → IsIdsRising links
    → find (λ k. eqb k.id id) links ≡ Some l → (p : Place)
    → is_read_below_listed links (ids ++ id ∷ []) p
    ≡ (is_read_below_listed links ids p || same_place p (read_side l.lower))
read_more links ids id l apart rise found p = grind (arith, one_read_more, stream_turned)

-- an id that no link has adds no place
pub read_none : (links : List Link) (ids : List ℕ) (id : ℕ) → AreLowersApart links → IsIdsRising links
    → find (λ k. eqb k.id id) links ≡ None → (p : Place)
    → is_read_below_listed links (ids ++ id ∷ []) p ≡ is_read_below_listed links ids p
read_none links ids id apart rise none p = grind (arith, one_read_more, or-false)

-- an empty list of ids removes nothing
pub none_listed_yet : {X : Type 0} (place : X → Place) (links : List Link) (xs : List X)
    → xs ≡ filter (λ x. not (is_read_below_listed links [] (place x))) xs
none_listed_yet place links xs = sym (none_passes (λ x. is_read_below_listed links [] (place x)) xs
    (λ x. by (same_side (place x).side side.Read) (find (λ l. same_stream l.lower (place x).stream) links))) where
      by : (b : Bool) (o : Option Link) → (b && option_map_or (λ l. is_listed [] l.id) o false) ≡ false
      by b None = and-false b
      by b (Some l) = and-false b

-- ---- lists after two removals

-- two tests both fail exactly if the test for either of them fails
not_either : (a b : Bool) → (not a && not b) ≡ not (a || b)
not_either a b = grind (arith, nat_tests)

-- removing the items of one test and then those of another removes the items of either
pub tests_less : {X : Type 0} (goes one more : X → Bool) (xs ys zs : List X) → ((x : X) → more x ≡ (goes x || one x))
    → ys ≡ filter (λ x. not (goes x)) xs → zs ≡ filter (λ x. not (one x)) ys → zs ≡ filter (λ x. not (more x)) xs
tests_less goes one more xs ys zs h e f = grind (arith, filter_twice, filter_agree, not_either)

-- emptying the places of one test and then those of another empties the places of either
pub empties_more : {A : Type 0} (goes one more : Place → Bool) (old mid new : FlowLists) (first then last : Vec ℕ A)
    → ((p : Place) → more p ≡ (goes p || one p)) → EmptiesPlaces goes old first mid then
    → EmptiesPlaces one mid then new last → EmptiesPlaces more old first new last
empties_more goes one more old mid new first then last h a b = record {
  flow = tests_less (λ (x : QueuedMessage). goes x.place) (λ x. one x.place) (λ x. more x.place) old.flow mid.flow
      new.flow (λ x. h x.place) a.flow b.flow;
  fulls = tests_less goes one more old.fulls mid.fulls new.fulls h a.fulls b.fulls;
  drivers = b.drivers ∙ a.drivers;
  dropped = λ was d. b.dropped was (a.dropped was d);
  room = b.room;
}

-- two tests that pass the same places empty the same places
pub empties_alike : {A : Type 0} (goes more : Place → Bool) (old new : FlowLists) (first last : Vec ℕ A)
    → ((p : Place) → more p ≡ goes p) → EmptiesPlaces goes old first new last → EmptiesPlaces more old first new last
empties_alike goes more old new first last h a = grind (arith, filter_agree)

-- a test that passes no place with a message and no full place empties nothing
pub empties_none : {A : Type 0} (goes : Place → Bool) (t : FlowLists) (dropped : Vec ℕ A)
    → t.flow ≡ filter (λ h. not (goes h.place)) t.flow → t.fulls ≡ filter (λ p. not (goes p)) t.fulls
    → HasRoom dropped t.flow → EmptiesPlaces goes t dropped t dropped
empties_none goes t dropped flow fulls room = grind arith
