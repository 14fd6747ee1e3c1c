-- Releasing the lower streams of links by the ids of the links.
use Rattle.smx_tables.proofs.Common.{◌≡◌, ℕ, ◌-◌, ◌<◌, ◌≤◌, false, ◌&&◌, ◌||◌, not, eqb, List, [], ◌∷◌, ◌++◌, find}
use Rattle.smx_tables.proofs.Common.{Option, Some, None, refl, ◌∙◌, arith, and-true, or-false, option_map_or}
use Rattle.smx_tables.proofs.Common.{list_any-append, nat_tests, Link, StreamId, same_stream, AreLowersApart}
use Rattle.smx_tables.proofs.Common.{is_below, StreamTable, HasHolds, number_at, AreHeld, is_listed, is_one_of}
use Rattle.smx_tables.proofs.Common.{others_of}
use Rattle.smx_streams.specs.StreamTables.{AreHungsSound}
use Rattle.smx_tables.proofs.AboveLemmas.{above_with_id, any_once, once_below, stream_turned, IsIdsRising}
use Rattle.smx_tables.proofs.HungLemmas.{none_went}
use Rattle.smx_tables.proofs.RemovalLemmas.{any_kept}

-- ---- releasing a stream that has at most one hold

-- a stream with one hold has none after it is released
pub released_once : (t new : StreamTable) (s : StreamId) → number_at t.holds s ≤ 1 → 0 < number_at t.holds s
    → HasHolds t s (number_at t.holds s - 1) new → HasHolds t s 0 new
released_once t new s few some h = grind arith

-- a stream without a hold need not be released
pub released_already : (t : StreamTable) (s : StreamId) → AreHungsSound t → number_at t.holds s ≤ 0 → HasHolds t s 0 t
released_already t s sound none = grind (arith, none_went t sound)

-- ---- the lower streams of links by their ids

-- an id is in a list with one more id exactly if it was there before or is this one
pub listed_one_more : (ids : List ℕ) (id x : ℕ) → is_listed (ids ++ id ∷ []) x ≡ (is_listed ids x || eqb x id)
listed_one_more ids id x = grind (arith, list_any-append, or-false (eqb x id))

-- after one more id, the streams below the remaining links are the same ones except the lower stream of its link
below_less : (links : List Link) (ids : List ℕ) (id : ℕ) (x : StreamId) → AreLowersApart links → IsIdsRising links
    → is_below (others_of (ids ++ id ∷ []) links) x ≡ (is_below (others_of ids links) x
    && not (option_map_or (λ k. same_stream k.lower x) (find (λ k. eqb k.id id) links) false))
below_less links ids id x apart rise =
    rw (left (ids ++ id ∷ []), left ids, ← above_with_id links id x apart rise)
    (by (find (λ l. same_stream l.lower x) links)) where
      left : (js : List ℕ) → is_below (others_of js links) x
          ≡ option_map_or (λ l. not (is_one_of js l)) (find (λ l. same_stream l.lower x) links) false
      left js = any_kept (λ l. same_stream l.lower x) (λ l. not (is_one_of js l)) links
          ∙ any_once (λ l. same_stream l.lower x) (λ l. not (is_one_of js l)) _ links (once_below x links apart)
          (λ l. refl)

      by : (o : Option Link) → option_map_or (λ l. not (is_one_of (ids ++ id ∷ []) l)) o false
          ≡ (option_map_or (λ l. not (is_one_of ids l)) o false && not (option_map_or (λ l. eqb l.id id) o false))
      by None = refl
      by (Some l) = rw (listed_one_more ids id l.id) (grind (arith, nat_tests))

-- one more id, of a link whose lower stream is released
pub released_more : (links : List Link) (ids : List ℕ) (id : ℕ) (l : Link) (t new : StreamTable) → AreLowersApart links
    → IsIdsRising links → find (λ k. eqb k.id id) links ≡ Some l
    → AreHeld (others_of ids links) t → HasHolds t l.lower 0 new → AreHeld (others_of (ids ++ id ∷ []) links) new
released_more links ids id l t new apart rise found held h = grind (arith, below_less, stream_turned)

-- one more id that no link has
pub released_none : (links : List Link) (ids : List ℕ) (id : ℕ) (t : StreamTable) → AreLowersApart links
    → IsIdsRising links → find (λ k. eqb k.id id) links ≡ None
    → AreHeld (others_of ids links) t → AreHeld (others_of (ids ++ id ∷ []) links) t
released_none links ids id t apart rise none held = grind (arith, below_less links ids id, and-true)
