-- Collecting the ids of links whose lower streams are released.
use Rattle.smx_tables.proofs.Common.{◌≡◌, ℕ, ◌-◌, ◌<◌, ◌≤◌, Bool, true, false, ◌||◌, not, eqb, List, [], ◌∷◌, ◌++◌}
use Rattle.smx_tables.proofs.Common.{length-append, find, Option, Some, None, refl, sym, ap, ◌∙◌, arith, slice_get}
use Rattle.smx_tables.proofs.Common.{option_map_or, slice_get_within, Link, StreamId, same_stream, AreLowersApart}
use Rattle.smx_tables.proofs.Common.{StreamTable, HasHolds, number_at, AreHeld, IsReleasing, holds_below, is_held}
use Rattle.smx_tables.proofs.Common.{is_loose, AreIdsOf, AreReleased}
use Rattle.std.proofs.Common.{length}
use Rattle.smx_tables.proofs.AboveLemmas.{above_with_id, eqb_swap, found_itself, once_below, stream_self, IsIdsRising}
use Rattle.smx_tables.proofs.ExistingLemmas.{holds_few}
use Rattle.smx_tables.proofs.ReleaseLemmas.{loose_held, this_one}
use Rattle.smx_tables.proofs.ReleasedIdLemmas.{listed_one_more, released_once}
use Rattle.smx_tables.proofs.RemovalLemmas.{kept_with_id}
use Rattle.smx_tables.proofs.TouchLemmas.{few_below, none_free}

-- ---- at first: each stream below a link is held

-- while each stream below a link is held, an empty list has the ids of the released links
pub none_released_yet : (links : List Link) (t : StreamTable) (ids : List ℕ) (room : ℕ) → AreHeld links t → ids ≡ []
    → length links ≤ room → AreReleased links t ids room
none_released_yet links t ids room held none enough = grind (arith, none_free, few_below)

-- ---- one more link

-- the link at an index is the one that is found by its lower stream
found_at : (links : List Link) (i : ℕ) (l : Link) → AreLowersApart links → Some l ≡ slice_get links i
    → find (λ k. same_stream k.lower l.lower) links ≡ Some l
found_at links i l apart at =
    let here = this_one links i l at in
    found_itself (λ k. same_stream k.lower l.lower) links i l (once_below l.lower links apart)
    (slice_get_within links i l (sym at))
    (ap (λ (k : Link). same_stream k.lower l.lower) here ∙ stream_self l.lower)
    ∙ ap Some here

-- after the release of a stream, a link's lower stream is free if it was free before, or is this stream
held_less : (t new : StreamTable) (s : StreamId) (k : Link) → HasHolds t s 0 new
    → not (is_held new k) ≡ (not (is_held t k) || same_stream k.lower s)
held_less t new s k h = grind (arith, h.holds k.lower)

-- if one more lower stream is released, the ids of the released links have one more, the id of its link
id_more : (links : List Link) (t new : StreamTable) (ids : List ℕ) (i : ℕ) (l : Link) → AreLowersApart links
    → IsIdsRising links → Some l ≡ slice_get links i → HasHolds t l.lower 0 new
    → AreIdsOf (λ k. not (is_held t k)) links ids → AreIdsOf (λ k. not (is_held new k)) links (ids ++ l.id ∷ [])
id_more links t new ids i l apart rise at h was id =
    listed_one_more ids l.id id
    ∙ ap (λ (b : Bool). b || eqb id l.id) (was id ∙ kept_with_id (λ k. not (is_held t k)) id links rise)
    ∙ ap (λ (b : Bool). option_map_or (λ k. not (is_held t k)) (find (λ k. eqb k.id id) links) false || b)
    (eqb_swap id l.id ∙ sym own)
    ∙ by (find (λ k. eqb k.id id) links) ∙ sym (kept_with_id (λ k. not (is_held new k)) id links rise) where
      own : option_map_or (λ k. same_stream k.lower l.lower) (find (λ k. eqb k.id id) links) false ≡ eqb l.id id
      own = sym (above_with_id links id l.lower apart rise) ∙ rw (found_at links i l apart at) refl

      by : (o : Option Link)
          → (option_map_or (λ k. not (is_held t k)) o false || option_map_or (λ k. same_stream k.lower l.lower) o false)
          ≡ option_map_or (λ k. not (is_held new k)) o false
      by None = refl
      by (Some k) = sym (held_less t new l.lower k h)

-- the ids after one more loose link, whose lower stream is released
pub one_released : (links : List Link) (i room : ℕ) (l : Link) (t new : StreamTable) (ids more : List ℕ)
    → AreLowersApart links → IsIdsRising links → Some l ≡ slice_get links i → is_loose t l ≡ true
    → IsReleasing links 0 t → HasHolds t l.lower (number_at t.holds l.lower - 1) new → more ≡ ids ++ l.id ∷ []
    → holds_below links new < holds_below links t → AreReleased links t ids room
    → AreReleased links new more room
one_released links i room l t new ids more apart rise at loose releasing h longer less was =
    grind (arith, releasing.once l.lower, holds_few, released_once, loose_held, id_more, length-append)
