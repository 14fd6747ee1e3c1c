-- The places that can feed a place, and the place that a move frees.
use Rattle.smx_model.proofs.Common.{◌≡◌, Bool, true, false, ◌&&◌, not, List, Option, Some, None, refl, ap, ◌∙◌, inl}
use Rattle.smx_model.proofs.Common.{inr, both_ways, cases_Bool, and_parts, false≢true, DriverSpec, Message}
use Rattle.smx_model.proofs.Common.{Place, Configuration, same_place, first_message, is_full, after_arrival}
use Rattle.smx_model.proofs.Common.{after_leaving, after_move, after_move_to, next_open_place, arith}
use Rattle.smx_model.proofs.QueueLemmas.{marked_full}
use Rattle.smx_model.proofs.SettlingLemmas.{same_place_is}
use Rattle.smx_model.specs.RunMarks.{is_freed}

-- ---- a move frees one place

-- when a message leaves a place, each other place is as full as before
pub left_keeps : (drivers : List DriverSpec) (c : Configuration) (p q : Place) → same_place p q ≡ false
    → is_full (after_leaving drivers c p) q ≡ is_full c q
left_keeps drivers c p q f = marked_full p q _ c.fulls ∙ rw f refl

-- when a message arrives, each place that was full stays full
pub arrived_more : (drivers : List DriverSpec) (c : Configuration) (p q : Place) (m : Message) → is_full c q ≡ true
    → is_full (after_arrival drivers c p m) q ≡ true
arrived_more drivers c p q m h = grind (arith, marked_full, same_place_is)

-- a move frees only the place that the message leaves
pub moved_frees : (drivers : List DriverSpec) (c : Configuration) (p q : Place)
    → is_freed c (after_move drivers c p) q ≡ true → same_place p q ≡ true
moved_frees drivers c p q h = by (next_open_place drivers c p) (first_message c.flow p) h where
  no : (b : Bool) → (b && not b) ≡ true → same_place p q ≡ true
  no true h = absurd (false≢true h)
  no false h = absurd (false≢true h)

  by : (o : Option Place) (m : Option Message) → is_freed c (after_move_to drivers c p o m) q ≡ true
      → same_place p q ≡ true
  by (Some t) (Some m) h = elim (cases_Bool (same_place p q)) [
    | inl y ↦ y
    | inr f ↦ let a = and_parts (is_full c q)
        (not (is_full (after_arrival drivers (after_leaving drivers c p) t m) q)) h in
        absurd (both_ways _
        (ap not (arrived_more drivers (after_leaving drivers c p) t q m (left_keeps drivers c p q f ∙ a.0))) a.1)
  ]
  by (Some t) None h = no (is_full c q) h
  by None m h = no (is_full c q) h
