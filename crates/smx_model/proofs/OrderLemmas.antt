-- The queues of a flow in order determine it.
use Rattle.smx_model.proofs.Common.{◌≡◌, true, false, List, [], ◌∷◌, ◌++◌, refl, arith, AllByRecursion, nat_tests}
use Rattle.smx_model.proofs.Common.{Place, DriverSpec, Configuration, QueuedMessage, queued_before, place_before, inr}
use Rattle.smx_model.proofs.Common.{same_place, IsInOrder, with_inserted, queue, after_move, rules, cases_Bool, inl}
use Rattle.smx_model.proofs.Common.{is_at}
use Rattle.smx_model.proofs.EachLemmas.{each_of_every, later_placed, later_without_first}
use Rattle.smx_model.proofs.SettledLemmas.{moved_by}
use Rattle.smx_model.proofs.SettlingLemmas.{same_place_is}

-- of two different places, one comes before the other
pub place_either : (p q : Place) → same_place p q ≡ false → place_before p q ≡ false → place_before q p ≡ true
place_either p q h k = grind (arith, nat_tests)

-- if p comes before q, and r doesn't come before q, r differs from p
place_differs : (p q r : Place) → place_before p q ≡ true → place_before r q ≡ false → same_place r p ≡ false
place_differs p q r h k = grind (arith, nat_tests)

-- if p comes before q, and r doesn't come before q, r doesn't come before p
place_not_before : (p q r : Place) → place_before p q ≡ true → place_before r q ≡ false → place_before r p ≡ false
place_not_before p q r h k = grind (arith, nat_tests)

-- of two places at most one comes before the other
place_not_after : (p q : Place) → place_before p q ≡ true → place_before q p ≡ false
place_not_after p q h = grind (arith, nat_tests)

-- the order of places is transitive
pub place_before_trans : (p q r : Place) → place_before p q ≡ true → place_before q r ≡ true → place_before p r ≡ true
place_before_trans p q r h k = search (rules, place_not_after, same_place_is, place_not_before, place_either)

-- a place is the same as itself
pub same_self : (p : Place) → same_place p p ≡ true
same_self p = grind (arith, nat_tests)

-- no place comes before itself
pub same_not_before : (p : Place) → place_before p p ≡ false
same_not_before p = grind (arith, nat_tests)

-- order is kept

-- a flow in order stays in order after a message is inserted by its place
pub order_placed : (hs : List QueuedMessage) (h : QueuedMessage) → IsInOrder hs
    → IsInOrder (with_inserted queued_before hs h)
order_placed hs h o = grind (arith, later_placed, place_not_after h.place, place_not_before h.place, each_of_every)

-- an arriving message goes to the end of its queue, and no other queue changes

-- nothing is queued at a place before the first place of a flow in order
none_queued : (h : QueuedMessage) (hs : List QueuedMessage) (k : QueuedMessage) → queued_before h k ≡ true
    → AllByRecursion (λ j. queued_before j k ≡ false) hs → queue hs h.place ≡ []
none_queued h [] k lt n = refl
none_queued h (j ∷ hs) k lt n = rw (place_differs h.place k.place j.place lt n.0) (none_queued h hs k lt n.1)

-- a message that is inserted by its place goes to the end of the queue there
pub queue_placed : (hs : List QueuedMessage) (h : QueuedMessage) → IsInOrder hs
    → queue (with_inserted queued_before hs h) h.place ≡ queue hs h.place ++ h.message ∷ []
queue_placed [] h o = rw (same_self h.place) refl
queue_placed (k ∷ hs) h o = elim (cases_Bool (queued_before h k)) [
  | inl t ↦ rw (t, same_self h.place, none_queued h (k ∷ hs) k t (same_not_before k.place, o.0)) refl
  | inr f ↦ elim (cases_Bool (is_at h.place k))
      [ inl y ↦ rw (f, y, queue_placed hs h o.1) refl | inr n ↦ rw (f, n) (queue_placed hs h o.1) ]
]

-- a message that is inserted by its place leaves each other queue unchanged
pub queue_elsewhere : (hs : List QueuedMessage) (h : QueuedMessage) (q : Place) → same_place h.place q ≡ false
    → queue (with_inserted queued_before hs h) q ≡ queue hs q
queue_elsewhere [] h q apart_ = rw apart_ refl
queue_elsewhere (k ∷ hs) h q apart_ = grind (arith, queue_elsewhere hs h q apart_)

-- a move keeps the flow in order of places
pub order_moved : (drivers : List DriverSpec) (c : Configuration) (p : Place) → IsInOrder c.flow
    → IsInOrder (after_move drivers c p).flow
order_moved drivers c p h = grind (arith, moved_by, order_placed, later_without_first)
