-- The least marked place and the least movable one, and settling move by move.
use Rattle.smx_model.proofs.Common.{◌≡◌, ℕ, zero, suc, Bool, true, false, List, [], ◌∷◌, find, Option, Some, None, refl}
use Rattle.smx_model.proofs.Common.{DriverSpec, Place, Configuration, QueuedMessage, IsInOrder, IsSettled, after_move}
use Rattle.smx_model.proofs.Common.{after_settling_within, is_movable, least_movable, arith, nat_tests}
use Rattle.smx_model.specs.RunMarks.{AreMarked, IsLeastMarked}
use Rattle.smx_model.proofs.QueueLemmas.{least_is}

-- ---- the least marked place

-- the least place with a run mark, if it is movable, is the least movable place
pub marked_is_least : (drivers : List DriverSpec) (c : Configuration) (run wanted : Place → Bool) (p : Place)
    → IsInOrder c.flow → AreMarked drivers c run wanted → IsLeastMarked run p → is_movable drivers c p ≡ true
    → least_movable drivers c ≡ Some p
marked_is_least drivers c run wanted p o h l m = grind (arith, nat_tests, least_is drivers c o)

-- a search by place finds no message if no place passes the test
none_found : (t : Place → Bool) (flow : List QueuedMessage) → ((p : Place) → t p ≡ false)
    → find (λ h. t h.place) flow ≡ None
none_found t [] f = refl
none_found t (h ∷ hs) f = rw (f h.place) (none_found t hs f)

-- in a settled configuration there is no least movable place
pub none_is_least : (drivers : List DriverSpec) (c : Configuration) → IsSettled drivers c
    → least_movable drivers c ≡ None
none_is_least drivers c s = grind (arith, none_found (is_movable drivers c) c.flow s)

-- ---- one move of settling, or none

-- settling within one move more is the move from the least movable place, if there is one, and then settling
settling_round : (drivers : List DriverSpec) (n : ℕ) (c : Configuration) (o : Option Place)
    → least_movable drivers c ≡ o → after_settling_within drivers (suc n) c ≡ elim o as (λ _. Configuration)
    [ None ↦ c | Some p ↦ after_settling_within drivers n (after_move drivers c p) ]
settling_round drivers n c o e = grind arith

-- settling changes nothing if there is no least movable place
pub settling_stays : (drivers : List DriverSpec) (n : ℕ) (c : Configuration) → least_movable drivers c ≡ None
    → after_settling_within drivers n c ≡ c
settling_stays drivers zero c e = refl
settling_stays drivers (suc n) c e = settling_round drivers n c None e

-- settling within one move more begins with the move from the least movable place
pub settling_moves : (drivers : List DriverSpec) (n : ℕ) (c : Configuration) (p : Place)
    → least_movable drivers c ≡ Some p → after_settling_within drivers (suc n) c
    ≡ after_settling_within drivers n (after_move drivers c p)
settling_moves drivers n c p e = settling_round drivers n c (Some p) e
