-- Places and their numbers.
use Rattle.smx_config.proofs.Common.{◌≡◌, ℕ, suc, ◌<◌, true, List, [], ◌∷◌, length, Option, None, Some, refl, sym}
use Rattle.smx_config.proofs.Common.{subst, arith, IsSome, same_Some, DriverSpec, Place, same_place, IsKnown}
use Rattle.smx_config.proofs.Common.{places_of, place_is, IsAt}
use Rattle.std.proofs.Common.{zero}
use Rattle.std.specs.Prelude.{slice_get}
use Rattle.std.proofs.lemmas.Option.{slice_get_within}
use Rattle.smx_queues.proofs.PlacesOfLemmas.{number_known, same_number}
use Rattle.smx_config.specs.Marking.{IsNumber}

-- the number of this place is the number of some place
pub at_number : (drivers : List DriverSpec) (n : ℕ) (p : Place) → IsAt drivers n p → IsNumber drivers n
at_number drivers n p at = slice_get_within (places_of drivers) n p at

-- a list has an element at each number below its length
place_in : (places : List Place) (n : ℕ) → n < length places → (p : Place) × (slice_get places n ≡ Some p)
place_in [] n lt = absurd (omega arith)
place_in (p ∷ places) zero lt = (p, refl)
place_in (p ∷ places) (suc n) lt = place_in places n (omega arith)

-- each number of a place has its place
pub place_of_number : (drivers : List DriverSpec) (n : ℕ) → IsNumber drivers n → (p : Place) × (IsAt drivers n p)
place_of_number drivers n lt = place_in (places_of drivers) n lt

-- one number has only one place
pub one_place : (drivers : List DriverSpec) (m n : ℕ) (p q : Place) → IsAt drivers m p → IsAt drivers n q
    → m ≡ n → p ≡ q
one_place drivers m n p q at there same = grind (arith, same_Some)

-- places that are the same have the same number
pub one_number : (drivers : List DriverSpec) (m n : ℕ) (p q : Place) → IsAt drivers m p → IsAt drivers n q
    → same_place p q ≡ true → m ≡ n
one_number drivers m n p q at there same =
    same_number drivers m n p at (subst (IsAt drivers n) (sym (place_is p q same)) there)

-- a place for which no number was found has no number
pub none_found : (drivers : List DriverSpec) (p : Place) (r : Option ℕ) → r ≡ None
    → (IsKnown drivers p.stream → IsSome r) → (n : ℕ) → IsAt drivers n p → ⊥
none_found drivers p r is known n at = grind (arith, known (number_known drivers n p at), number_known drivers n p at)
