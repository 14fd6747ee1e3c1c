-- Equal places, the order of places, and the numbers of places in order.
use Rattle.std.proofs.Common.{◌≡◌, ℕ, zero, suc, ◌<◌, true, false, ltb, List, [], ◌∷◌, length, Some, refl, subst, arith}
use Rattle.std.specs.Prelude.{slice_get}
use Rattle.std.proofs.lemmas.Bool.Decides.{nat_tests}
use Rattle.std.proofs.lemmas.Option.{same_Some}
use Rattle.smx_types.specs.declared.stream.Place.{Place}
use Rattle.smx_types.specs.declared.stream.Side.{Side}
use Rattle.smx_model.specs.Configuration.{place_before, same_place}
use Rattle.smx_model.specs.Ordered.{ComesBefore}
-- places that pass the test `same_place` are equal; each place passes it with itself, and does not come before itself
pub use Rattle.smx_model.proofs.OrderLemmas.{same_self as place_self, same_not_before as not_before}
pub use Rattle.smx_model.proofs.SettlingLemmas.{same_place_is as place_is}

-- a place of a driver
abbrev pub place_at : ℕ → ℕ → Side → Place
place_at driver minor s = record { stream = record { driver = driver; minor = minor }; side = s }

-- two places don't both come before each other
pub not_after : (p q : Place) → place_before p q ≡ true → place_before q p ≡ false
not_after p q h = grind (arith, nat_tests)

-- a place that comes before another one differs from it
pub apart : (p q : Place) → place_before p q ≡ true → same_place p q ≡ false
apart p q h = grind (arith, nat_tests)

-- a place that comes after another one differs from it
pub behind : (p q : Place) → place_before p q ≡ true → same_place q p ≡ false
behind p q h = grind (arith, nat_tests)

-- the test whether two places are the same is symmetric
pub same_turned : (p q : Place) → same_place p q ≡ same_place q p
same_turned p q = grind (arith, nat_tests)

-- a place of a lower driver comes first
pub lower_driver : (p q : Place) → ltb p.stream.driver q.stream.driver ≡ true → place_before p q ≡ true
lower_driver p q h = grind (arith, nat_tests)

-- ---- the numbers of places

-- each number below the count of places is the number of a place, and so for the elements of any list
pub numbered : {X : Type 0} (places : List X) (i : ℕ) → i < length places → (p : X) × (slice_get places i ≡ Some p)
numbered [] i lt = absurd (omega arith)
numbered (x ∷ places) zero lt = (x, refl)
numbered (x ∷ places) (suc i) lt = numbered places i (omega arith)

-- if p comes before all places of a list, it comes before each one
pub first_before : (p q : Place) (places : List Place) (i : ℕ) → ComesBefore place_before p places
    → slice_get places i ≡ Some q → place_before p q ≡ true
first_before p q [] i h at = absurd cc
first_before p q (r ∷ places) zero h at = subst (λ (x : Place). place_before p x ≡ true) (same_Some r q at) h.0
first_before p q (r ∷ places) (suc i) h at = first_before p q places i h.1 at
