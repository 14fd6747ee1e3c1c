-- The drivers have the streams of places with messages, and of next places.
use Rattle.smx_model.proofs.Common.{List, [], ◌∷◌, None, refl, ◌≢◌, AllByRecursion, recursion_from_All, DriverSpec}
use Rattle.smx_model.proofs.Common.{Place, Configuration, QueuedMessage, AreStreamsKnown, IsKnown, first_message, arith}
use Rattle.smx_model.proofs.SettlingLemmas.{same_place_is}

-- if the drivers have the streams of all messages, they have the stream of a place with a message
held_by_known : (drivers : List DriverSpec) (hs : List QueuedMessage) (p : Place)
    → AllByRecursion (λ h. IsKnown drivers h.place.stream) hs → first_message hs p ≢ None → IsKnown drivers p.stream
held_by_known drivers [] p k some = absurd (some refl)
held_by_known drivers (h ∷ hs) p k some = grind (arith, same_place_is h.place p, held_by_known drivers hs p k.1)

-- the drivers have the stream of a place with a message
pub held_known : (drivers : List DriverSpec) (c : Configuration) (p : Place) → AreStreamsKnown drivers c
    → first_message c.flow p ≢ None → IsKnown drivers p.stream
held_known drivers c p k some = held_by_known drivers c.flow p (recursion_from_All _ c.flow k.flow) some
