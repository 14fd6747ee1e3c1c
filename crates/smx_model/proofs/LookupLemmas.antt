-- The result of a look-up that is not refused.
use Rattle.smx_model.proofs.Common.{◌≡◌, ℕ, Bool, true, false, List, Option, Some, None, Result, Ok, Err, refl, ap}
use Rattle.smx_model.proofs.Common.{find, DriverSpec, Fault, Place, StreamId, Descriptor}
use Rattle.smx_model.proofs.Common.{Configuration, is_fd, is_hung, free_stream, leaf_stream, live_leaf, live_stream}
use Rattle.smx_model.proofs.Common.{stream_of, refuse, live_write_side, arith}
use Rattle.std.specs.Option.{ok_or}
use Rattle.smx_types.specs.declared.reply.Fault.TheVariants.{BadDescriptor, HungUp}
use Rattle.smx_types.specs.declared.stream.Side.TheVariants as side
use Rattle.smx_model.specs.Outcomes.{◌>>=◌}

-- if a missing value would be a fault and there is no fault, the value exists
pub there_is : {A : Type 0} (f : Fault) (o : Option A) (x : A) → ok_or o f ≡ Ok x → o ≡ Some x
there_is f None x e = cc
there_is f (Some y) x e = let same : y ≡ x = cc in ap Some same

-- if two steps in turn are accepted, the first was accepted with some value, and the second with that value
pub looked_up : {A B : Type 0} (r : Result A Fault) (g : A → Result B Fault) (x : B) → (r >>= g) ≡ Ok x
    → (y : A) × (r ≡ Ok y) × (g y ≡ Ok x)
looked_up (Ok y) g x e = (y, refl, e)
looked_up (Err f) g x e = cc

-- if a refusal and the steps after it are accepted, the test of the refusal fails, and those steps are accepted
pub passed : {A : Type 0} (f : Fault) (b : Bool) (g : Unit {0} → Result A Fault) (x : A) → (refuse f b >>= g) ≡ Ok x
    → (b ≡ false) × (g tt ≡ Ok x)
passed f true g x e = cc
passed f false g x e = (refl, e)

-- a look-up followed by a test gives the value of the look-up, which passed the test
pub tested : (f : Fault) (r : Result StreamId Fault) (t : StreamId → Bool) (x : StreamId)
    → (r >>= (λ y. refuse f (t y) >>= (λ _. Ok y))) ≡ Ok x → (r ≡ Ok x) × (t x ≡ false)
tested f r t x e = grind (arith, looked_up, passed)

-- the stream of a descriptor is that of the first with its process and its number
pub descriptor_of : (c : Configuration) (process fd : ℕ) (s : StreamId) → stream_of c process fd ≡ Ok s
    → (d : Descriptor) × (find (is_fd process fd) c.fds ≡ Some d) × (d.stream ≡ s)
descriptor_of c process fd s e = grind (arith, there_is BadDescriptor _ s e)

-- a descriptor's stream found as live is also found as one not linked below, and has not hung up
pub live_is : (c : Configuration) (process fd : ℕ) (s : StreamId) → live_stream c process fd ≡ Ok s
    → (free_stream c process fd ≡ Ok s) × (is_hung c.hungs s ≡ false)
live_is c process fd s e = tested HungUp (free_stream c process fd) (is_hung c.hungs) s e

-- a device's stream found as live is also found as a leaf driver's, and has not hung up
pub live_leaf_is : (drivers : List DriverSpec) (c : Configuration) (name : List ℕ) (minor : ℕ) (s : StreamId)
    → live_leaf drivers c name minor ≡ Ok s → (leaf_stream drivers c name minor ≡ Ok s) × (is_hung c.hungs s ≡ false)
live_leaf_is drivers c name minor s e = tested HungUp (leaf_stream drivers c name minor) (is_hung c.hungs) s e

-- the write side of a stream that is not hung up is its write side
pub live_is_side : (hungs : List StreamId) (s : StreamId) (q : Place) → live_write_side hungs s ≡ Some q
    → record { stream = s; side = side.Write } ≡ q
live_is_side hungs s q e = grind arith
