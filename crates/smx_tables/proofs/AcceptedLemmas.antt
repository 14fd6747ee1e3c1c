-- Consequences of an accepted result.
use Rattle.smx_tables.proofs.Common.{◌≡◌, ℕ, Bool, true, false, List, Option, Some, None, Result, refl, ap}
use Rattle.smx_tables.proofs.Common.{arith, DriverSpec, Fault, StreamId, Configuration, is_mux, leaf_stream, refuse}
use Rattle.smx_tables.proofs.Common.{exists, is_below}
use Rattle.std.proofs.Common.{Ok}
use Rattle.std.specs.Option.{ok_or}
use Rattle.smx_types.specs.declared.reply.Fault.TheVariants.{BadDescriptor}
use Rattle.smx_model.specs.Lookups.{free_stream, stream_of}
-- if a result is accepted, so is the look-up before it
pub use Rattle.smx_model.proofs.LookupLemmas.{looked_up as bound}

-- a test that didn't lead to a refusal is false
pub not_refused : (f : Fault) (t : Bool) {u : Unit {0}} → refuse f t ≡ Ok u → t ≡ false
not_refused f true h = absurd cc
not_refused f false h = refl

-- two accepted results are equal only if their values are
pub accepted : {A : Type 0} (x y : A) → ◌≡◌ {A = Result A Fault} (Ok x) (Ok y) → x ≡ y
accepted x y h = cc

-- ---- look-ups

-- a look-up of a descriptor that isn't refused has found this stream
pub fd_at : (o : Option StreamId) (s : StreamId) → ok_or o BadDescriptor ≡ Ok s → o ≡ Some s
fd_at None s e = absurd cc
fd_at (Some x) s e = ap (λ (y : StreamId). Some y) (accepted x s e)

-- the stream of a free descriptor is the descriptor's stream, and it is not below a link
pub free_says : (c : Configuration) (process fd : ℕ) (s : StreamId) → free_stream c process fd ≡ Ok s
    → (stream_of c process fd ≡ Ok s) × (is_below c.links s ≡ false)
free_says c process fd s e = grind (arith, bound, accepted, not_refused)

-- the stream of a device exists, and its driver is not a multiplexing driver
pub leaf_says : (drivers : List DriverSpec) (c : Configuration) (name : List ℕ) (minor : ℕ) (s : StreamId)
    → leaf_stream drivers c name minor ≡ Ok s → (exists drivers c s ≡ true) × (is_mux drivers s.driver ≡ false)
leaf_says drivers c name minor s e = grind (arith, bound, accepted, not_refused)
