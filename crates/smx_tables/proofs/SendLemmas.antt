-- The streams at which messages are sent and taken are known.
use Rattle.smx_tables.proofs.Common.{◌≡◌, ℕ, List, Result, Err, refl, ◌∙◌, arith, DriverSpec, Fault, StreamId}
use Rattle.smx_tables.proofs.Common.{Configuration, IsKnown, leaf_stream, refuse}
use Rattle.std.proofs.Common.{Ok}
use Rattle.std.specs.Prelude.{IfOk}
use Rattle.smx_types.specs.declared.reply.Fault.TheVariants.{HungUp}
use Rattle.smx_model.specs.Hangups.{is_hung}
use Rattle.smx_model.specs.KnownStreams.{AreStreamsKnown}
use Rattle.smx_model.specs.Lookups.{free_stream, live_leaf, live_stream}
use Rattle.smx_model.specs.Outcomes.{◌>>=◌}
use Rattle.smx_tables.proofs.AcceptedLemmas.{bound, free_says, leaf_says}
use Rattle.smx_tables.proofs.KnownLemmas.{exists_known, stream_known}

-- the stream of a free descriptor is known
pub free_known : (drivers : List DriverSpec) (c : Configuration) (process fd : ℕ) (s : StreamId)
    → AreStreamsKnown drivers c → free_stream c process fd ≡ Ok s → IsKnown drivers s
free_known drivers c process fd s k e = stream_known drivers c process fd s k (free_says c process fd s e).0

-- the stream of a device is known
pub leaf_known : (drivers : List DriverSpec) (c : Configuration) (name : List ℕ) (minor : ℕ) (s : StreamId)
    → AreStreamsKnown drivers c → leaf_stream drivers c name minor ≡ Ok s → IsKnown drivers s
leaf_known drivers c name minor s k e = exists_known drivers c s k (leaf_says drivers c name minor s e).0

-- the stream of a free descriptor that has not hung up is known
pub live_known : (drivers : List DriverSpec) (c : Configuration) (process fd : ℕ) (s : StreamId)
    → AreStreamsKnown drivers c → live_stream c process fd ≡ Ok s → IsKnown drivers s
live_known drivers c process fd s k e =
    let there = bound (free_stream c process fd) (λ x. refuse HungUp (is_hung c.hungs x) >>= (λ h. Ok x)) s e in
    let live = bound (refuse HungUp (is_hung c.hungs there.0)) (λ h. Ok there.0) s there.2 in
    free_known drivers c process fd s k (there.1 ∙ live.2)

-- the stream of a device that has not hung up is known
pub live_leaf_known : (drivers : List DriverSpec) (c : Configuration) (name : List ℕ) (minor : ℕ) (s : StreamId)
    → AreStreamsKnown drivers c → live_leaf drivers c name minor ≡ Ok s → IsKnown drivers s
live_leaf_known drivers c name minor s k e = grind (arith, bound, leaf_known)

-- the result of a look-up is known if each stream that it may return is
pub answers_known : (drivers : List DriverSpec) (named : Result StreamId Fault)
    → ((s : StreamId) → named ≡ Ok s → IsKnown drivers s) → IfOk named (IsKnown drivers)
answers_known drivers (Ok s) h = h s refl
answers_known drivers (Err f) h = tt
