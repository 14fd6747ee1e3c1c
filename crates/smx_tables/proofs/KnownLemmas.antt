-- A stream that exists has a driver and a minor that the list of drivers has.
use Rattle.smx_tables.proofs.Common.{◌≡◌, ℕ, ◌<◌, ◌≤◌, true, false, List, length, subst, arith, rules, DriverSpec}
use Rattle.smx_tables.proofs.Common.{Descriptor, StreamId, Configuration, same_stream, minors_of, IsKnown, is_below}
use Rattle.smx_tables.proofs.Common.{exists}
use Rattle.std.proofs.Common.{Ok, inl, inr}
use Rattle.std.specs.List.{All}
use Rattle.std.proofs.lemmas.Bool.{or_cases}
use Rattle.std.proofs.lemmas.List.Elements.{recursion_from_All}
use Rattle.smx_model.specs.KnownStreams.{AreStreamsKnown}
use Rattle.smx_model.specs.Lookups.{stream_of}
use Rattle.smx_model.specs.Standing.{is_named}
use Rattle.smx_model.proofs.TestLemmas.{any_found}
use Rattle.smx_tables.proofs.AboveLemmas.{stream_is}
use Rattle.smx_tables.proofs.ExistingLemmas.{named_stream, stands_there}
use Rattle.smx_tables.proofs.AcceptedLemmas.{fd_at}

-- a stream that a descriptor names is known, if the streams of all descriptors are
named_known : (drivers : List DriverSpec) (fds : List Descriptor) (s : StreamId)
    → All (λ d. IsKnown drivers d.stream) fds → is_named fds s ≡ true → IsKnown drivers s
named_known drivers fds s k h =
    let f = any_found (λ d. same_stream d.stream s) (λ d. IsKnown drivers d.stream) fds (recursion_from_All _ fds k)
    h in
    subst (IsKnown drivers) (stream_is f.one.stream s f.passes) f.has

-- a stream that exists is known
pub exists_known : (drivers : List DriverSpec) (c : Configuration) (s : StreamId) → AreStreamsKnown drivers c
    → exists drivers c s ≡ true → IsKnown drivers s
exists_known drivers c s k h =
    elim (or_cases (is_named c.fds s) (is_below c.links s) (stands_there c.fds c.links (length drivers) s h)) [
      | inl a ↦ named_known drivers c.fds s k.fds a
      | inr b ↦
          let f = any_found (λ l. same_stream l.lower s) (λ l. IsKnown drivers l.lower) c.links
          (recursion_from_All _ c.links k.lowers) b in
          subst (IsKnown drivers) (stream_is f.one.lower s f.passes) f.has
    ]

-- a stream whose minor its driver doesn't have doesn't exist
pub unknown_is_not : (drivers : List DriverSpec) (c : Configuration) (s : StreamId) → AreStreamsKnown drivers c
    → minors_of drivers s.driver ≤ s.minor → exists drivers c s ≡ false
unknown_is_not drivers c s k past = grind (arith, exists_known drivers c s k)

-- the stream of a descriptor is known
pub stream_known : (drivers : List DriverSpec) (c : Configuration) (process fd : ℕ) (s : StreamId)
    → AreStreamsKnown drivers c → stream_of c process fd ≡ Ok s → IsKnown drivers s
stream_known drivers c process fd s k h = search (rules, named_known, named_stream, fd_at)

-- the driver of a descriptor's stream exists
pub driver_known : (drivers : List DriverSpec) (c : Configuration) (process fd : ℕ) (s : StreamId)
    → AreStreamsKnown drivers c → stream_of c process fd ≡ Ok s → s.driver < length drivers
driver_known drivers c process fd s k h = (stream_known drivers c process fd s k h).0
