-- The drivers have the streams of descriptors and links.
use Rattle.smx_model.proofs.Common.{◌≡◌, ℕ, zero, suc, ◌+◌, ◌<◌, Bool, false, leb, arith, List, [], ◌∷◌, length}
use Rattle.smx_model.proofs.Common.{find, Some, Ok, range_with_len, AllByRecursion, Command, NoDriver}
use Rattle.smx_model.proofs.Common.{DriverSpec, Link, Place, StreamId, outcome, Configuration, minors_of, IsKnown}
use Rattle.smx_model.proofs.Common.{driver_of, stream_of, free_minor, after_move, rules}
use Rattle.std.specs.Prelude.{position}
use Rattle.std.specs.Str.{bytes_eq}
use Rattle.std.proofs.lemmas.Bool.{leb-false}
use Rattle.std.proofs.lemmas.List.Quantifiers.{position-Some}
use Rattle.smx_model.proofs.SettledLemmas.{moved_by}
use Rattle.smx_model.proofs.LookupLemmas.{descriptor_of, there_is}
use Rattle.smx_model.proofs.OutcomeLemmas.{IfAccepted}
use Rattle.smx_model.proofs.EachLemmas.{each_filter, each_placed, each_push, each_find, each_map}
use Rattle.smx_model.proofs.AcceptedLemmas.{of_rows}

-- the drivers have the stream of each descriptor, and the controlling and the lower stream of each link
pub record AreNamed (drivers : List DriverSpec) (c : Configuration) : Type 0 where
  pub fds : AllByRecursion (λ d. IsKnown drivers d.stream) c.fds
  pub links : AllByRecursion (λ l. IsKnown drivers l.ctl × IsKnown drivers l.lower) c.links

-- if the drivers have the streams of links, both drivers of each link are in range
pub links_below : (drivers : List DriverSpec) (links : List Link)
    → AllByRecursion (λ l. IsKnown drivers l.ctl × IsKnown drivers l.lower) links
    → AllByRecursion (λ l. (l.ctl.driver < length drivers) × (l.lower.driver < length drivers)) links
links_below drivers links h = each_map _ _ links (λ l p. (p.0.0, p.1.0)) h

-- a position at which a search in the drivers finds one is in range
position_below : (drivers : List DriverSpec) (test : DriverSpec → Bool) (k : ℕ) → position test drivers ≡ Some k
    → k < length drivers
position_below [] test k e = cc
position_below (d ∷ ds) test k e = (position-Some test (d ∷ ds) k d e).0

-- the number of a driver found by its name is in range
driver_below : (drivers : List DriverSpec) (name : List ℕ) (n : ℕ) → driver_of drivers name ≡ Ok n → n < length drivers
driver_below drivers name n e = position_below drivers (λ d. bytes_eq d.name name) n (there_is NoDriver _ n e)

-- a number found in a range is below its end
pub range_below : (test : ℕ → Bool) (a n m : ℕ) → find test (range_with_len a n) ≡ Some m → m < a + n
range_below test a zero m e = cc
range_below test a (suc n) m e = grind (arith, range_below test (a + 1) n m)

-- a minor that is found free is one of the driver's
minor_free : (drivers : List DriverSpec) (c : Configuration) (n m : ℕ) → free_minor drivers c n ≡ Ok m
    → m < minors_of drivers n
minor_free drivers c n m e = grind (arith, range_below, there_is)

-- a minor below the number of minors of its driver is one of them
minor_in : (drivers : List DriverSpec) (n m : ℕ) → leb (minors_of drivers n) m ≡ false → m < minors_of drivers n
minor_in drivers n m e = leb-false (minors_of drivers n) m e

-- a driver in range and one of its minors form a stream that the drivers have
known_made : (drivers : List DriverSpec) (n m : ℕ) → n < length drivers → m < minors_of drivers n
    → IsKnown drivers (record { driver = n; minor = m })
known_made drivers n m lt lt2 = (lt, lt2)

-- if the drivers have the streams of descriptors, they have the stream of a process' descriptor
stream_known : (drivers : List DriverSpec) (c : Configuration) (process fd : ℕ) (s : StreamId) → AreNamed drivers c
    → stream_of c process fd ≡ Ok s → IsKnown drivers s
stream_known drivers c process fd s h e = grind (arith, descriptor_of c process fd s e, each_find)

-- after an accepted command the drivers have the streams of descriptors and links
pub named_accepted : (drivers : List DriverSpec) (c : Configuration) (process : ℕ) (k : Command) → AreNamed drivers c
    → IfAccepted (λ d r. AreNamed drivers d) (outcome drivers c process k)
named_accepted drivers c process k h = of_rows _ drivers c process k (search (
  each_placed,
  each_push,
  each_filter,
  known_made,
  minor_free,
  minor_in,
  driver_below,
  stream_known,
  rules,
) depth 24)

-- after a move the drivers have the streams of descriptors and links
pub named_moved : (drivers : List DriverSpec) (c : Configuration) (p : Place) → AreNamed drivers c
    → AreNamed drivers (after_move drivers c p)
named_moved drivers c p h = grind (arith, moved_by (AreNamed drivers) drivers c p h, AreNamed drivers)
