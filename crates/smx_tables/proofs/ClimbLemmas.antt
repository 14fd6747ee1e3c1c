-- A stream exists if a descriptor names it, or through the one link above it.
use Rattle.smx_tables.proofs.Common.{◌≡◌, ℕ, zero, suc, Bool, true, false, ◌&&◌, ◌||◌, not, List, find, Option, Some}
use Rattle.smx_tables.proofs.Common.{None, arith, refl, or-false, option_map_or, or_left, nat_tests, Link, Descriptor}
use Rattle.smx_tables.proofs.Common.{StreamId, same_stream, AreLowersApart, is_named, is_persistent, stands_within}
use Rattle.std.proofs.Math.Bool.{and_comm}
use Rattle.smx_tables.proofs.AboveLemmas.{any_once, once_below}

-- whether a stream exists within n climbs through the link above it: the link is persistent, or its controlling stream
-- exists within n - 1 climbs
abbrev pub stands_by : List Descriptor → List Link → ℕ → Option Link → Bool
stands_by fds links n None = false
stands_by fds links zero (Some l) = is_persistent l
stands_by fds links (suc n) (Some l) = is_persistent l || stands_within fds links n l.ctl

-- the first two of three tests may be exchanged
between : (a b c : Bool) → (a && (b && c)) ≡ (b && (a && c))
between a b c = grind (arith, nat_tests)

-- a stream that exists within n climbs exists within n + 1
pub one_climb_more : (fds : List Descriptor) (links : List Link) (n : ℕ) (s : StreamId)
    → stands_within fds links n s ≡ true → stands_within fds links (suc n) s ≡ true
one_climb_more fds links n s h = or_left _ _ h

-- a condition that another one implies need not be checked beside it
climbed : (named persistent less above : Bool) → (less ≡ true → above ≡ true)
    → ((named || (persistent || less)) || (not persistent && above)) ≡ (named || (persistent || above))
climbed named persistent true above h = let stands = h refl in grind (arith, nat_tests)
climbed named persistent false above h = grind (arith, nat_tests)

-- the case of one climb: the link above the stream is persistent, or its controlling stream exists within 0 climbs
first_climb : (named persistent above : Bool)
    → ((named || persistent) || (not persistent && above)) ≡ (named || (persistent || above))
first_climb named persistent above = grind (arith, nat_tests)

-- a stream exists within n + 1 climbs exactly if it exists within n, or through the controlling stream of the link
-- above it
by_more : (fds : List Descriptor) (links : List Link) (n : ℕ) (named : Bool) (o : Option Link)
    → ((named || stands_by fds links n o)
    || option_map_or (λ l. not (is_persistent l) && stands_within fds links n l.ctl) o false)
    ≡ (named || stands_by fds links (suc n) o)
by_more fds links n named None = or-false (named || false)
by_more fds links zero named (Some l) = first_climb named (is_persistent l) (stands_within fds links 0 l.ctl)
by_more fds links (suc n) named (Some l) = grind (arith, one_climb_more fds links n l.ctl)

-- within 0 climbs, a stream exists through the link above it exactly if this link is persistent
by_held : (fds : List Descriptor) (links : List Link) (o : Option Link)
    → option_map_or is_persistent o false ≡ stands_by fds links 0 o
by_held fds links None = refl
by_held fds links (Some l) = refl

-- a stream exists within n climbs exactly if a descriptor names it, or it exists through the one link above it
pub stands_is : (fds : List Descriptor) (links : List Link) (n : ℕ) (s : StreamId) → AreLowersApart links
    → stands_within fds links n s ≡ (is_named fds s || stands_by fds links n (find (λ l. same_stream l.lower s) links))
stands_is fds links zero s h = grind (arith, any_once, once_below s links h, and_comm, by_held fds links)
stands_is fds links (suc n) s h = grind (arith, stands_is fds links n s h, any_once, once_below, between, by_more)

-- a stream that a descriptor names exists within any number of climbs
pub named_stands : (fds : List Descriptor) (links : List Link) (n : ℕ) (s : StreamId) → is_named fds s ≡ true
    → stands_within fds links n s ≡ true
named_stands fds links zero s h = or_left _ _ h
named_stands fds links (suc n) s h = or_left _ _ (named_stands fds links n s h)
