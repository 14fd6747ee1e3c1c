-- Descriptors, bindings, routes, full places and hung-up streams stay in their order.
use Rattle.smx_model.proofs.Common.{◌≡◌, ℕ, Bool, true, false, ◌&&◌, ◌||◌, not, eqb, List, filter, Ok, refl, rules}
use Rattle.smx_model.proofs.Common.{arith, list_any, nat_tests, AllByRecursion, Command, DriverSpec}
use Rattle.smx_model.proofs.Common.{TooManyDescriptors, Place, StreamId, outcome, with_fd}
use Rattle.smx_model.proofs.Common.{Configuration, empty, is_fd, fd_before, bind_before, route_before, place_before}
use Rattle.smx_model.proofs.Common.{pair_before, same_place, same_stream, stream_before, is_hung, with_hung, free_fd}
use Rattle.smx_model.proofs.Common.{with_inserted, IsRising, with_mark, after_move, AreListsOrdered}
use Rattle.std.proofs.lemmas.Bool.{not-true}
use Rattle.smx_model.proofs.SettledLemmas.{moved_by}
use Rattle.smx_model.proofs.OrderLemmas.{order_moved, order_placed, place_before_trans, place_either}
use Rattle.smx_model.proofs.AcceptedLemmas.{of_rows}
use Rattle.smx_model.proofs.LookupLemmas.{there_is}
use Rattle.smx_model.proofs.OutcomeLemmas.{IfAccepted}
use Rattle.smx_model.proofs.EachLemmas.{kept_passes, later_filter, later_placed, later_without_first, none_passes}
use Rattle.smx_model.proofs.TestLemmas.{find_passes}

-- one more element, and fewer

-- an order is transitive: an element before a second one comes before everything that the second comes before
abbrev pub IsTransitive : {X : Type 0} → (X → X → Bool) → Type 0
IsTransitive {X} before = (x y z : X) → before x y ≡ true → before y z ≡ true → before x z ≡ true

-- a rising list still rises after one more element is inserted that comes before or after each of its elements
pub rising_placed : {X : Type 0} (before : X → X → Bool) → IsTransitive before → (x : X) (xs : List X)
    → AllByRecursion (λ y. before x y ≡ false → before y x ≡ true) xs → IsRising before xs
    → IsRising before (with_inserted before xs x)
rising_placed before trans x xs other h = grind (arith, later_placed)

-- the orders

-- the order of pairs is transitive
pair_trans : (a b c d e f : ℕ) → pair_before a b c d ≡ true → pair_before c d e f ≡ true → pair_before a b e f ≡ true
pair_trans a b c d e f h k = grind (arith, nat_tests)

-- of two different pairs, one that doesn't come before the other comes after it
pair_after : (a b c d : ℕ) → (eqb c a && eqb d b) ≡ false → pair_before a b c d ≡ false → pair_before c d a b ≡ true
pair_after a b c d h k = grind (arith, nat_tests)

-- the order of descriptors is transitive
fd_trans : IsTransitive fd_before
fd_trans x y z h k = pair_trans x.process x.fd y.process y.fd z.process z.fd h k

-- the order of bindings is transitive
bind_trans : IsTransitive bind_before
bind_trans x y z h k = pair_trans x.driver x.addr y.driver y.addr z.driver z.addr h k

-- the order of routes is transitive
route_trans : IsTransitive route_before
route_trans x y z h k = pair_trans x.driver x.addr y.driver y.addr z.driver z.addr h k

-- the order of streams is transitive
pub stream_trans : IsTransitive stream_before
stream_trans x y z h k = pair_trans x.driver x.minor y.driver y.minor z.driver z.minor h k

-- if a driver's address and stream are both free, no binding has that address
pub bind_other : (a b c d e m : ℕ) → (eqb c a && (eqb d b || eqb e m)) ≡ false → (eqb c a && eqb d b) ≡ false
bind_other a b c d e m h = grind (arith, nat_tests)

-- for each accepted outcome

-- a free number of a process is not the number of one of its descriptors
free_number_is_new : (c : Configuration) (process fd : ℕ) → free_fd c process ≡ Ok fd
    → list_any (is_fd process fd) c.fds ≡ false
free_number_is_new c process fd e = grind (arith, find_passes, there_is TooManyDescriptors _ fd e)

-- rising descriptors still rise with one more under a free number
fds_rise : (c : Configuration) (process fd : ℕ) (s : StreamId) → AreListsOrdered c → free_fd c process ≡ Ok fd
    → IsRising fd_before (with_fd c process fd s).fds
fds_rise c process fd s h e = grind (arith, rising_placed, fd_trans, none_passes, pair_after, free_number_is_new)

-- rising bindings still rise with one more, if neither its address nor its stream is bound
binds_rise : (c : Configuration) (driver addr minor : ℕ) → AreListsOrdered c
    → list_any (λ b. eqb b.driver driver && (eqb b.addr addr || eqb b.minor minor)) c.binds ≡ false
    → IsRising bind_before
    (with_inserted bind_before c.binds (record { driver = driver; addr = addr; minor = minor }))
binds_rise c driver addr minor h e = grind (arith, rising_placed, bind_trans, none_passes, pair_after, bind_other)

-- rising routes still rise with one more in place of that of its driver and address
routes_rise : (c : Configuration) (driver addr id : ℕ) → AreListsOrdered c
    → IsRising route_before
    (with_inserted route_before (filter (λ r. not (eqb r.driver driver && eqb r.addr addr)) c.routes)
    (record { driver = driver; addr = addr; id = id }))
routes_rise c driver addr id h =
    rising_placed route_before route_trans (record { driver = driver; addr = addr; id = id }) _
    (kept_passes (λ r. not (eqb r.driver driver && eqb r.addr addr)) _ c.routes
    (λ r t k. pair_after driver addr r.driver r.addr (not-true _ t) k)) (later_filter _ _ c.routes h.routes)

-- rising hung-up streams still rise with one more
pub rising_with_hung : (s : StreamId) (hungs : List StreamId) → IsRising stream_before hungs
    → IsRising stream_before (with_hung s hungs)
rising_with_hung s hungs h = by (is_hung hungs s) refl where
  by : (b : Bool) → is_hung hungs s ≡ b → IsRising stream_before (with_hung s hungs)
  by true e = rw e h
  by false e = rw e (rising_placed stream_before stream_trans s hungs
      (none_passes (λ t. same_stream t s) _ hungs (λ t f k. pair_after s.driver s.minor t.driver t.minor f k) e) h)

-- rising full places still rise with one more, and without one
rising_marked : (p : Place) (b : Bool) (ps : List Place) → IsRising place_before ps
    → IsRising place_before (with_mark p b ps)
rising_marked p true ps h = rising_placed place_before place_before_trans p _
    (kept_passes (λ q. not (same_place p q)) _ ps (λ q t k. place_either p q (not-true _ t) k))
    (later_filter _ _ ps h)
rising_marked p false ps h = later_filter _ _ ps h

-- an accepted command keeps all lists in order
pub rising_accepted : (drivers : List DriverSpec) (c : Configuration) (process : ℕ) (k : Command) → AreListsOrdered c
    → IfAccepted (λ d r. AreListsOrdered d) (outcome drivers c process k)
rising_accepted drivers c process k h = of_rows _ drivers c process k (search (
  later_filter,
  rising_marked,
  rising_with_hung,
  order_placed,
  later_without_first,
  fds_rise,
  binds_rise,
  routes_rise,
  rules,
) depth 24)

-- a move keeps all lists in order
pub rising_moved : (drivers : List DriverSpec) (c : Configuration) (p : Place) → AreListsOrdered c
    → AreListsOrdered (after_move drivers c p)
rising_moved drivers c p h = grind (arith, moved_by, rising_marked, order_moved)

-- the lists of the empty configuration are in order
pub rising_empty : AreListsOrdered empty
rising_empty = record { fds = tt; binds = tt; routes = tt; fulls = tt; hungs = tt; flow = tt }
