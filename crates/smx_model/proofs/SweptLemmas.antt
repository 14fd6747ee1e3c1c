-- Each configuration is swept.
use Rattle.smx_model.proofs.Common.{◌≡◌, ℕ, zero, suc, ◌<◌, Bool, true, false, ◌||◌, List, [], ◌∷◌, ◌++◌, length, find}
use Rattle.smx_model.proofs.Common.{Option, Some, None, Ok, refl, rules, arith, IfOk, outcome, done_outcome, with_fd}
use Rattle.smx_model.proofs.Common.{Configuration, QueuedMessage, is_at, queued_before, fd_before, same_stream}
use Rattle.smx_model.proofs.Common.{place_before, is_fd, stream_of, free_stream, leaf_stream, live_leaf, live_stream}
use Rattle.smx_model.proofs.Common.{HasNoCycle, without_first, first_message, with_mark, after_sweep, after_move}
use Rattle.smx_model.proofs.Common.{after_move_to, next_open_place, next_place, is_persistent, stands_within, exists}
use Rattle.smx_model.proofs.Common.{Stands, IsSwept, list_any, eq-eqb, or_right, and_from, Command, Descriptor}
use Rattle.smx_model.proofs.Common.{DriverSpec, Link, Message, Place, Side, StreamId, list_all, AllByRecursion}
use Rattle.smx_model.proofs.Common.{nat_tests, or_left}
use Rattle.smx_model.proofs.IdleSweepLemmas.{swept_idle}
use Rattle.smx_model.proofs.AcceptedLemmas.{of_rows}
use Rattle.smx_model.proofs.OutcomeLemmas.{IfAccepted, if_ok}
use Rattle.smx_model.proofs.LookupLemmas.{descriptor_of, live_is, live_leaf_is, looked_up, passed, tested}
use Rattle.smx_model.proofs.PathLemmas.{reaches_at}
use Rattle.smx_model.proofs.RangeLemmas.{AreNamed}
use Rattle.smx_model.proofs.SettlingLemmas.{same_place_is, below_link, above_binding, open_next}
use Rattle.smx_model.proofs.StandingLemmas.{swept_is, stands_more, IsLinkIn, climbs_suffice}
use Rattle.smx_types.specs.declared.stream.Side.TheVariants as side
use Rattle.smx_model.proofs.EachLemmas.{each_map}
use Rattle.smx_model.proofs.TestLemmas.{any_more, all_more, all_push, all_placed, all_filter, all_without, any_placed}
use Rattle.smx_model.proofs.TestLemmas.{any_push, found_any, found_all}

-- with more descriptors or links more streams exist

-- a stream that exists within some climbs also exists with more descriptors and links
stands_grow : (fds fds2 : List Descriptor) (links links2 : List Link)
    → ((t : Descriptor → Bool) → list_any t fds ≡ true → list_any t fds2 ≡ true)
    → ((t : Link → Bool) → list_any t links ≡ true → list_any t links2 ≡ true)
    → (n : ℕ) (s : StreamId) → stands_within fds links n s ≡ true → stands_within fds2 links2 n s ≡ true
stands_grow fds fds2 links links2 f g zero s h = grind arith
stands_grow fds fds2 links links2 f g (suc n) s
    h = grind (arith, stands_grow fds fds2 links links2 f g n s, any_more, stands_grow fds fds2 links links2 f g n)

-- a configuration is swept if all streams that exist in a swept one exist in it, its links pass the sweep, and all
-- else that is swept is the same
grown : (drivers : List DriverSpec) (c d : Configuration) → IsSwept drivers c
    → ((s : StreamId) → exists drivers c s ≡ true → exists drivers d s ≡ true)
    → list_all (λ l. is_persistent l || exists drivers d l.ctl) d.links ≡ true → d.binds ≡ c.binds → d.flow ≡ c.flow
    → d.fulls ≡ c.fulls → d.hungs ≡ c.hungs → IsSwept drivers d
grown drivers c d h more links b f u g = grind (arith, all_more)

-- if one of two tests passes, so does one of them with the second replaced by a test that passes whenever it does
link_more : (a b d : Bool) → (b ≡ true → d ≡ true) → (a || b) ≡ true → (a || d) ≡ true
link_more true b d f h = refl
link_more false b d f h = f h

-- a swept configuration with one more descriptor is swept
swept_fd : (drivers : List DriverSpec) (c : Configuration) (process fd : ℕ) (s : StreamId) → IsSwept drivers c
    → IsSwept drivers (with_fd c process fd s)
swept_fd drivers c process fd s h = grown drivers c (with_fd c process fd s) h more
    (all_more _ _ c.links
    (λ l. link_more (is_persistent l) (exists drivers c l.ctl) (exists drivers (with_fd c process fd s) l.ctl)
    (more l.ctl)) h.links) refl refl refl refl where
      more : (t : StreamId) → exists drivers c t ≡ true → exists drivers (with_fd c process fd s) t ≡ true
      more = stands_grow c.fds _ c.links c.links (λ t e. any_placed t fd_before c.fds _ e) (λ t e. e) (length drivers)

-- a swept configuration with one more link, whose controlling stream exists, is swept
swept_link : (drivers : List DriverSpec) (c : Configuration) (l : Link) (next : ℕ) → IsSwept drivers c
    → exists drivers c l.ctl ≡ true → IsSwept drivers (record c { links = c.links ++ l ∷ []; next_id = next })
swept_link drivers c l next h e = grown drivers c (record c { links = c.links ++ l ∷ []; next_id = next }) h more
    (all_push _ c.links l (or_right _ _ (more l.ctl e))
    (all_more _ _ c.links (λ k. link_more (is_persistent k) (exists drivers c k.ctl) _ (more k.ctl)) h.links)) refl refl
    refl refl where
      more : (t : StreamId) → exists drivers c t ≡ true
          → stands_within c.fds (c.links ++ l ∷ []) (length drivers) t ≡ true
      more = stands_grow c.fds c.fds c.links (c.links ++ l ∷ []) (λ t e. e) (λ t e. any_push t c.links l e)
          (length drivers)

-- a stream is the same as itself
pub stream_self : (t : StreamId) → same_stream t t ≡ true
stream_self t = and_from _ _ (eq-eqb t.driver t.driver refl) (eq-eqb t.minor t.minor refl)

-- the stream of a process' descriptor exists
stream_exists : (drivers : List DriverSpec) (c : Configuration) (process fd : ℕ) (s : StreamId)
    → stream_of c process fd ≡ Ok s → exists drivers c s ≡ true
stream_exists drivers c process fd s e =
    let d = descriptor_of c process fd s e in
    stands_more c.fds c.links 0 (length drivers) s (omega arith)
    (or_left _ _ (found_any (is_fd process fd) (λ x. same_stream x.stream s) c.fds d.0 d.1 (rw d.2 (stream_self s))))

-- the stream of a descriptor that is not linked below exists
pub free_exists : (drivers : List DriverSpec) (c : Configuration) (process fd : ℕ) (s : StreamId)
    → free_stream c process fd ≡ Ok s → exists drivers c s ≡ true
free_exists drivers c process fd s e = grind (arith, stream_exists, tested)

-- the stream of a leaf driver and its minor that a lookup finds exists
pub leaf_exists : (drivers : List DriverSpec) (c : Configuration) (name : List ℕ) (minor : ℕ) (s : StreamId)
    → leaf_stream drivers c name minor ≡ Ok s → exists drivers c s ≡ true
leaf_exists drivers c name minor s e = grind (arith, looked_up, passed)

-- the stream of a descriptor that is not linked below, and whose device has not hung up, exists
live_exists : (drivers : List DriverSpec) (c : Configuration) (process fd : ℕ) (s : StreamId)
    → live_stream c process fd ≡ Ok s → exists drivers c s ≡ true
live_exists drivers c process fd s e = free_exists drivers c process fd s (live_is c process fd s e).0

-- the stream of a leaf driver and its minor that a lookup finds, and whose device has not hung up, exists
live_leaf_exists : (drivers : List DriverSpec) (c : Configuration) (name : List ℕ) (minor : ℕ) (s : StreamId)
    → live_leaf drivers c name minor ≡ Ok s → exists drivers c s ≡ true
live_leaf_exists drivers c name minor s e = leaf_exists drivers c name minor s (live_leaf_is drivers c name minor s e).0

-- if all full places pass a test, they still do after a place that passes it is marked as full or not
all_marked : (t : Place → Bool) (p : Place) (b : Bool) (ps : List Place) → t p ≡ true → list_all t ps ≡ true
    → list_all t (with_mark p b ps) ≡ true
all_marked t p true ps h e = all_placed t place_before _ p h (all_filter t _ ps e)
all_marked t p false ps h e = all_filter t _ ps e

-- the result of a command that is done is swept
swept_done : (drivers : List DriverSpec) (c d : Configuration)
    → IfAccepted (λ d r. IsSwept drivers d) (done_outcome drivers c d)
swept_done drivers c d = record { holds = swept_is drivers d }

-- an accepted command keeps a swept configuration swept
pub swept_accepted : (drivers : List DriverSpec) (c : Configuration) (process : ℕ) (k : Command) → IsSwept drivers c
    → IfAccepted (λ d r. IsSwept drivers d) (outcome drivers c process k)
swept_accepted drivers c process k h = of_rows _ drivers c process k (search (
  swept_fd,
  swept_link,
  swept_done,
  all_placed,
  all_without,
  all_marked,
  stream_exists,
  free_exists,
  live_exists,
  live_leaf_exists,
  rules,
) depth 24)

-- a move goes to a stream that exists

-- if the drivers of all controlling streams exist, each link leads from an existing driver to its lower one
pub links_in : (drivers : List DriverSpec) (links : List Link)
    → AllByRecursion (λ l. l.ctl.driver < length drivers) links
    → AllByRecursion (IsLinkIn drivers links) links
links_in drivers [] h = tt
links_in drivers (l ∷ ls) h = grind (arith, reaches_at, each_map, IsLinkIn, links_in drivers ls h.1)

-- a swept configuration without a cycle, whose drivers have the streams of its descriptors and links
pub record IsWhole (drivers : List DriverSpec) (c : Configuration) : Type 0 where
  pub no_cycle : HasNoCycle c.links
  pub named : AreNamed drivers c
  pub swept_ : IsSwept drivers c

-- links without a cycle, whose upper drivers are in range, and which are persistent or have controlling
-- streams that exist
pub record AreKeepingLowers (drivers : List DriverSpec) (c : Configuration) : Type 0 where
  pub no_cycle : HasNoCycle c.links
  pub below : AllByRecursion (λ l. l.ctl.driver < length drivers) c.links
  pub alive : list_all (λ l. is_persistent l || exists drivers c l.ctl) c.links ≡ true

-- the lower stream of a link that a search finds exists
pub lower_exists : (drivers : List DriverSpec) (c : Configuration) (test : Link → Bool) (l : Link)
    → AreKeepingLowers drivers c → find test c.links ≡ Some l → exists drivers c l.lower ≡ true
lower_exists drivers c test l h e =
    grind (
      arith,
      nat_tests,
      stands_more c.fds c.links 0 (length drivers) l.lower (omega arith),
      found_any test,
      stream_self l.lower,
      found_all test,
      climbs_suffice drivers c.fds c.links (suc (length drivers)) l.lower h.no_cycle (links_in drivers c.links h.below),
      links_in drivers c.links h.below,
    )

-- in a swept configuration without a cycle, whose descriptors and links have known streams, the stream of the
-- next place exists
next_exists : (drivers : List DriverSpec) (c : Configuration) (s : StreamId) (addr : ℕ) (which_side : Side) (q : Place)
    → IsWhole drivers c → next_place drivers c (record { stream = s; side = which_side }) addr ≡ Some q
    → exists drivers c q.stream ≡ true
next_exists drivers c s addr side.Write q h e = grind (arith, below_link, lower_exists, each_map)
next_exists drivers c s addr side.Read q h e = grind (arith, above_binding c.links c.binds s addr q e, found_all)

-- if the places of all messages pass a test, so does a place with a first message
front_exists : (t : Place → Bool) (hs : List QueuedMessage) (p : Place) (m : Message) → first_message hs p ≡ Some m
    → list_all (λ h. t h.place) hs ≡ true → t p ≡ true
front_exists t [] p m e h = cc
front_exists t (k ∷ hs) p m e h = grind (arith, same_place_is k.place p, front_exists t hs p m)

-- a move keeps a swept configuration without a cycle swept
pub swept_moved : (drivers : List DriverSpec) (c : Configuration) (p : Place) → IsWhole drivers c
    → IsSwept drivers (after_move drivers c p)
swept_moved drivers c p h = by (next_open_place drivers c p) (first_message c.flow p) refl refl where
  by : (o : Option Place) (m : Option Message) → next_open_place drivers c p ≡ o → first_message c.flow p ≡ m
      → IsSwept drivers (after_move_to drivers c p o m)
  by (Some q) (Some m) e f =
      let here = front_exists (λ x. exists drivers c x.stream) c.flow p m f h.swept_.flow in
      let w = open_next drivers c p q e in
      let there = next_exists drivers c p.stream w.0.addr p.side q h w.2 in record {
        links = h.swept_.links;
        binds = h.swept_.binds;
        flow = all_placed _ queued_before (without_first (is_at p) c.flow) (record { place = q; message = m }) there
            (all_without _ (is_at p) c.flow h.swept_.flow);
        fulls = all_marked _ q _ _ there (all_marked _ p _ c.fulls here h.swept_.fulls);
        hungs = h.swept_.hungs;
      }
  by (Some q) None e f = h.swept_
  by None m e f = h.swept_

-- a stream that exists within some number of climbs exists within as many as there are drivers
pub stands_exists : (drivers : List DriverSpec) (c : Configuration) (s : StreamId) → HasNoCycle c.links
    → AllByRecursion (λ l. l.ctl.driver < length drivers) c.links → Stands c s → exists drivers c s ≡ true
stands_exists drivers c s none below h = grind (arith, climbs_suffice, links_in)

-- the outcome of an accepted command needs no further sweep
pub swept_once : (drivers : List DriverSpec) (c : Configuration) (process : ℕ) (k : Command) → IsSwept drivers c
    → IfOk (outcome drivers c process k) (λ x. after_sweep drivers x.0 ≡ x.0)
swept_once drivers c process k h = grind (arith, if_ok, swept_idle, swept_accepted)
