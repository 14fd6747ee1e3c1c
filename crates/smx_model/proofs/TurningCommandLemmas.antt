-- The places that commands turn.
use Rattle.smx_model.proofs.Common.{◌≡◌, ℕ, ◌+◌, Bool, true, false, ◌&&◌, ◌||◌, not, eqb, List, [], ◌∷◌, ◌++◌, filter}
use Rattle.smx_model.proofs.Common.{Result, Ok, Err, refl, rules, ◌∙◌, inl, arith, nat_lt, IfOk, list_any, or_right}
use Rattle.smx_model.proofs.Common.{nat_tests, AllByRecursion, recursion_from_All, Command, DriverSpec, Binding}
use Rattle.smx_model.proofs.Common.{LinkKind, Route, Message, Fault, Descriptor, Place, StreamId, outcome, done_outcome}
use Rattle.smx_model.proofs.Common.{link_outcome, send_outcome, receive_outcome, with_fd, Configuration, same_place}
use Rattle.smx_model.proofs.Common.{pair_before, route_before, same_stream, read_side, IsSound, stream_of, mux_stream}
use Rattle.smx_model.proofs.Common.{live_leaf, with_inserted, Outcome, after_arrival, asks_down, asks_up, nowhere}
use Rattle.smx_model.proofs.Common.{is_first_at, TurnsOnly, is_hung, with_hung, AllLater}
use Rattle.std.proofs.lemmas.Bool.{not-true}
use Rattle.smx_types.specs.declared.command.Command.TheVariants as command
use Rattle.smx_types.specs.declared.link.LinkKind.TheVariants as kind
use Rattle.smx_model.specs.Outcomes.{◌>>=◌}
use Rattle.smx_model.proofs.EachLemmas.{each_placed, later_filter, later_pairs, later_map}
use Rattle.smx_model.proofs.EachLemmas.{none_passes, kept_passes, each_map}
use Rattle.smx_model.proofs.AcceptedLemmas.{unlinked}
use Rattle.smx_model.proofs.HungListLemmas.{hung_with}
use Rattle.smx_model.proofs.OutcomeLemmas.{IfAccepted, at_ok, after_ok, after_test, after_some, after_choice, if_ok}
use Rattle.smx_model.specs.TurnedPlaces.{of_stream, turned_by}
use Rattle.smx_model.proofs.FindLemmas.{not_same_pair_turned, same_finds}
use Rattle.smx_model.proofs.FewerLemmas.{AreRooted, IsKeyed, binds_find, fewer_turns, keyed_removed, rooted_filter}
use Rattle.smx_model.proofs.FewerLemmas.{routes_find, turns_emptied, turns_removed, turns_swept}
use Rattle.smx_model.proofs.TurningLemmas.{bound, routed, turns_arrived, turns_bound, turns_left, turns_linked}
use Rattle.smx_model.proofs.TurningLemmas.{turns_routed, turns_then, turns_unchanged}
use Rattle.smx_model.proofs.RisingLemmas.{bind_other}

-- ---- each key occurs once

-- a number less than another differs from it
less_differs : (a b : ℕ) → nat_lt a b ≡ true → eqb a b ≡ false
less_differs a b h = grind (arith, nat_tests)

-- a pair of numbers that comes before another differs from it
pair_differs : (a b c d : ℕ) → pair_before a b c d ≡ true → (eqb a c && eqb b d) ≡ false
pair_differs a b c d h = grind (arith, nat_tests)

-- in a sound configuration each key of a route, a link or a binding occurs once
pub keyed : (drivers : List DriverSpec) (c : Configuration) → IsSound drivers c → IsKeyed c
keyed drivers c h = search (rules, later_map, pair_differs, less_differs, later_pairs)

-- the links of a sound configuration are sound, and their upper drivers exist
pub rooted : (drivers : List DriverSpec) (c : Configuration) → IsSound drivers c → AreRooted drivers c.links
rooted drivers c h = grind (arith, each_map, recursion_from_All)

-- if a relation is symmetric, and each element is related to all later ones and to one more, this also holds after
-- that one is inserted
related_placed : {X : Type 0} (R : X → X → Type 0) (before : X → X → Bool) → ((x y : X) → R x y → R y x)
    → (x : X) (xs : List X) → AllByRecursion (R x) xs → AllLater R xs → AllLater R (with_inserted before xs x)
related_placed R before s x [] e h = (tt, tt)
related_placed R before s x (y ∷ ys) e h = grind (arith, each_placed, related_placed R before s x ys e.1 h.1)

-- after a route in place of that of its driver and address, each key still occurs once
keyed_routed : (c : Configuration) (driver addr id : ℕ) → IsKeyed c → IsKeyed (routed c driver addr id)
keyed_routed c driver addr id h = record {
  routes = related_placed (λ r s. (eqb r.driver s.driver && eqb r.addr s.addr) ≡ false) route_before
      (λ r s. not_same_pair_turned s.driver s.addr r.driver r.addr) (record { driver = driver; addr = addr; id = id })
      (filter (λ r. not (eqb r.driver driver && eqb r.addr addr)) c.routes)
      (kept_passes (λ r. not (eqb r.driver driver && eqb r.addr addr)) _ c.routes
      (λ r t. not_same_pair_turned driver addr r.driver r.addr (not-true (eqb r.driver driver && eqb r.addr addr) t)))
      (later_filter _ _ c.routes h.routes);
  ids = h.ids;
  lowers = h.lowers;
  binds = h.binds;
}

-- after a binding of an address and a stream that were free, each key still occurs once
keyed_bound : (c : Configuration) (driver addr minor : ℕ)
    → list_any (λ b. eqb b.driver driver && (eqb b.addr addr || eqb b.minor minor)) c.binds ≡ false → IsKeyed c
    → IsKeyed (bound c driver addr minor)
keyed_bound c driver addr minor free h = grind (arith, related_placed, not_same_pair_turned, none_passes, bind_other)

-- ---- the rows of the command table

-- a change that turns only some places turns no others with its sweep
turns_done : (drivers : List DriverSpec) (c new : Configuration) (t : Place → Bool) → TurnsOnly drivers c new t
    → IsKeyed new → AreRooted drivers new.links
    → IfAccepted (λ d r. TurnsOnly drivers c d t) (done_outcome drivers c new)
turns_done drivers c new t h k r = grind (arith, at_ok, turns_then, turns_swept)

-- a message that arrives under the next serial turns only its own place, and only if it was empty
arrived_turns : (drivers : List DriverSpec) (c : Configuration) (p : Place) (m : Message) (n : ℕ) → IsSound drivers c
    → TurnsOnly drivers c (record (after_arrival drivers c p m) { next_serial = n }) (is_first_at c p)
arrived_turns drivers c p m n h = grind (arith, turns_arrived, turns_unchanged)

-- a message that is sent turns only the place to which it is sent, and only if it was empty
turns_sent : (drivers : List DriverSpec) (c : Configuration) (p : Place) (addr : ℕ) (bytes : List ℕ) → IsSound drivers c
    → IfAccepted (λ d r. TurnsOnly drivers c d (is_first_at c p)) (send_outcome drivers c p addr bytes)
turns_sent drivers c p addr bytes h = search (rules, after_test, at_ok, arrived_turns)

-- a message that is delivered turns only its own place
turns_received : (drivers : List DriverSpec) (c : Configuration) (p : Place)
    → IfAccepted (λ d r. TurnsOnly drivers c d (same_place p)) (receive_outcome drivers c p)
turns_received drivers c p = search (after_some, at_ok, turns_left, rules) depth 12

-- a change that turns no place turns none with its sweep
turns_still : (drivers : List DriverSpec) (c new : Configuration) → TurnsOnly drivers c new nowhere → IsKeyed new
    → AreRooted drivers new.links → IfAccepted (λ d r. TurnsOnly drivers c d nowhere) (done_outcome drivers c new)
turns_still drivers c new h k x = turns_done drivers c new nowhere h k x

-- one more descriptor turns no place
turns_with_fd : (drivers : List DriverSpec) (c : Configuration) (process fd : ℕ) (s : StreamId)
    → TurnsOnly drivers c (with_fd c process fd s) nowhere
turns_with_fd drivers c process fd s = turns_unchanged drivers c (with_fd c process fd s) refl refl refl refl refl

-- other descriptors turn no place
turns_closed : (drivers : List DriverSpec) (c : Configuration) (fds : List Descriptor)
    → TurnsOnly drivers c (record c { fds = fds }) nowhere
turns_closed drivers c fds = turns_unchanged drivers c (record c { fds = fds }) refl refl refl refl refl

-- fewer bindings turn no place
turns_unbound : (drivers : List DriverSpec) (c : Configuration) (keep : Binding → Bool) → IsKeyed c
    → TurnsOnly drivers c (record c { binds = filter keep c.binds }) nowhere
turns_unbound drivers c keep k = fewer_turns drivers c (record c { binds = filter keep c.binds })
    (search (binds_find, same_finds, rules)) (λ r. inl refl)

-- fewer routes turn no place
turns_unrouted : (drivers : List DriverSpec) (c : Configuration) (keep : Route → Bool) → IsKeyed c
    → TurnsOnly drivers c (record c { routes = filter keep c.routes }) nowhere
turns_unrouted drivers c keep k = fewer_turns drivers c (record c { routes = filter keep c.routes })
    (search (routes_find, same_finds, rules)) (λ r. inl refl)

-- making a route turns only write sides of its driver whose first message has its address
turns_route : (drivers : List DriverSpec) (c : Configuration) (driver addr id : ℕ) → IsKeyed c
    → AreRooted drivers c.links → IfAccepted (λ d r. TurnsOnly drivers c d (asks_down c driver addr))
    (done_outcome drivers c (routed c driver addr id))
turns_route drivers c driver addr id k x = turns_done drivers c (routed c driver addr id) (asks_down c driver addr)
    (turns_routed drivers c driver addr id) (keyed_routed c driver addr id k) x

-- making a binding turns only read sides below its driver whose first message has its address
turns_bind : (drivers : List DriverSpec) (c : Configuration) (driver addr minor : ℕ) → IsKeyed c
    → AreRooted drivers c.links → list_any (λ b. eqb b.driver driver && (eqb b.addr addr || eqb b.minor minor)) c.binds
    ≡ false
    → IfAccepted (λ d r. TurnsOnly drivers c d (asks_up c driver addr))
    (done_outcome drivers c (bound c driver addr minor))
turns_bind drivers c driver addr minor k x free = turns_done drivers c (bound c driver addr minor)
    (asks_up c driver addr) (turns_bound drivers c driver addr minor) (keyed_bound c driver addr minor free k) x

-- a stream that has hung up still has after one more stream hangs up
pub hung_more : (s t : StreamId) (hungs : List StreamId) → is_hung hungs t ≡ true → is_hung (with_hung s hungs) t ≡ true
hung_more s t hungs h = hung_with s t hungs ∙ or_right (same_stream s t) _ h

-- a stream that hangs up turns no place
pub more_hung_turn_none : (drivers : List DriverSpec) (c : Configuration) (s : StreamId)
    → TurnsOnly drivers c (record c { hungs = with_hung s c.hungs }) nowhere
more_hung_turn_none drivers c s = grind (arith, fewer_turns, hung_more, same_finds)

-- if nothing changes, no place is turned
turns_none : (drivers : List DriverSpec) (c : Configuration) (t : Place → Bool) → TurnsOnly drivers c c t
turns_none drivers c t r f = inl refl

-- one more link turns only the read side of its lower stream
turns_new_link : (drivers : List DriverSpec) (c : Configuration) (upper lower : StreamId) (k : LinkKind)
    → IsSound drivers c
    → TurnsOnly drivers c
    (record c {
      links = c.links ++ record { id = c.next_id; ctl = upper; lower = lower; kind = k } ∷ [];
      next_id = c.next_id + 1;
    }) (same_place (read_side lower))
turns_new_link drivers c upper lower k h = grind (arith, turns_linked)

-- a property of places by a stream, for any stream, holds of places by the stream that a look-up names
pub at_stream : (P : Configuration → (Place → Bool) → Type 0) (named : Result StreamId Fault)
    (t : StreamId → Place → Bool) (f : StreamId → Outcome) → ((s : StreamId) → IfAccepted (λ d r. P d (t s)) (f s))
    → IfAccepted (λ d r. P d (of_stream named t)) (named >>= f)
at_stream P (Ok s) t f h = h s
at_stream P (Err e) t f h = record { holds = tt }

-- making a link turns only the read side of its lower stream
turns_link : (drivers : List DriverSpec) (c : Configuration) (process fd arg : ℕ) (k : LinkKind) → IsSound drivers c
    → IfAccepted (λ d r. TurnsOnly drivers c d (of_stream (stream_of c process arg) (λ s. same_place (read_side s))))
    (link_outcome drivers c process fd arg k)
turns_link drivers c process fd arg k h = grind (arith, after_ok, at_stream, after_test, at_ok, turns_new_link)

-- an accepted command, from a sound configuration, turns only places of `turned_by`
pub turns : (drivers : List DriverSpec) (c : Configuration) (process : ℕ) (k : Command) → IsSound drivers c
    → IfAccepted (λ d r. TurnsOnly drivers c d (turned_by drivers c process k)) (outcome drivers c process k)
turns drivers c process (command.OpenClone name) h = search (after_ok, at_ok, turns_with_fd, rules) depth 20
turns drivers c process (command.OpenMinor name minor) h = grind (arith, after_test, after_ok, at_ok, turns_with_fd)
turns drivers c process (command.Dup fd) h = search (after_ok, at_ok, turns_with_fd, rules) depth 20
turns drivers c process (command.Close fd) h =
    let k = keyed drivers c h in let x = rooted drivers c h in
    search (after_ok, turns_still, turns_closed, rules) depth 20
turns drivers c process command.CloseAll h =
    let k = keyed drivers c h in let x = rooted drivers c h in search (turns_still, turns_closed, rules) depth 20
turns drivers c process (command.Link fd arg) h = turns_link drivers c process fd arg kind.Ordinary h
turns drivers c process (command.Plink fd arg) h = turns_link drivers c process fd arg kind.Persistent h
turns drivers c process (command.Unlink fd w) h = let k = keyed drivers c h in let x = rooted drivers c h in
    search (after_ok, unlinked, turns_still, turns_removed, keyed_removed, rooted_filter, rules) depth 20
turns drivers c process (command.Punlink fd w) h = let k = keyed drivers c h in let x = rooted drivers c h in
    search (after_ok, unlinked, turns_still, turns_removed, keyed_removed, rooted_filter, rules) depth 20
turns drivers c process (command.Bind fd addr) h =
    search (
      rules,
      keyed drivers c h,
      rooted drivers c h,
      at_stream (TurnsOnly drivers c) (mux_stream drivers c process fd),
      after_test,
      turns_bind,
    )
turns drivers c process (command.Unbind fd) h = let k = keyed drivers c h in let x = rooted drivers c h in
    search (after_test, after_ok, turns_still, turns_unbound, later_filter, rules) depth 20
turns drivers c process (command.Route fd addr id) h =
    search (
      rules,
      keyed drivers c h,
      rooted drivers c h,
      at_stream (TurnsOnly drivers c) (mux_stream drivers c process fd),
      after_test,
      turns_route,
    )
turns drivers c process (command.Unroute fd addr) h = let k = keyed drivers c h in let x = rooted drivers c h in
    search (after_test, after_ok, turns_still, turns_unrouted, later_filter, rules) depth 20
turns drivers c process (command.Write fd addr bytes) h = grind (arith, at_stream, turns_sent)
turns drivers c process (command.Read fd) h = grind (arith, at_stream, after_choice, at_ok, turns_none, turns_received)
turns drivers c process (command.Flush fd w) h = let k = keyed drivers c h in let x = rooted drivers c h in
    search (after_ok, turns_still, turns_emptied, rules) depth 20
turns drivers c process (command.Inject name minor addr bytes) h =
    search (rules, at_stream (TurnsOnly drivers c) (live_leaf drivers c name minor), turns_sent)
turns drivers c process (command.Transmit name minor) h = grind (arith, at_stream, turns_received)
turns drivers c process (command.Hangup name minor) h = let k = keyed drivers c h in let x = rooted drivers c h in
    search (after_ok, turns_still, more_hung_turn_none, rules) depth 20

-- an accepted outcome turns only places of `turned_by`
pub outcomes_turn : (drivers : List DriverSpec) (c : Configuration) (process : ℕ) (k : Command) → IsSound drivers c
    → IfOk (outcome drivers c process k) (λ x. TurnsOnly drivers c x.0 (turned_by drivers c process k))
outcomes_turn drivers c process k h = grind (arith, if_ok, turns drivers c process k h)
