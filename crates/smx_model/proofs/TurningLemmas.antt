-- The places that changes turn.
use Rattle.smx_model.proofs.Common.{◌≡◌, ℕ, Bool, true, false, ◌&&◌, not, eqb, List, [], ◌∷◌, ◌++◌, filter, find}
use Rattle.smx_model.proofs.Common.{Option, Some, None, refl, sym, ap, inl, list_any, both_ways, and_parts, and_from}
use Rattle.smx_model.proofs.Common.{or_parts, false_from_ne_true, eqb-true, eq-eqb, DriverSpec, Binding, Link, Route}
use Rattle.smx_model.proofs.Common.{Message, Place, Side, StreamId, Configuration, is_at, same_place, same_side}
use Rattle.smx_model.proofs.Common.{same_stream, bind_before, route_before, IsInOrder, with_inserted, first_message}
use Rattle.smx_model.proofs.Common.{after_arrival, after_leaving, after_move, next_open_place, next_place}
use Rattle.smx_model.proofs.Common.{live_write_side, AreRoutesSound, next_of, asks_down, asks_up, is_first_at, nowhere}
use Rattle.smx_model.proofs.Common.{Stays, TurnsOnly, or_from, AllByRecursion, recursion_from_All, arith}
use Rattle.smx_types.specs.declared.stream.Side.TheVariants as side
use Rattle.smx_model.specs.Settling.{◌>>=◌}
use Rattle.smx_model.proofs.EachLemmas.{each_find, later_without_first}
use Rattle.smx_model.proofs.TestLemmas.{found_any, find_passes, any_more}
use Rattle.smx_model.proofs.SettlingLemmas.{open_next}
use Rattle.smx_model.specs.RunMarks.{has_addr, either}
use Rattle.smx_model.proofs.WaitingLemmas.{next_by, next_is, next_of_same, first_left, first_arrived}
use Rattle.smx_model.proofs.FindLemmas.{finds_then, find_placed, find_filter, find_push_found, find_push_other}
use Rattle.smx_model.proofs.FindLemmas.{not_same_pair_turned}

-- ---- the parts of a next place

-- the write side of the lower stream of a link, unless that has hung up
abbrev pub lower_side : List StreamId → Option Link → Option Place
lower_side hungs o = o >>= (λ l. live_write_side hungs l.lower)

-- the place below by a route
abbrev pub down_by : List Link → List StreamId → Option Route → Option Place
down_by links hungs o = o >>= (λ r. lower_side hungs (find (λ l. eqb l.id r.id) links))

-- the read side of the stream of a binding
abbrev pub bound_side : Option Binding → Option Place
bound_side o = o >>= (λ b. Some (record { stream = record { driver = b.driver; minor = b.minor }; side = side.Read }))

-- the place above by a link
abbrev pub up_by : List Binding → ℕ → Option Link → Option Place
up_by binds addr o = o >>= (λ l. bound_side (find (λ b. eqb b.driver l.ctl.driver && eqb b.addr addr) binds))

-- if the next place by its side stays the same or is `None`, so does the next place
pub stays_by : (drivers : List DriverSpec) (c d : Configuration) (p : Place) (addr : ℕ)
    → Stays (next_by drivers c p.stream addr p.side) (next_by drivers d p.stream addr p.side)
    → Stays (next_place drivers c p addr) (next_place drivers d p addr)
stays_by drivers c d p addr h = grind (arith, next_is, next_by)

-- ---- equal streams

-- the stream of a driver's minor
abbrev stream_of_parts : ℕ → ℕ → StreamId
stream_of_parts driver minor = record { driver = driver; minor = minor }

-- streams that pass the test for equality are equal
pub same_stream_is : (s t : StreamId) → same_stream s t ≡ true → s ≡ t
same_stream_is s t e = grind arith

-- ---- one change after another

-- two changes, one after the other, turn only places that one of them turns
turns_both : (drivers : List DriverSpec) (c d e : Configuration) (s t : Place → Bool) → TurnsOnly drivers c d s
    → TurnsOnly drivers d e t → TurnsOnly drivers c e (either s t)
turns_both drivers c d e s t h k r n = let o = or_parts (s r) (t r) n in finds_then _ _ _ (h r o.0) (k r o.1)

-- a change that turns some places, followed by one that turns none, turns no others
pub turns_then : (drivers : List DriverSpec) (c d e : Configuration) (t : Place → Bool) → TurnsOnly drivers c d t
    → TurnsOnly drivers d e nowhere → TurnsOnly drivers c e t
turns_then drivers c d e t h k r n = turns_both drivers c d e t nowhere h k r (or_from _ _ n refl)

-- ---- changes that turn no place

-- if links, routes, bindings, hung-up streams and the flow are unchanged, no place is turned
pub turns_unchanged : (drivers : List DriverSpec) (c d : Configuration) → d.links ≡ c.links → d.routes ≡ c.routes
    → d.binds ≡ c.binds → d.hungs ≡ c.hungs → d.flow ≡ c.flow → TurnsOnly drivers c d nowhere
turns_unchanged drivers c d l r b u f p n = grind (arith, next_of_same drivers c d p l r b u)

-- ---- a message arrives, the first one leaves

-- a first message that leaves turns only its own place
pub turns_left : (drivers : List DriverSpec) (c : Configuration) (p : Place)
    → TurnsOnly drivers c (after_leaving drivers c p) (same_place p)
turns_left drivers c p r f = grind (arith, next_of_same, first_left)

-- a message that arrives turns only its own place, and only if it was empty
pub turns_arrived : (drivers : List DriverSpec) (c : Configuration) (q : Place) (m : Message) → IsInOrder c.flow
    → TurnsOnly drivers c (after_arrival drivers c q m) (is_first_at c q)
turns_arrived drivers c q m o r f = grind (arith, next_of_same, first_arrived)

-- ---- a route

-- with a route of the driver for the address, which names this link, in place of the old one
abbrev pub routed : Configuration → ℕ → ℕ → ℕ → Configuration
routed c driver addr id =
    record c {
      routes = with_inserted route_before (filter (λ r. not (eqb r.driver driver && eqb r.addr addr)) c.routes)
          (record { driver = driver; addr = addr; id = id });
    }

-- a route of another driver or for another address is found as before
find_routed : (c : Configuration) (driver addr id d a : ℕ) → (eqb d driver && eqb a addr) ≡ false
    → find (λ r. eqb r.driver d && eqb r.addr a) (routed c driver addr id).routes
    ≡ find (λ r. eqb r.driver d && eqb r.addr a) c.routes
find_routed c driver addr id d a h = grind (arith, find_placed, not_same_pair_turned driver addr d a h, find_filter)

-- a route turns only the driver's write sides whose first message has its address
pub turns_routed : (drivers : List DriverSpec) (c : Configuration) (driver addr id : ℕ)
    → TurnsOnly drivers c (routed c driver addr id) (asks_down c driver addr)
turns_routed drivers c driver addr id r f = by (first_message c.flow r) f where
  at : (a : ℕ) (x : Side) → ((same_side x side.Write && eqb r.stream.driver driver) && eqb a addr) ≡ false
      → Stays (next_by drivers c r.stream a x) (next_by drivers (routed c driver addr id) r.stream a x)
  at a side.Write f = inl (rw (find_routed c driver addr id r.stream.driver a f) refl)
  at a side.Read f = inl refl

  by : (o : Option Message) → ((same_side r.side side.Write && eqb r.stream.driver driver) && has_addr addr o) ≡ false
      → Stays (next_of drivers c r o) (next_of drivers (routed c driver addr id) r o)
  by None f = inl refl
  by (Some m) f = stays_by drivers c (routed c driver addr id) r m.addr (at m.addr r.side f)

-- ---- a binding

-- with a binding of the driver's minor to the address
abbrev pub bound : Configuration → ℕ → ℕ → ℕ → Configuration
bound c driver addr minor =
    record c { binds = with_inserted bind_before c.binds (record { driver = driver; addr = addr; minor = minor }) }

-- a binding turns only the read sides below its driver whose first message has its address
pub turns_bound : (drivers : List DriverSpec) (c : Configuration) (driver addr minor : ℕ)
    → TurnsOnly drivers c (bound c driver addr minor) (asks_up c driver addr)
turns_bound drivers c driver addr minor r f = by (first_message c.flow r) f where
  over : (a : ℕ) (o : Option Link) → find (λ l. same_stream l.lower r.stream) c.links ≡ o
      → (list_any (λ l. same_stream l.lower r.stream && eqb l.ctl.driver driver) c.links && eqb a addr) ≡ false
      → up_by (bound c driver addr minor).binds a o ≡ up_by c.binds a o
  over a None e f = refl
  over a (Some l) e f = ap bound_side
      (find_placed (λ b. eqb b.driver l.ctl.driver && eqb b.addr a) bind_before c.binds
      (record { driver = driver; addr = addr; minor = minor }) (false_from_ne_true _ (λ t.
      let p = and_parts (eqb driver l.ctl.driver) (eqb addr a) t in
      both_ways (list_any (λ l. same_stream l.lower r.stream && eqb l.ctl.driver driver) c.links && eqb a addr) f
      (and_from _ _
      (found_any (λ l. same_stream l.lower r.stream) (λ l. same_stream l.lower r.stream && eqb l.ctl.driver driver)
      c.links l e (and_from _ _ (find_passes (λ l. same_stream l.lower r.stream) c.links l e)
      (eq-eqb l.ctl.driver driver (sym (eqb-true driver l.ctl.driver p.0)))))
      (eq-eqb a addr (sym (eqb-true addr a p.1)))))))

  at : (a : ℕ) (x : Side)
      → ((same_side x side.Read && list_any (λ l. same_stream l.lower r.stream && eqb l.ctl.driver driver) c.links)
      && eqb a addr) ≡ false → Stays (next_by drivers c r.stream a x)
      (next_by drivers (bound c driver addr minor) r.stream a x)
  at a side.Write f = inl refl
  at a side.Read f = inl (over a (find (λ l. same_stream l.lower r.stream) c.links) refl f)

  by : (o : Option Message)
      → ((same_side r.side side.Read && list_any (λ l. same_stream l.lower r.stream && eqb l.ctl.driver driver) c.links)
      && has_addr addr o) ≡ false → Stays (next_of drivers c r o) (next_of drivers (bound c driver addr minor) r o)
  by None f = inl refl
  by (Some m) f = stays_by drivers c (bound c driver addr minor) r m.addr (at m.addr r.side f)

-- ---- a link

-- a link turns only the read side of its lower stream
pub turns_linked : (drivers : List DriverSpec) (c : Configuration) (l : Link) (next : ℕ) → AreRoutesSound drivers c
    → TurnsOnly drivers c (record c { links = c.links ++ l ∷ []; next_id = next })
    (same_place (record { stream = l.lower; side = side.Read }))
turns_linked drivers c l next sound r f = by (first_message c.flow r) where
  lead : AllByRecursion (λ r. list_any (λ l. eqb l.id r.id && eqb l.ctl.driver r.driver) c.links ≡ true) c.routes
  lead = recursion_from_All _ c.routes sound.lead

  down : (a : ℕ) (o : Option Route) → find (λ x. eqb x.driver r.stream.driver && eqb x.addr a) c.routes ≡ o
      → down_by (c.links ++ l ∷ []) c.hungs o ≡ down_by c.links c.hungs o
  down a None e = refl
  down a (Some x) e = ap (lower_side c.hungs)
      (find_push_found (λ k. eqb k.id x.id) c.links l
      (any_more (λ k. eqb k.id x.id && eqb k.ctl.driver x.driver) (λ k. eqb k.id x.id) c.links
      (λ k t. (and_parts (eqb k.id x.id) (eqb k.ctl.driver x.driver) t).0) (each_find _ _ c.routes x e lead)))

  at : (a : ℕ) (x : Side) → (same_stream l.lower r.stream && same_side side.Read x) ≡ false
      → Stays (next_by drivers c r.stream a x)
      (next_by drivers (record c { links = c.links ++ l ∷ []; next_id = next }) r.stream a x)
  at a side.Write f = inl (rw (down a (find (λ x. eqb x.driver r.stream.driver && eqb x.addr a) c.routes) refl) refl)
  at a side.Read f = inl
      (rw (find_push_other (λ k. same_stream k.lower r.stream) c.links l (one_of (same_stream l.lower r.stream) f))
      refl) where
        one_of : (b : Bool) → (b && true) ≡ false → b ≡ false
        one_of true h = h
        one_of false h = refl

  by : (o : Option Message)
      → Stays (next_of drivers c r o) (next_of drivers (record c { links = c.links ++ l ∷ []; next_id = next }) r o)
  by None = inl refl
  by (Some m) =
      stays_by drivers c (record c { links = c.links ++ l ∷ []; next_id = next }) r m.addr (at m.addr r.side f)

-- ---- a move

-- a move turns only the place that the message leaves, and the place that it goes to, if that was empty
pub turns_moved : (drivers : List DriverSpec) (c : Configuration) (p q : Place) → IsInOrder c.flow
    → next_open_place drivers c p ≡ Some q
    → TurnsOnly drivers c (after_move drivers c p) (either (same_place p) (is_first_at (after_leaving drivers c p) q))
turns_moved drivers c p q o w =
    let n = open_next drivers c p q w in
    rw (w, n.1)
    (turns_both drivers c (after_leaving drivers c p) (after_arrival drivers (after_leaving drivers c p) q n.0)
    (same_place p) (is_first_at (after_leaving drivers c p) q) (turns_left drivers c p)
    (turns_arrived drivers (after_leaving drivers c p) q n.0 (later_without_first _ (is_at p) c.flow o)))
