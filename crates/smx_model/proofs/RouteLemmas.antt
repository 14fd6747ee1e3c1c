-- Ids of links rise, and routes name links of their own upper driver.
use Rattle.smx_model.proofs.Common.{◌≡◌, ℕ, ◌+◌, ◌<◌, ◌≤◌, Bool, true, false, ◌&&◌, not, eqb, List, [], ◌∷◌, ◌++◌}
use Rattle.smx_model.proofs.Common.{filter, Ok, rules, subst, arith, inl, inr, list_any, cases_Bool, eqb-true}
use Rattle.smx_model.proofs.Common.{and_parts, not-false, or_cases, false≢true, AllByRecursion, All-from_recursion}
use Rattle.smx_model.proofs.Common.{Command, DriverSpec, Link, LinkKind, Route, NotMux, Place, StreamId, outcome}
use Rattle.smx_model.proofs.Common.{done_outcome, Configuration, empty, route_before, is_mux, free_stream, mux_stream}
use Rattle.smx_model.proofs.Common.{with_inserted, without_links, after_move, AreIdsRising, AreRoutesSound, AllLater}
use Rattle.smx_model.proofs.SettledLemmas.{moved_by}
use Rattle.smx_model.proofs.AcceptedLemmas.{of_rows}
use Rattle.smx_model.proofs.LookupLemmas.{tested}
use Rattle.smx_model.proofs.OutcomeLemmas.{IfAccepted}
use Rattle.smx_model.proofs.EachLemmas.{each_filter, each_placed, each_push, each_map, later_filter, later_map}
use Rattle.smx_model.proofs.EachLemmas.{later_push}

-- each id is below those of the later links
abbrev pub Rising : List Link → Type 0
Rising links = AllLater (λ l k. l.id < k.id) links

-- the id is that of a link with this upper driver
abbrev pub leads_from : List Link → ℕ → ℕ → Bool
leads_from links id driver = list_any (λ l. eqb l.id id && eqb l.ctl.driver driver) links

-- ids rise from 1 to below the next one; each route has a multiplexer, and names a link of its own driver
pub record AreRouted (drivers : List DriverSpec) (c : Configuration) : Type 0 where
  pub rise : Rising c.links
  pub ids : AllByRecursion (λ l. (1 ≤ l.id) × (l.id < c.next_id)) c.links
  pub start : 1 ≤ c.next_id
  pub routes : AllByRecursion
      (λ r. (is_mux drivers r.driver ≡ true) × (leads_from c.links r.id r.driver ≡ true)) c.routes

-- an id names one link

-- a number below the id of each link is below the id of one of them
below_found : (links : List Link) (i id driver : ℕ) → AllByRecursion (λ k. i < k.id) links
    → leads_from links id driver ≡ true
    → i < id
below_found [] i id driver h e = absurd (false≢true e)
below_found (l ∷ ls) i id driver h e = grind (arith, below_found ls i id driver h.1)

-- if an id is below that of each link, no link with that id has another upper driver
none_above : (links : List Link) (id driver : ℕ) → AllByRecursion (λ k. id < k.id) links
    → AllByRecursion (λ l. l.id ≡ id → l.ctl.driver ≡ driver) links
none_above [] id driver h = tt
none_above (l ∷ ls) id driver h = (λ e. absurd (omega (arith, e, h.0)), none_above ls id driver h.1)

-- if ids rise, all links with an id have the upper driver of one of them
pub one_driver : (links : List Link) (id driver : ℕ) → Rising links → leads_from links id driver ≡ true
    → AllByRecursion (λ l. l.id ≡ id → l.ctl.driver ≡ driver) links
one_driver [] id driver h e = tt
one_driver (l ∷ ls) id driver h e =
    elim (or_cases (eqb l.id id && eqb l.ctl.driver driver) (leads_from ls id driver) e) [
      | inl k ↦ let p = and_parts (eqb l.id id) (eqb l.ctl.driver driver) k in (
        λ same. eqb-true l.ctl.driver driver p.1,
        none_above ls id driver (subst (λ (x : ℕ). AllByRecursion (λ k. x < k.id) ls) (eqb-true l.id id p.0) h.0),
      )
      | inr k ↦ (
        λ same. absurd (omega (arith, same, below_found ls l.id id driver h.0 k)),
        one_driver ls id driver h.1 k,
      )
    ]

-- only links of a route's own driver have its id
pub routes_lead : (drivers : List DriverSpec) (c : Configuration) → AreRouted drivers c
    → AllByRecursion (λ r. AllByRecursion (λ l. l.id ≡ r.id → l.ctl.driver ≡ r.driver) c.links) c.routes
routes_lead drivers c h = each_map _ _ c.routes (λ r p. one_driver c.links r.id r.driver h.rise p.1) h.routes

-- the lists after changes

-- the id of a link with this upper driver is still one with one more link at the end
leads_push : (ls : List Link) (l : Link) (id driver : ℕ) → leads_from ls id driver ≡ true
    → leads_from (ls ++ l ∷ []) id driver ≡ true
leads_push [] l id driver e = absurd (false≢true e)
leads_push (k ∷ ls) l id driver e = grind (arith, leads_push ls l id driver)

-- if no link with an id is removed, the id of a link with this upper driver is still one among the remaining links
leads_kept : (goes : Link → Bool) (ls : List Link) (id driver : ℕ) → leads_from ls id driver ≡ true
    → not (list_any (λ l. eqb l.id id) (filter goes ls)) ≡ true
    → leads_from (filter (λ l. not (goes l)) ls) id driver ≡ true
leads_kept goes [] id driver e h = absurd (false≢true e)
leads_kept goes (l ∷ ls) id driver e h = grind (arith, leads_kept goes ls id driver)

-- for each accepted outcome

-- without some links and the routes to them, ids still rise, and each route names a link of its own driver
routed_removed : (drivers : List DriverSpec) (c : Configuration) (goes : Link → Bool) → AreRouted drivers c
    → AreRouted drivers (without_links c goes)
routed_removed drivers c goes h = record {
  rise = later_filter _ _ c.links h.rise;
  ids = each_filter _ _ c.links h.ids;
  start = h.start;
  routes = kept c.routes h.routes;
} where
  kept : (rs : List Route)
      → AllByRecursion (λ r. (is_mux drivers r.driver ≡ true) × (leads_from c.links r.id r.driver ≡ true)) rs
      → AllByRecursion (λ r. (is_mux drivers r.driver ≡ true)
      × (leads_from (filter (λ l. not (goes l)) c.links) r.id r.driver ≡ true))
      (filter (λ r. not (list_any (λ l. eqb l.id r.id) (filter goes c.links))) rs)
  kept [] k = tt
  kept (r ∷ rs) k = elim (cases_Bool (not (list_any (λ l. eqb l.id r.id) (filter goes c.links)))) [
    | inl t ↦ rw t ((k.0.0, leads_kept goes c.links r.id r.driver k.0.1 t), kept rs k.1)
    | inr f ↦
        rw f (kept rs k.1)
  ]

-- if ids rise and each route names a link of its own driver, this also holds after the sweep
routed_done : (drivers : List DriverSpec) (c d : Configuration) → AreRouted drivers d
    → IfAccepted (λ d r. AreRouted drivers d) (done_outcome drivers c d)
routed_done drivers c d h = let k = routed_removed drivers d _ h in
    record { holds = record { rise = k.rise; ids = k.ids; start = k.start; routes = k.routes } }

-- after one more link under the next id, ids still rise, and each route names a link of its own driver
routed_link : (drivers : List DriverSpec) (c : Configuration) (ctl lower : StreamId) (k : LinkKind)
    → AreRouted drivers c
    → AreRouted drivers
    (record c {
      links = c.links ++ record { id = c.next_id; ctl = ctl; lower = lower; kind = k } ∷ [];
      next_id = c.next_id + 1;
    })
routed_link drivers c ctl lower k h = grind (arith, later_push, each_map, each_push, leads_push)

-- after one more route of a multiplexer to one of its links, each route names a link of its own driver
routed_route : (drivers : List DriverSpec) (c : Configuration) (test : Route → Bool) (driver addr id : ℕ)
    → AreRouted drivers c → is_mux drivers driver ≡ true → not (leads_from c.links id driver) ≡ false
    → AreRouted drivers
    (record c {
      routes = with_inserted route_before (filter test c.routes)
          (record { driver = driver; addr = addr; id = id });
    })
routed_route drivers c test driver addr id h mux there = record {
  rise = h.rise;
  ids = h.ids;
  start = h.start;
  routes = each_placed _ route_before (filter test c.routes) (record { driver = driver; addr = addr; id = id })
      (mux, not-false _ there) (each_filter _ test c.routes h.routes);
}

-- the driver of a stream found as that of a multiplexer is one
mux_is : (drivers : List DriverSpec) (c : Configuration) (process fd : ℕ) (s : StreamId)
    → mux_stream drivers c process fd ≡ Ok s → is_mux drivers s.driver ≡ true
mux_is drivers c process fd s e = grind (arith, tested NotMux (free_stream c process fd))

-- an accepted command keeps ids rising, and each route with a link of its own driver
pub routed_accepted : (drivers : List DriverSpec) (c : Configuration) (process : ℕ) (k : Command) → AreRouted drivers c
    → IfAccepted (λ d r. AreRouted drivers d) (outcome drivers c process k)
routed_accepted drivers c process k h = of_rows _ drivers c process k
    (search (routed_link, routed_done, routed_removed, routed_route, mux_is, each_filter, rules) depth 24)

-- a move keeps ids rising, and each route with a link of its own driver
pub routed_moved : (drivers : List DriverSpec) (c : Configuration) (p : Place) → AreRouted drivers c
    → AreRouted drivers (after_move drivers c p)
routed_moved drivers c p h = grind (arith, moved_by (AreRouted drivers) drivers c p h, AreRouted drivers)

-- in the empty configuration, without links and routes, ids rise and no route lacks its link
pub routed_empty : (drivers : List DriverSpec) → AreRouted drivers empty
routed_empty drivers = record { rise = tt; ids = tt; start = omega arith; routes = tt }

-- in the form of the laws

-- ids that rise by recursion satisfy `AreIdsRising`
pub rising_ids : (drivers : List DriverSpec) (c : Configuration) → AreRouted drivers c → AreIdsRising c.links c.next_id
rising_ids drivers c h = grind (arith, later_map, All-from_recursion, each_map)

-- routes with links of their own drivers, by recursion, satisfy `AreRoutesSound`
pub sound_routes : (drivers : List DriverSpec) (c : Configuration) → AreRouted drivers c → AreRoutesSound drivers c
sound_routes drivers c h = grind (arith, All-from_recursion, each_map)
