-- The drivers have the stream of each part of a configuration, so the view determines the configuration.
use Rattle.smx_model.proofs.Common.{◌≡◌, ℕ, zero, suc, ◌<◌, Bool, true, List, [], ◌∷◌, length, map, refl}
use Rattle.smx_model.proofs.Common.{arith, list_any, false≢true, AllByRecursion, All-from_recursion}
use Rattle.smx_model.proofs.Common.{DriverSpec, Binding, Link, LinkKind, Route, Message, Descriptor, Place, Side}
use Rattle.smx_model.proofs.Common.{StreamId, Configuration, QueuedMessage, same_stream, IsDriverList, is_mux}
use Rattle.smx_model.proofs.Common.{AreStreamsKnown, IsKnown, is_named, stands_within, IsSwept, view}
use Rattle.std.proofs.Common.{slice_index_or}
use Rattle.std.proofs.lemmas.Option.{slice_get_past, slice_get-get_or}
use Rattle.smx_types.specs.declared.driver.DriverKind.TheVariants.{Leaf}
use Rattle.smx_model.specs.DriverList.{name_of}
use Rattle.smx_model.specs.Views.{view_of_fd, view_of_link, view_of_bind, view_of_route, view_of_message}
use Rattle.smx_model.specs.Views.{view_of_full, view_of_hung}
use Rattle.smx_model.proofs.RangeLemmas.{AreNamed}
use Rattle.smx_model.proofs.RouteLemmas.{AreRouted}
use Rattle.smx_model.proofs.EachLemmas.{each_map, each_of_list_all}

-- ---- the drivers have each stream that exists

-- a stream that equals one that the drivers have is one that they have
same_known : (drivers : List DriverSpec) (s t : StreamId) → IsKnown drivers s → same_stream s t ≡ true
    → IsKnown drivers t
same_known drivers s t h e = grind arith

-- if the drivers have the streams of descriptors, they have each stream that a descriptor names
named_known : (drivers : List DriverSpec) (fds : List Descriptor) (s : StreamId)
    → AllByRecursion (λ d. IsKnown drivers d.stream) fds → is_named fds s ≡ true → IsKnown drivers s
named_known drivers [] s h e = absurd (false≢true e)
named_known drivers (d ∷ ds) s h e = grind (arith, same_known drivers d.stream s h.0, named_known drivers ds s h.1)

-- if the drivers have the streams of links, and some link passes a test, they have a lower stream common to all
-- links that pass
lower_known : (drivers : List DriverSpec) (test : Link → Bool) (links : List Link) (s : StreamId)
    → AllByRecursion (λ l. IsKnown drivers l.ctl × IsKnown drivers l.lower) links
    → ((l : Link) → test l ≡ true → same_stream l.lower s ≡ true) → list_any test links ≡ true → IsKnown drivers s
lower_known drivers test [] s h f e = absurd (false≢true e)
lower_known drivers test (l ∷ ls) s h f e = grind (arith, same_known, f l, lower_known drivers test ls s h.1 f)

-- if the drivers have the streams of descriptors and links, they have each stream that exists within some climbs
standing_known : (drivers : List DriverSpec) (c : Configuration) (n : ℕ) (s : StreamId) → AreNamed drivers c
    → stands_within c.fds c.links n s ≡ true → IsKnown drivers s
standing_known drivers c zero s h e = grind (arith, named_known drivers c.fds s h.fds, lower_known drivers)
standing_known drivers c (suc n) s h
    e = grind (arith, standing_known drivers c n s h, lower_known drivers)

-- ---- the drivers have the stream of each part of a swept configuration

-- the number of a multiplexer is below the number of drivers
mux_below : (drivers : List DriverSpec) (n : ℕ) → is_mux drivers n ≡ true → n < length drivers
mux_below drivers n e = grind (arith, slice_get_past drivers n)

-- the drivers have the stream of each part of a configuration, and the driver of each route
pub record EachKnown (drivers : List DriverSpec) (c : Configuration) : Type 0 where
  pub fds : AllByRecursion (λ d. IsKnown drivers d.stream) c.fds
  pub links : AllByRecursion (λ l. IsKnown drivers l.ctl × IsKnown drivers l.lower) c.links
  pub binds : AllByRecursion (λ b. IsKnown drivers (record { driver = b.driver; minor = b.minor })) c.binds
  pub routes : AllByRecursion (λ r. r.driver < length drivers) c.routes
  pub flow : AllByRecursion (λ h. IsKnown drivers h.place.stream) c.flow
  pub fulls : AllByRecursion (λ p. IsKnown drivers p.stream) c.fulls
  pub hungs : AllByRecursion (λ s. IsKnown drivers s) c.hungs

-- in a swept configuration whose descriptors, links and routes have known streams and drivers, so has each part
pub each_known : (drivers : List DriverSpec) (c : Configuration) → AreNamed drivers c → AreRouted drivers c
    → IsSwept drivers c → EachKnown drivers c
each_known drivers c named routed swept_ = record {
  fds = named.fds;
  links = named.links;
  binds = each_of_list_all _ _ c.binds
      (λ b e. standing_known drivers c (length drivers) (record { driver = b.driver; minor = b.minor }) named e)
      swept_.binds;
  routes = each_map _ _ c.routes (λ r p. mux_below drivers r.driver p.0) routed.routes;
  flow = each_of_list_all _ _ c.flow (λ h e. standing_known drivers c (length drivers) h.place.stream named e)
      swept_.flow;
  fulls = each_of_list_all _ _ c.fulls (λ p e. standing_known drivers c (length drivers) p.stream named e) swept_.fulls;
  hungs = each_of_list_all _ _ c.hungs (λ s e. standing_known drivers c (length drivers) s named e) swept_.hungs;
}

-- if `EachKnown` holds of each part by recursion, `AreStreamsKnown` holds by index
pub known_of_each : (drivers : List DriverSpec) (c : Configuration) → EachKnown drivers c → AreStreamsKnown drivers c
known_of_each drivers c h = grind (arith, All-from_recursion, each_map)

-- ---- a name determines its driver

-- a driver for look-ups that need a default
some_driver : DriverSpec
some_driver = record { name = []; kind = Leaf; minors = 0; high = 0; low = 0; max = 0 }

-- the name at a number in range is that of the driver at that index
name_at : (drivers : List DriverSpec) (n : ℕ) → n < length drivers
    → name_of drivers n ≡ (slice_index_or drivers n some_driver).name
name_at drivers n lt = grind (arith, slice_get-get_or, some_driver)

-- among valid drivers, numbers in range whose drivers have the same name are equal
one_number : (drivers : List DriverSpec) (a b : ℕ) → IsDriverList drivers → a < length drivers → b < length drivers
    → name_of drivers a ≡ name_of drivers b → a ≡ b
one_number drivers a b h lt_a lt_b e =
    grind (arith, name_at, h.names a b some_driver, some_driver, h.names b a some_driver)

-- ---- a line of the view determines its part

-- if a function is injective on elements with P, it is injective on lists of such elements
map_one : {X Y : Type 0} (f : X → Y) (P : X → Type 0) (xs ys : List X) → ((x y : X) → P x → P y → f x ≡ f y → x ≡ y)
    → AllByRecursion P xs → AllByRecursion P ys → map f xs ≡ map f ys → xs ≡ ys
map_one f P [] [] one h k e = refl
map_one f P [] (y ∷ ys) one h k e = let differ : [] ≡ f y ∷ map f ys = e in absurd cc
map_one f P (x ∷ xs) [] one h k e = let differ : f x ∷ map f xs ≡ [] = e in absurd cc
map_one f P (x ∷ xs) (y ∷ ys) one h k e =
    let all : f x ∷ map f xs ≡ f y ∷ map f ys = e in
    let first : f x ≡ f y = cc in
    let rest : map f xs ≡ map f ys = cc in
    let same : x ≡ y = one x y h.0 k.0 first in
    let later : xs ≡ ys = map_one f P xs ys one h.1 k.1 rest in
    cc

-- equal fields make equal parts

-- two values of one type are equal
abbrev Same : (X : Type 0) → X → X → Type 0
Same X x y = x ≡ y

-- descriptors with the same process, number, driver and minor are equal
fd_made : (process fd driver minor process2 fd2 driver2 minor2 : ℕ) → process ≡ process2 → fd ≡ fd2 → driver ≡ driver2
    → minor ≡ minor2
    → Same Descriptor (record { process = process; fd = fd; stream = record { driver = driver; minor = minor } })
    (record { process = process2; fd = fd2; stream = record { driver = driver2; minor = minor2 } })
fd_made process fd driver minor process2 fd2 driver2 minor2 e f g h = cc

-- links with the same id, drivers, minors and kind are equal
link_made : (id upper ctl lower below : ℕ) (k : LinkKind) (id2 upper2 ctl2 lower2 below2 : ℕ) (k2 : LinkKind) → id ≡ id2
    → upper ≡ upper2 → ctl ≡ ctl2 → lower ≡ lower2 → below ≡ below2 → k ≡ k2
    → Same Link
    (record {
      id = id;
      ctl = record { driver = upper; minor = ctl };
      lower = record { driver = lower; minor = below };
      kind = k;
    }) (record {
      id = id2;
      ctl =
          record { driver = upper2; minor = ctl2 };
      lower = record { driver = lower2; minor = below2 };
      kind = k2;
    })
link_made id upper ctl lower below k id2 upper2 ctl2 lower2 below2 k2 e1 e2 e3 e4 e5 e6 = cc

-- bindings with the same driver, address and minor are equal
bind_made : (driver addr minor driver2 addr2 minor2 : ℕ) → driver ≡ driver2 → addr ≡ addr2 → minor ≡ minor2
    → Same Binding (record { driver = driver; addr = addr; minor = minor })
    (record { driver = driver2; addr = addr2; minor = minor2 })
bind_made driver addr minor driver2 addr2 minor2 e f g = cc

-- routes with the same driver, address and id are equal
route_made : (driver addr id driver2 addr2 id2 : ℕ) → driver ≡ driver2 → addr ≡ addr2 → id ≡ id2
    → Same Route (record { driver = driver; addr = addr; id = id })
    (record { driver = driver2; addr = addr2; id = id2 })
route_made driver addr id driver2 addr2 id2 e f g = cc

-- places with the same driver, minor and side are equal
place_made : (driver minor : ℕ) (s : Side) (driver2 minor2 : ℕ) (s2 : Side) → driver ≡ driver2 → minor ≡ minor2 → s ≡ s2
    → Same Place (record { stream = record { driver = driver; minor = minor }; side = s })
    (record { stream = record { driver = driver2; minor = minor2 }; side = s2 })
place_made driver minor s driver2 minor2 s2 e f g = cc

-- queued messages with the same place and message are equal
held_made : (p : Place) (m : Message) (p2 : Place) (m2 : Message) → p ≡ p2 → m ≡ m2
    → Same QueuedMessage (record { place = p; message = m }) (record { place = p2; message = m2 })
held_made p m p2 m2 e f = cc

-- the configuration of these lists and numbers
abbrev configuration : List Descriptor → List Link → ℕ → List Binding → List Route → List QueuedMessage → List Place → ℕ
    → List StreamId → Configuration
configuration fds links id binds routes flow fulls serial hungs = record {
  fds = fds;
  links = links;
  next_id = id;
  binds = binds;
  routes = routes;
  flow = flow;
  fulls = fulls;
  next_serial = serial;
  hungs = hungs;
}

-- configurations with the same lists and numbers are equal
configuration_made : (fds fds2 : List Descriptor) (links links2 : List Link) (id id2 : ℕ) (binds binds2 : List Binding)
    (routes routes2 : List Route) (flow flow2 : List QueuedMessage) (fulls fulls2 : List Place) (serial serial2 : ℕ)
    (hungs hungs2 : List StreamId)
    → fds ≡ fds2 → links ≡ links2 → id ≡ id2 → binds ≡ binds2 → routes ≡ routes2 → flow ≡ flow2 → fulls ≡ fulls2
    → serial ≡ serial2 → hungs ≡ hungs2
    → configuration fds links id binds routes flow fulls serial hungs
    ≡ configuration fds2 links2 id2 binds2 routes2 flow2 fulls2 serial2 hungs2
configuration_made fds fds2 links links2 id id2 binds binds2 routes routes2 flow flow2 fulls fulls2 serial serial2 hungs
    hungs2 e1 e2 e3 e4 e5 e6 e7 e8 e9 = cc

-- descriptors of streams that valid drivers have are equal if their lines are
one_fd : (drivers : List DriverSpec) → IsDriverList drivers → (d e : Descriptor) → IsKnown drivers d.stream
    → IsKnown drivers e.stream → view_of_fd drivers d ≡ view_of_fd drivers e → d ≡ e
one_fd drivers h d e lt lt2 k = grind (arith, fd_made, one_number)

-- links of streams that valid drivers have are equal if their lines are
one_link : (drivers : List DriverSpec) → IsDriverList drivers → (l m : Link)
    → IsKnown drivers l.ctl × IsKnown drivers l.lower → IsKnown drivers m.ctl × IsKnown drivers m.lower
    → view_of_link drivers l ≡ view_of_link drivers m → l ≡ m
one_link drivers h l m lt lt2 k = grind (arith, one_number)

-- bindings of streams that valid drivers have are equal if their lines are
one_bind : (drivers : List DriverSpec) → IsDriverList drivers → (b c : Binding)
    → IsKnown drivers (record { driver = b.driver; minor = b.minor })
    → IsKnown drivers (record { driver = c.driver; minor = c.minor }) → view_of_bind drivers b ≡ view_of_bind drivers c
    → b ≡ c
one_bind drivers h b c lt lt2 k = grind (arith, bind_made, one_number)

-- routes of valid drivers in range are equal if their lines are
one_route : (drivers : List DriverSpec) → IsDriverList drivers → (r s : Route) → r.driver < length drivers
    → s.driver < length drivers → view_of_route drivers r ≡ view_of_route drivers s → r ≡ s
one_route drivers h r s lt lt2 k = grind (arith, route_made, one_number)

-- full places of streams that valid drivers have are equal if their lines are
one_full : (drivers : List DriverSpec) → IsDriverList drivers → (p q : Place) → IsKnown drivers p.stream
    → IsKnown drivers q.stream → view_of_full drivers p ≡ view_of_full drivers q → p ≡ q
one_full drivers h p q lt lt2 k = grind (arith, place_made, one_number)

-- streams with the same driver and minor are equal
stream_made : (driver minor driver2 minor2 : ℕ) → driver ≡ driver2 → minor ≡ minor2
    → Same StreamId (record { driver = driver; minor = minor }) (record { driver = driver2; minor = minor2 })
stream_made driver minor driver2 minor2 e f = cc

-- hung-up streams that valid drivers have are equal if their lines are
one_hung : (drivers : List DriverSpec) → IsDriverList drivers → (s t : StreamId) → IsKnown drivers s → IsKnown drivers t
    → view_of_hung drivers s ≡ view_of_hung drivers t → s ≡ t
one_hung drivers h s t lt lt2 k = grind (arith, stream_made, one_number)

-- queued messages at streams that valid drivers have are equal if their lines are
one_held : (drivers : List DriverSpec) → IsDriverList drivers → (x y : QueuedMessage) → IsKnown drivers x.place.stream
    → IsKnown drivers y.place.stream → view_of_message drivers x ≡ view_of_message drivers y → x ≡ y
one_held drivers h x y lt lt2 k = grind (arith, held_made, place_made, one_number)

-- ---- a view determines its configuration

-- two configurations of known streams with the same view, over valid drivers, are equal
pub one_configuration : (drivers : List DriverSpec) (c d : Configuration) → IsDriverList drivers → EachKnown drivers c
    → EachKnown drivers d → view drivers c ≡ view drivers d → c ≡ d
one_configuration drivers c d h kc kd e =
    grind (arith, map_one, one_fd, one_link, one_bind, one_route, one_held, one_full, one_hung)
