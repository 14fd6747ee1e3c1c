-- The outcomes of changes after a sweep.
use Rattle.smx_tables.proofs.Common.{◌≡◌, ℕ, Bool, true, false, ◌&&◌, not, eqb, List, [], filter, Err, refl, rules}
use Rattle.smx_tables.proofs.Common.{list_any, StreamId, DriverSpec, Reply, done_outcome, outcome, Configuration}
use Rattle.smx_tables.proofs.Common.{leaf_stream, serials_that_left, after_sweep, exists}
use Rattle.std.proofs.Common.{Ok}
use Rattle.smx_types.specs.declared.command.Command.TheVariants as command
use Rattle.smx_types.specs.declared.command.Which.{Which}
use Rattle.smx_types.specs.declared.command.Which.TheVariants as which
use Rattle.smx_types.specs.declared.link.Binding.{Binding}
use Rattle.smx_types.specs.declared.link.LinkKind.TheVariants as kind
use Rattle.smx_types.specs.declared.link.Route.{Route}
use Rattle.smx_types.specs.declared.reply.Fault.TheVariants.{Unbound, Unrouted}
use Rattle.smx_types.specs.declared.reply.Reply.TheVariants.{Done}
use Rattle.smx_model.specs.Configuration.{bind_before, route_before}
use Rattle.smx_model.specs.Hangups.{with_hung}
use Rattle.smx_model.specs.Ordered.{with_inserted}
use Rattle.smx_model.specs.Lookups.{mux_stream}
use Rattle.smx_model.specs.Swept.{IsSwept}
use Rattle.smx_addresses.specs.BindingLists.{is_taken}
use Rattle.smx_model.proofs.DropLemmas.{done_idle, hung_swept, mux_exists}
use Rattle.smx_model.proofs.TestLemmas.{all_placed}
use Rattle.smx_tables.proofs.ExistingLemmas.{all_fewer}
use Rattle.smx_tables.specs.UnlinkTargets.{unlinks}
use Rattle.smx_tables.proofs.AcceptedLemmas.{leaf_says}

-- a swept configuration, with a reply that names the serials that left, is the outcome of a change, if the sweep of the
-- changed configuration has the same result
pub swept_is : (drivers given : List DriverSpec) (c new changed d : Configuration) (r : Reply) → given ≡ drivers
    → d ≡ after_sweep given changed → after_sweep drivers changed ≡ after_sweep drivers new
    → r ≡ Done (serials_that_left c.flow d.flow) → done_outcome drivers c new ≡ Ok (d, r)
swept_is drivers given c new changed d r same is left gone = search rules

-- ---- fewer bindings or other routes leave nothing to sweep

-- a swept configuration with fewer bindings is swept
fewer_binds : (drivers : List DriverSpec) (c : Configuration) (t : Binding → Bool) → IsSwept drivers c
    → IsSwept drivers (record c { binds = filter t c.binds })
fewer_binds drivers c t h = search (all_fewer, rules)

-- a swept configuration with other routes is swept
other_routes : (drivers : List DriverSpec) (c : Configuration) (routes : List Route) → IsSwept drivers c
    → IsSwept drivers (record c { routes = routes })
other_routes drivers c routes h = search rules

-- a route that is not refused replaces the driver's route for the address, and drops no message
pub route_does : (drivers : List DriverSpec) (c : Configuration) (process fd addr id : ℕ) (s : StreamId)
    (new : Configuration) (r : Reply) → IsSwept drivers c
    → mux_stream drivers c process fd ≡ Ok s
    → list_any (λ l. eqb l.id id && eqb l.ctl.driver s.driver) c.links ≡ true
    → new ≡ record c {
      routes = with_inserted route_before
          (filter (λ x. not (eqb x.driver s.driver && eqb x.addr addr)) c.routes)
          (record { driver = s.driver; addr = addr; id = id });
    } → r ≡ Done []
    → outcome drivers c process (command.Route fd addr id) ≡ Ok (new, r)
route_does drivers c process fd addr id s new r clean e there is none =
    rw (e, there, is, none) (done_idle drivers c _ (other_routes drivers c _ clean) refl)

-- a swept configuration with one more binding, of a stream that exists, is swept
one_more_bind : (drivers : List DriverSpec) (c : Configuration) (b : Binding)
    → exists drivers c (record { driver = b.driver; minor = b.minor }) ≡ true → IsSwept drivers c
    → IsSwept drivers (record c { binds = with_inserted bind_before c.binds b })
one_more_bind drivers c b there h = search (all_placed, rules)

-- a bind that is not refused inserts its binding, and drops no message
pub bind_does : (drivers : List DriverSpec) (c : Configuration) (process fd addr : ℕ) (s : StreamId)
    (new : Configuration) (r : Reply) → IsSwept drivers c
    → mux_stream drivers c process fd ≡ Ok s
    → is_taken c.binds s addr ≡ false
    → new ≡ record c {
      binds = with_inserted bind_before c.binds
          (record { driver = s.driver; addr = addr; minor = s.minor });
    } → r ≡ Done []
    → outcome drivers c process (command.Bind fd addr) ≡ Ok (new, r)
bind_does drivers c process fd addr s new r clean e there is none = rw (e, there, is, none)
    (done_idle drivers c _ (one_more_bind drivers c (record { driver = s.driver; addr = addr; minor = s.minor })
    (mux_exists drivers c process fd s e) clean) refl)

-- an unbind that is not refused removes the binding of its stream, and drops no message
pub unbind_does : (drivers : List DriverSpec) (c : Configuration) (process fd : ℕ) (s : StreamId) (new : Configuration)
    (r : Reply) → IsSwept drivers c → mux_stream drivers c process fd ≡ Ok s
    → list_any (λ b. eqb b.driver s.driver && eqb b.minor s.minor) c.binds ≡ true
    → new ≡ record c { binds = filter (λ b. not (eqb b.driver s.driver && eqb b.minor s.minor)) c.binds } → r ≡ Done []
    → outcome drivers c process (command.Unbind fd) ≡ Ok (new, r)
unbind_does drivers c process fd s new r clean e there is none =
    rw (e, there, is, none) (done_idle drivers c _ (fewer_binds drivers c _ clean) refl)

-- an unbind is refused if the stream has no binding
pub unbind_refused : (drivers : List DriverSpec) (c : Configuration) (process fd : ℕ) (s : StreamId)
    → mux_stream drivers c process fd ≡ Ok s
    → list_any (λ b. eqb b.driver s.driver && eqb b.minor s.minor) c.binds ≡ false
    → outcome drivers c process (command.Unbind fd) ≡ Err Unbound
unbind_refused drivers c process fd s e none = rw (e, none) refl

-- an unroute that is not refused removes the driver's route for the address, and drops no message
pub unroute_does : (drivers : List DriverSpec) (c : Configuration) (process fd addr : ℕ) (s : StreamId)
    (new : Configuration) (r : Reply) → IsSwept drivers c
    → mux_stream drivers c process fd ≡ Ok s
    → list_any (λ x. eqb x.driver s.driver && eqb x.addr addr) c.routes ≡ true
    → new ≡ record c { routes = filter (λ x. not (eqb x.driver s.driver && eqb x.addr addr)) c.routes } → r ≡ Done []
    → outcome drivers c process (command.Unroute fd addr) ≡ Ok (new, r)
unroute_does drivers c process fd addr s new r clean e there is none =
    rw (e, there, is, none) (done_idle drivers c _ (other_routes drivers c _ clean) refl)

-- an unroute is refused if the driver has no route for the address
pub unroute_refused : (drivers : List DriverSpec) (c : Configuration) (process fd addr : ℕ) (s : StreamId)
    → mux_stream drivers c process fd ≡ Ok s
    → list_any (λ x. eqb x.driver s.driver && eqb x.addr addr) c.routes ≡ false
    → outcome drivers c process (command.Unroute fd addr) ≡ Err Unrouted
unroute_refused drivers c process fd addr s e none = rw (e, none) refl

-- ---- a hangup

-- a hangup that is not refused hangs up its stream, and drops no message
pub hangup_does : (drivers : List DriverSpec) (c : Configuration) (process : ℕ) (name : List ℕ) (minor : ℕ)
    (s : StreamId) (new : Configuration) (r : Reply) → IsSwept drivers c
    → leaf_stream drivers c name minor ≡ Ok s
    → new ≡ record c { hungs = with_hung s c.hungs } → r ≡ Done []
    → outcome drivers c process (command.Hangup name minor) ≡ Ok (new, r)
hangup_does drivers c process name minor s new r clean e is none = rw (e, is, none)
    (done_idle drivers c _
    (hung_swept drivers c s clean (leaf_says drivers c name minor s e).0) refl)

-- ---- both kinds of links

-- the outcome of `unlink` is the removal of ordinary links
pub unlink_is : (drivers : List DriverSpec) (c : Configuration) (process fd : ℕ) (w : Which)
    → outcome drivers c process (command.Unlink fd w) ≡ unlinks drivers c process fd w kind.Ordinary
unlink_is drivers c process fd which.All = refl
unlink_is drivers c process fd (which.Id id) = refl

-- the outcome of `punlink` is the removal of persistent links
pub punlink_is : (drivers : List DriverSpec) (c : Configuration) (process fd : ℕ) (w : Which)
    → outcome drivers c process (command.Punlink fd w) ≡ unlinks drivers c process fd w kind.Persistent
punlink_is drivers c process fd which.All = refl
punlink_is drivers c process fd (which.Id id) = refl
