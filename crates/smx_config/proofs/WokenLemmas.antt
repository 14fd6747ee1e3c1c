-- The places that a command turns and frees are among those that it may wake.
use Rattle.smx_config.proofs.Common.{◌≡◌, ℕ, Bool, true, false, ◌&&◌, eqb, List, [], Some, None, Ok, refl, sym, subst}
use Rattle.smx_config.proofs.Common.{inl, inr, arith, list_any, cases_Bool, false≢true, DriverSpec, Link, Reply}
use Rattle.smx_config.proofs.Common.{Place, StreamId, outcome, Configuration, same_place, same_stream, first_message}
use Rattle.smx_config.proofs.Common.{next_of_first, turned_by_move, next_open_place, Marks, AreMarks, IsWoken}
use Rattle.smx_config.proofs.Common.{Machine, IsSound}
use Rattle.std.proofs.Common.{◌||◌, not, filter, Result, Err}
use Rattle.std.specs.Prelude.{◌⊎◌, IfOk}
use Rattle.std.specs.Option.{is_some}
use Rattle.std.specs.Result.{is_ok}
use Rattle.smx_types.specs.declared.command.Command.{Command}
use Rattle.smx_types.specs.declared.command.Command.TheVariants as command
use Rattle.smx_types.specs.declared.reply.Fault.{Fault}
use Rattle.smx_types.specs.declared.reply.Fault.TheVariants.{AddressInUse, NoLink}
use Rattle.smx_types.specs.declared.reply.Reply.TheVariants as reply
use Rattle.smx_types.specs.declared.stream.Side.TheVariants as side
use Rattle.smx_model.specs.Commands.{done_outcome, step}
use Rattle.smx_model.specs.Configuration.{QueuedMessage, bind_before, route_before, same_side}
use Rattle.smx_model.specs.FreedPlaces.{FreesOnly, HaveFullPlacesMessages, freed_by}
use Rattle.smx_model.specs.Lookups.{mux_stream}
use Rattle.smx_model.specs.Ordered.{with_inserted}
use Rattle.smx_model.specs.Outcomes.{refuse}
use Rattle.smx_model.specs.Queues.{after_leaving}
use Rattle.smx_model.specs.Removal.{after_sweep}
use Rattle.smx_model.specs.RunMarks.{TurnsOnly, asks_down, asks_up, either, has_addr, is_first_at, nowhere}
use Rattle.smx_model.specs.Settling.{after_settling}
use Rattle.smx_model.specs.Swept.{IsSwept}
use Rattle.smx_model.specs.TurnedPlaces.{of_stream, turned_by}
use Rattle.smx_tables.specs.declared.step_error.StepError.{StepError}
use Rattle.smx_tables.specs.Refinement.{Refines, answer_of}
use Rattle.smx_config.specs.Wakes.{arrives, drops_none, freed_under, is_either_side, on_stream, turned_under}
use Rattle.smx_config.specs.Wakes.{wakes_of}
use Rattle.smx_config.specs.declared.wakes.Wakes.{Wakes}
use Rattle.smx_model.proofs.IdleSweepLemmas.{swept_idle}
use Rattle.smx_model.proofs.KeptLemmas.{outcome_sound}
use Rattle.smx_model.proofs.FreedPlaceLemmas.{few_freed}
use Rattle.smx_model.proofs.TurningCommandLemmas.{outcomes_turn}
use Rattle.smx_model.proofs.UndroppedLemmas.{undropped_if}
use Rattle.smx_tables.proofs.AcceptedLemmas.{accepted, bound}
use Rattle.smx_config.proofs.StayingLemmas.{read_stays, transmit_stays}
use Rattle.smx_config.proofs.WakeLemmas.{marks_after}

-- ---- bindings and routes change no link and no message

-- the links and the messages are as before
abbrev KeepsBoth : Configuration → Configuration × Reply → Type 0
KeepsBoth c x = (x.0.links ≡ c.links) × (x.0.flow ≡ c.flow)

-- a change keeps the links and the messages if a sweep after it leaves those that a sweep leaves without it
done_keeps_both : (drivers : List DriverSpec) (c new : Configuration) (x : Configuration × Reply) → IsSwept drivers c
    → (after_sweep drivers new).links ≡ (after_sweep drivers c).links
    → (after_sweep drivers new).flow ≡ (after_sweep drivers c).flow → done_outcome drivers c new ≡ Ok x → KeepsBoth c x
done_keeps_both drivers c new x h links flow e = grind (arith, accepted _ x e, swept_idle drivers c h)

-- a bind that is accepted keeps the links and the messages
bind_keeps_both : (drivers : List DriverSpec) (c : Configuration) (process fd addr : ℕ) (x : Configuration × Reply)
    → IsSwept drivers c → outcome drivers c process (command.Bind fd addr) ≡ Ok x → KeepsBoth c x
bind_keeps_both drivers c process fd addr x h e =
    let s = bound (mux_stream drivers c process fd) _ x e in
    let free = bound
    (refuse AddressInUse
    (list_any (λ b. eqb b.driver s.0.driver && (eqb b.addr addr || eqb b.minor s.0.minor)) c.binds)) _ x s.2 in
    done_keeps_both drivers c
    (record c {
      binds = with_inserted bind_before c.binds (record { driver = s.0.driver; addr = addr; minor = s.0.minor });
    }) x h refl refl free.2

-- a route that is accepted keeps the links and the messages
route_keeps_both : (drivers : List DriverSpec) (c : Configuration) (process fd addr id : ℕ)
    (x : Configuration × Reply) → IsSwept drivers c → outcome drivers c process (command.Route fd addr id) ≡ Ok x
    → KeepsBoth c x
route_keeps_both drivers c process fd addr id x h e =
    let s = bound (mux_stream drivers c process fd) _ x e in
    let there = bound
    (refuse NoLink (not (list_any (λ l. eqb l.id id && eqb l.ctl.driver s.0.driver) c.links))) _ x s.2 in
    done_keeps_both drivers c
    (record c {
      routes = with_inserted route_before
          (filter (λ r. not (eqb r.driver s.0.driver && eqb r.addr addr)) c.routes)
          (record { driver = s.0.driver; addr = addr; id = id });
    }) x h refl refl there.2

-- ---- the turned places

-- if `g` names each place that `f` turns at a stream, it also does so at the stream of a look-up
turned_on : (r : Result StreamId Fault) (f : StreamId → Place → Bool) (g : StreamId → Wakes) (d : Configuration)
    (p : Place) → ((s : StreamId) → f s p ≡ true → turned_under d (g s) p ≡ true) → of_stream r f p ≡ true
    → turned_under d (on_stream r g) p ≡ true
turned_on (Ok s) f g d p h t = h s t
turned_on (Err e) f g d p h t = absurd (false≢true t)

-- an arrival that gives a place its first message turns it
arrived : (c d : Configuration) (q p : Place) → is_first_at c q p ≡ true → turned_under d (arrives c q) p ≡ true
arrived c d q p h = grind arith

-- the place may be turned, or its first message has no next place
abbrev IsTurnedOrStays : List DriverSpec → Configuration → Wakes → Place → Type 0
IsTurnedOrStays drivers d w p = (turned_under d w p ≡ true) ⊎ (next_of_first drivers d p ≡ None)

-- if an accepted command turns a place, `wakes_of` says that it may be turned, or no message moves on from it
turns : (drivers : List DriverSpec) (c : Configuration) (process : ℕ) (k : Command) (x : Configuration × Reply)
    → IsSwept drivers c → outcome drivers c process k ≡ Ok x → (p : Place) → turned_by drivers c process k p ≡ true
    → IsTurnedOrStays drivers x.0 (wakes_of drivers c process k) p
turns drivers c process (command.Link fd arg) x h e p t = grind (arith, turned_on)
turns drivers c process (command.Plink fd arg) x h e p t = grind (arith, turned_on)
turns drivers c process (command.Bind fd addr) x h e p t =
    inl (turned_on (mux_stream drivers c process fd) _ _ x.0 p (λ s u. still s u) t) where
      still : (s : StreamId) → asks_up c s.driver addr p ≡ true → asks_up x.0 s.driver addr p ≡ true
      still s u =
          let kept = bind_keeps_both drivers c process fd addr x h e in
          subst (λ (y : List Link × List QueuedMessage).
          ((same_side p.side side.Read && list_any (λ l. same_stream l.lower p.stream && eqb l.ctl.driver s.driver) y.0)
          && has_addr addr (first_message y.1 p)) ≡ true) (λ i. (sym kept.0 i, sym kept.1 i)) u
turns drivers c process (command.Route fd addr id) x h e p t =
    inl (turned_on (mux_stream drivers c process fd) _ _ x.0 p (λ s u. still s u) t) where
      still : (s : StreamId) → asks_down c s.driver addr p ≡ true → asks_down x.0 s.driver addr p ≡ true
      still s u = subst (λ (messages : List QueuedMessage).
          ((same_side p.side side.Write && eqb p.stream.driver s.driver)
          && has_addr addr (first_message messages p)) ≡ true)
          (sym (route_keeps_both drivers c process fd addr id x h e).1) u
turns drivers c process (command.Write fd addr bytes) x h e p t = grind (arith, turned_on, arrived)
turns drivers c process (command.Read fd) x h e p t = inr (read_stays drivers c process fd x p e t)
turns drivers c process (command.Inject name minor addr bytes) x h e p t = grind (arith, turned_on, arrived)
turns drivers c process (command.Transmit name minor) x h e p t = grind (arith, transmit_stays)
turns drivers c process k x h e p t = absurd (false≢true t)

-- an accepted command turns only places that `wakes_of` says may be turned
pub turns_few : (drivers : List DriverSpec) (c : Configuration) (process : ℕ) (k : Command) (x : Configuration × Reply)
    → IsSwept drivers c → outcome drivers c process k ≡ Ok x
    → TurnsOnly drivers c x.0 (turned_by drivers c process k)
    → TurnsOnly drivers c x.0 (turned_under x.0 (wakes_of drivers c process k))
turns_few drivers c process k x h e only p f = grind (arith, turns drivers c process k x h e p, only p)

-- ---- the freed places

-- if `g` names each place that `f` frees at a stream, it also does so at the stream of a look-up
freed_on : (x : Reply) (r : Result StreamId Fault) (f : StreamId → Place → Bool) (g : StreamId → Wakes) (p : Place)
    → ((s : StreamId) → f s p ≡ true → freed_under x (g s) p ≡ true) → of_stream r f p ≡ true
    → freed_under x (on_stream r g) p ≡ true
freed_on x (Ok s) f g p h t = h s t
freed_on x (Err e) f g p h t = absurd (false≢true t)

-- each place of a stream is on one of its sides
is_on_a_side : (s : StreamId) (p : Place) → same_stream p.stream s ≡ true → is_either_side s p ≡ true
is_on_a_side s p h = grind arith

-- if a command may free a place, and its reply may name dropped messages, `wakes_of` says that it may be freed
frees : (drivers : List DriverSpec) (c new : Configuration) (process : ℕ) (k : Command) (x : Reply) (p : Place)
    → drops_none x ≡ false → freed_by drivers c process k new p ≡ true
    → freed_under x (wakes_of drivers c process k) p ≡ true
frees drivers c new process (command.Close fd) x p some t = rw some refl
frees drivers c new process command.CloseAll x p some t = rw some refl
frees drivers c new process (command.Unlink fd w) x p some t = rw some refl
frees drivers c new process (command.Punlink fd w) x p some t = rw some refl
frees drivers c new process (command.Read fd) x p some t = grind (arith, freed_on)
frees drivers c new process (command.Transmit name minor) x p some t = grind (arith, freed_on)
frees drivers c new process (command.Flush fd w) x p some t = grind (arith, freed_on, is_on_a_side)
frees drivers c new process k x p some t = absurd (false≢true t)

-- a reply that passes `drops_none` is `Done` without serials
undropped : (r : Reply) → drops_none r ≡ true → r ≡ reply.Done []
undropped (reply.Done []) t = refl
undropped r t = absurd (false≢true t)

-- a change freed only some of these places
pub record FreesAmong (old new : Configuration) (freed_too : Place → Bool) : Type 0 where
  pub freed : Place → Bool
  pub among : (p : Place) → freed p ≡ true → freed_too p ≡ true
  pub only : FreesOnly old new freed

-- an accepted command freed only places that `wakes_of` says may be freed, given its reply
pub frees_among : (drivers : List DriverSpec) (c : Configuration) (process : ℕ) (k : Command)
    (x : Configuration × Reply) → FreesOnly c x.0 (freed_by drivers c process k x.0)
    → (x.1 ≡ reply.Done [] → FreesOnly c x.0 nowhere)
    → FreesAmong c x.0 (freed_under x.1 (wakes_of drivers c process k))
frees_among drivers c process k x few none = elim (cases_Bool (drops_none x.1)) [
  | inl t ↦ record {
    freed = nowhere;
    among = λ p f. absurd (false≢true f);
    only = none (undropped x.1 t);
  }
  | inr some ↦ record {
    freed = freed_by drivers c process k x.0;
    among = λ p f. frees drivers c x.0 process k x.1 p some f;
    only = few;
  }
]

-- ---- both ends of a move

-- each place that a move turns is the place that the message leaves, or the place that it reaches, if that was empty
pub turned_ends : (drivers : List DriverSpec) (c : Configuration) (from to p : Place)
    → next_open_place drivers c from ≡ Some to
    → first_message (after_leaving drivers c from).flow to ≡ first_message c.flow to
    → turned_by_move drivers c from p ≡ true
    → (same_place from p ≡ true) ⊎ ((same_place to p ≡ true) × (is_some (first_message c.flow to) ≡ false))
turned_ends drivers c from to p e stays t = grind arith

-- the places that a move turns, given the place that the message reaches
pub turned_is : (drivers : List DriverSpec) (c new : Configuration) (from to : Place)
    → next_open_place drivers c from ≡ Some to
    → TurnsOnly drivers c new (either (same_place from) (is_first_at (after_leaving drivers c from) to))
    → TurnsOnly drivers c new (turned_by_move drivers c from)
turned_is drivers c new from to e h = grind arith

-- ---- what holds of an accepted outcome

-- a property that follows from three others holds of an accepted result, if the three do
pub of_three : {X : Type 0} {P Q S R : X → Type 0} (r : Result X Fault) → IfOk r P → IfOk r Q → IfOk r S
    → ((x : X) → r ≡ Ok x → P x → Q x → S x → R x) → IfOk r R
of_three (Ok x) p q s f = f x refl p q s
of_three (Err e) p q s f = tt

-- a property of a result, if it is accepted, is a property of this accepted result
pub of_accepted : {X : Type 0} (P : X → Type 0) (r : Result X Fault) (x : X) → r ≡ Ok x → IfOk r P → P x
of_accepted P (Ok y) x e h = subst P (accepted y x e) h
of_accepted P (Err g) x e h = absurd cc

-- ---- after a command that was performed

-- after an accepted command the marks are right, if all places that it may turn or free were woken
enough : (drivers : List DriverSpec) (c : Configuration) (process : ℕ) (k : Command) (m n : Marks) → IsSound drivers c
    → HaveFullPlacesMessages c → AreMarks drivers c m → IfOk (outcome drivers c process k) (λ x.
    IsWoken drivers x.0 (turned_under x.0 (wakes_of drivers c process k))
    (freed_under x.1 (wakes_of drivers c process k)) m n → AreMarks drivers x.0 n)
enough drivers c process k m n sound filled marks = of_three (outcome drivers c process k)
    (few_freed drivers c process k sound) (outcomes_turn drivers c process k sound)
    (undropped_if drivers c process k sound.serials filled)
    (λ x accepted frees_few turns_only none_freed woken.
    let f = frees_among drivers c process k x frees_few none_freed in
    marks_after drivers c x.0 (turned_under x.0 (wakes_of drivers c process k)) f.freed
    (freed_under x.1 (wakes_of drivers c process k)) m n marks
    (record {
      frees = f.among;
      turns_only = turns_few drivers c process k x sound.swept accepted turns_only;
      frees_only = f.only;
    }) woken)

-- the same for a command that the test says was accepted; its reply may be written to any place
pub woken_if : (old new : Machine) (process : ℕ) (k : Command) (answer : Result (Unit {0}) StepError) (r : Reply)
    (w : Wakes) (m n : Marks) → is_ok answer ≡ true → Refines old new process k (answer_of answer r)
    → w ≡ wakes_of old.drivers old.configuration process k → IsSound old.drivers old.configuration
    → HaveFullPlacesMessages old.configuration → AreMarks old.drivers old.configuration m
    → IsWoken new.drivers new.configuration (turned_under new.configuration w) (freed_under r w) m n
    → AreMarks new.drivers new.configuration n
woken_if old new process k (Ok u) r w m n is refines tells sound filled marks woken =
    grind (arith, of_accepted, enough old.drivers old.configuration process k m n sound filled marks)
woken_if old new process k (Err e) r w m n is refines tells sound filled marks woken = grind arith

-- after a command that was performed, the configuration is sound
pub sound_if : (old new : Machine) (process : ℕ) (k : Command) (answer : Result (Unit {0}) StepError) (r : Reply)
    → is_ok answer ≡ true → Refines old new process k (answer_of answer r) → IsSound old.drivers old.configuration
    → IsSound new.drivers new.configuration
sound_if old new process k (Ok u) r is refines sound =
    grind (arith, of_accepted, outcome_sound old.drivers old.configuration process k sound)
sound_if old new process k (Err e) r is refines sound = absurd (false≢true is)

-- after a command that was performed, and the settling after it, the configuration is that of the step
pub stepped : (old mid new : Machine) (process : ℕ) (k : Command) (answer : Result (Unit {0}) StepError) (r : Reply)
    → is_ok answer ≡ true → Refines old mid process k (answer_of answer r)
    → new ≡ record mid { configuration = after_settling mid.drivers mid.configuration }
    → new ≡ record old { configuration = (step old.drivers old.configuration process k).0 }
stepped old mid new process k (Ok u) r is refines settled = grind arith
stepped old mid new process k (Err e) r is refines settled = absurd (false≢true is)

-- if the reply is a fault, the configuration after settling is the one before the command
pub fault_keeps : (old mid new : Machine) (process : ℕ) (k : Command) (result : Result Reply StepError) (r : Reply)
    (f : Fault) → result ≡ Ok r → Refines old mid process k result
    → new ≡ record mid { configuration = after_settling mid.drivers mid.configuration }
    → ((step old.drivers old.configuration process k).1 ≡ reply.Fault f
    → (step old.drivers old.configuration process k).0 ≡ old.configuration)
    → r ≡ reply.Fault f → new ≡ old
fault_keeps old mid new process k result r f is refines settled law fault = grind arith
