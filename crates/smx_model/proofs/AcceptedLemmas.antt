-- Properties of every accepted command, by the rows of the command table.
use Rattle.smx_model.proofs.Common.{◌≡◌, ℕ, ◌+◌, Bool, false, ◌&&◌, ◌||◌, not, eqb, leb, List, [], ◌∷◌, ◌++◌, length}
use Rattle.smx_model.proofs.Common.{filter, Some, Ok, refl, rules, list_any, Binding, Command, Which, DriverSpec}
use Rattle.smx_model.proofs.Common.{MAX_LINKS, NUMBER_END, Link, LinkKind, Route, Message, Reply, Descriptor, Place}
use Rattle.smx_model.proofs.Common.{StreamId, outcome, done_outcome, unlink_outcome, with_fd, Configuration}
use Rattle.smx_model.proofs.Common.{bind_before, route_before, minors_of, with_hung, driver_of, stream_of, free_fd}
use Rattle.smx_model.proofs.Common.{free_minor, free_stream, live_stream, mux_stream, leaf_stream, live_leaf, Outcome}
use Rattle.smx_model.proofs.Common.{with_inserted, reaches, is_full, first_message, after_arrival, after_leaving}
use Rattle.smx_model.proofs.Common.{without_queues_at, without_links, is_below, arith}
use Rattle.smx_types.specs.declared.command.Command.TheVariants as command
use Rattle.smx_types.specs.declared.command.Sides.{Sides}
use Rattle.smx_types.specs.declared.command.Which.TheVariants as which
use Rattle.smx_types.specs.declared.reply.Reply.TheVariants as reply
use Rattle.smx_types.specs.declared.stream.Side.TheVariants as side
use Rattle.smx_model.proofs.OutcomeLemmas.{IfAccepted, at_ok, after_ok, after_test, after_some, after_choice}

-- the configuration with one more message at a place, under the next serial
abbrev pub taken : List DriverSpec → Configuration → Place → ℕ → List ℕ → Configuration
taken drivers c p addr bytes =
    record (after_arrival drivers c p (record { serial = c.next_serial; addr = addr; bytes = bytes })) {
      next_serial = c.next_serial + 1;
    }

-- P holds of the outcome of each row of the command table, if none of its refusals applies
pub record OfRows (P : Configuration → Reply → Type 0) (drivers : List DriverSpec) (c : Configuration) (process : ℕ)
    (k : Command) : Type 0 where
  pub clone : (name : List ℕ) (n minor fd : ℕ) → driver_of drivers name ≡ Ok n → free_minor drivers c n ≡ Ok minor
      → free_fd c process ≡ Ok fd
      → P (with_fd c process fd (record { driver = n; minor = minor })) (reply.Fd fd minor)
  pub minor : (name : List ℕ) (n minor fd : ℕ) → driver_of drivers name ≡ Ok n → leb (minors_of drivers n) minor ≡ false
      → free_fd c process ≡ Ok fd
      → P (with_fd c process fd (record { driver = n; minor = minor })) (reply.Fd fd minor)
  pub dup : (old fd : ℕ) (s : StreamId) → stream_of c process old ≡ Ok s → free_fd c process ≡ Ok fd
      → P (with_fd c process fd s) (reply.Fd fd s.minor)
  pub close : (fd : ℕ) → k ≡ command.Close fd → (keep : Descriptor → Bool)
      → IfAccepted P (done_outcome drivers c (record c { fds = filter keep c.fds }))
  pub exit : k ≡ command.CloseAll → (keep : Descriptor → Bool)
      → IfAccepted P (done_outcome drivers c (record c { fds = filter keep c.fds }))
  pub link : (fd arg : ℕ) (upper lower : StreamId) (t : LinkKind) → stream_of c process fd ≡ Ok upper
      → stream_of c process arg ≡ Ok lower → is_below c.links lower ≡ false
      → (eqb lower.driver upper.driver || reaches c.links lower.driver upper.driver) ≡ false
      → (leb MAX_LINKS (length c.links) || leb NUMBER_END c.next_id) ≡ false
      → P
      (record c {
        links = c.links ++ record { id = c.next_id; ctl = upper; lower = lower; kind = t } ∷ [];
        next_id = c.next_id + 1;
      }) (reply.Id c.next_id)
  pub unlink : (fd : ℕ) (w : Which) → k ≡ command.Unlink fd w → (goes : Link → Bool)
      → IfAccepted P (done_outcome drivers c (without_links c goes))
  pub punlink : (fd : ℕ) (w : Which) → k ≡ command.Punlink fd w → (goes : Link → Bool)
      → IfAccepted P (done_outcome drivers c (without_links c goes))
  pub bind : (fd addr : ℕ) (s : StreamId) → mux_stream drivers c process fd ≡ Ok s
      → list_any (λ b. eqb b.driver s.driver && (eqb b.addr addr || eqb b.minor s.minor)) c.binds ≡ false
      → IfAccepted P
      (done_outcome drivers c
      (record c {
        binds = with_inserted bind_before c.binds
            (record { driver = s.driver; addr = addr; minor = s.minor });
      }))
  pub unbind : (fd : ℕ) → k ≡ command.Unbind fd → (keep : Binding → Bool)
      → IfAccepted P (done_outcome drivers c (record c { binds = filter keep c.binds }))
  pub route : (fd addr id : ℕ) → k ≡ command.Route fd addr id → (s : StreamId) → mux_stream drivers c process fd ≡ Ok s
      → not (list_any (λ l. eqb l.id id && eqb l.ctl.driver s.driver) c.links) ≡ false
      → IfAccepted P
      (done_outcome drivers c
      (record c {
        routes = with_inserted route_before
            (filter (λ r. not (eqb r.driver s.driver && eqb r.addr addr)) c.routes)
            (record { driver = s.driver; addr = addr; id = id });
      }))
  pub unroute : (fd addr : ℕ) → k ≡ command.Unroute fd addr → (keep : Route → Bool)
      → IfAccepted P (done_outcome drivers c (record c { routes = filter keep c.routes }))
  pub write : (fd addr : ℕ) (bytes : List ℕ) → k ≡ command.Write fd addr bytes → (s : StreamId)
      → live_stream c process fd ≡ Ok s
      → (is_full c (record { stream = s; side = side.Write }) || leb NUMBER_END c.next_serial) ≡ false
      → P (taken drivers c (record { stream = s; side = side.Write }) addr bytes) (reply.Took c.next_serial)
  pub read : (fd : ℕ) (s : StreamId) (m : Message) → free_stream c process fd ≡ Ok s
      → first_message c.flow (record { stream = s; side = side.Read }) ≡ Some m
      → P (after_leaving drivers c (record { stream = s; side = side.Read })) (reply.Got m.serial m.addr m.bytes)
  pub eof : P c reply.Eof
  pub flush : (fd : ℕ) (w : Sides) → k ≡ command.Flush fd w → (goes : Place → Bool)
      → IfAccepted P (done_outcome drivers c (without_queues_at c goes))
  pub inject : (name : List ℕ) (minor addr : ℕ) (bytes : List ℕ) → k ≡ command.Inject name minor addr bytes
      → (s : StreamId) → live_leaf drivers c name minor ≡ Ok s
      → (is_full c (record { stream = s; side = side.Read }) || leb NUMBER_END c.next_serial) ≡ false
      → P (taken drivers c (record { stream = s; side = side.Read }) addr bytes) (reply.Took c.next_serial)
  pub transmit : (name : List ℕ) (minor : ℕ) (s : StreamId) (m : Message) → live_leaf drivers c name minor ≡ Ok s
      → first_message c.flow (record { stream = s; side = side.Write }) ≡ Some m
      → P (after_leaving drivers c (record { stream = s; side = side.Write })) (reply.Got m.serial m.addr m.bytes)
  pub hangup : (name : List ℕ) (minor : ℕ) → k ≡ command.Hangup name minor → (s : StreamId)
      → leaf_stream drivers c name minor ≡ Ok s
      → IfAccepted P (done_outcome drivers c (record c { hungs = with_hung s c.hungs }))

-- P holds of an unlinking, if it holds after any links are removed and swept
pub unlinked : (P : Configuration → Reply → Type 0) (drivers : List DriverSpec) (c : Configuration) (w : Which)
    (mine : Link → Bool) → ((goes : Link → Bool) → IfAccepted P (done_outcome drivers c (without_links c goes)))
    → IfAccepted P (unlink_outcome drivers c w mine)
unlinked P drivers c which.All mine h = h mine
unlinked P drivers c (which.Id id) mine h = search (after_test, h, rules) depth 12

-- P holds of an accepted command's outcome, if P holds of each row of the command table
pub of_rows : (P : Configuration → Reply → Type 0) (drivers : List DriverSpec) (c : Configuration) (process : ℕ)
    (k : Command) → OfRows P drivers c process k → IfAccepted P (outcome drivers c process k)
of_rows P drivers c process (command.OpenClone name) h = search (after_ok, at_ok, h.clone, rules) depth 20
of_rows P drivers c process (command.OpenMinor name minor) h = grind (arith, after_test, after_ok, at_ok)
of_rows P drivers c process (command.Dup fd) h = search (after_ok, at_ok, h.dup, rules) depth 20
of_rows P drivers c process (command.Close fd) h = search (after_ok, h.close fd refl, rules) depth 20
of_rows P drivers c process command.CloseAll h = h.exit refl _
of_rows P drivers c process (command.Link fd arg) h = search (after_test, after_ok, at_ok, h.link, rules) depth 24
of_rows P drivers c process (command.Plink fd arg) h = search (after_test, after_ok, at_ok, h.link, rules) depth 24
of_rows P drivers c process (command.Unlink fd w) h = grind (arith, after_ok, unlinked, h.unlink fd w refl)
of_rows P drivers c process (command.Punlink fd w) h = search (after_ok, unlinked, h.punlink fd w refl, rules) depth 20
of_rows P drivers c process (command.Bind fd addr) h = search (after_test, after_ok, h.bind, rules) depth 20
of_rows P drivers c process (command.Unbind fd) h = search (after_test, after_ok, h.unbind fd refl, rules) depth 20
of_rows P drivers c process (command.Route fd addr id) h = search (rules, after_test, after_ok, h.route fd addr id refl)
of_rows P drivers c process (command.Unroute fd addr) h = search (rules, after_test, after_ok, h.unroute fd addr refl)
of_rows P drivers c process (command.Write fd addr bytes) h =
    search (after_test, after_ok, at_ok, h.write fd addr bytes refl, rules) depth 20
of_rows P drivers c process (command.Read fd) h = grind (arith, after_choice, after_some, after_ok, at_ok)
of_rows P drivers c process (command.Flush fd w) h = search (after_ok, h.flush fd w refl, rules) depth 20
of_rows P drivers c process (command.Inject name minor addr bytes) h =
    search (after_test, after_ok, at_ok, h.inject name minor addr bytes refl, rules) depth 20
of_rows P drivers c process (command.Transmit name minor) h =
    search (after_some, after_ok, at_ok, h.transmit, rules) depth 20
of_rows P drivers c process (command.Hangup name minor) h = search (after_ok, h.hangup name minor refl, rules) depth 20

-- everything holds of an impossible outcome
pub at_none : (P : Configuration → Reply → Type 0) (o : Outcome) → ⊥ → IfAccepted P o
at_none P o e = absurd e
