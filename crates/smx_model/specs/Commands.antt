-- The command table: for each command its refusals in order, one per line, and its effect if it is accepted.
use Rattle.std.specs.Prelude.{ℕ, ◌+◌, Bool, true, ◌&&◌, ◌||◌, not, ◌==◌, nat_lt, nat_le, if◌then◌else◌, List, [], ◌∷◌}
use Rattle.std.specs.Prelude.{◌++◌, length, filter, Ok, Err}
use Rattle.std.specs.List.{list_any}
use Rattle.std.specs.Option.{is_some, ok_or}
use Rattle.smx_types.specs.declared.command.Command.{Command}
use Rattle.smx_types.specs.declared.command.Command.TheVariants as command
use Rattle.smx_types.specs.declared.command.Sides.{Sides}
use Rattle.smx_types.specs.declared.command.Sides.TheVariants as sides
use Rattle.smx_types.specs.declared.command.Which.{Which}
use Rattle.smx_types.specs.declared.command.Which.TheVariants as which
use Rattle.smx_types.specs.declared.driver.DriverSpec.{DriverSpec}
use Rattle.smx_types.specs.declared.limits.TheConstants.{MAX_LINKS, NUMBER_END}
use Rattle.smx_types.specs.declared.link.Link.{Link}
use Rattle.smx_types.specs.declared.link.LinkKind.{LinkKind}
use Rattle.smx_types.specs.declared.link.LinkKind.TheVariants as kind
use Rattle.smx_types.specs.declared.reply.Fault.TheVariants.{Below, NotMux, AlreadyBelow, Cycle, TooManyLinks, NoLink}
use Rattle.smx_types.specs.declared.reply.Fault.TheVariants.{NoMinor, AddressInUse, Unbound, Unrouted, Full, Empty}
use Rattle.smx_types.specs.declared.reply.Fault.TheVariants.{BadSize, HungUp}
use Rattle.smx_types.specs.declared.reply.Reply.{Reply}
use Rattle.smx_types.specs.declared.reply.Reply.TheVariants as reply
use Rattle.smx_types.specs.declared.stream.Place.{Place}
use Rattle.smx_types.specs.declared.stream.Side.{Side}
use Rattle.smx_types.specs.declared.stream.Side.TheVariants as side
use Rattle.smx_types.specs.declared.stream.StreamId.{StreamId}
use Rattle.smx_model.specs.Configuration.{Configuration, same_stream, same_side, fd_before, bind_before, route_before}
use Rattle.smx_model.specs.Configuration.{is_fd, read_side, write_side}
use Rattle.smx_model.specs.DriverList.{is_mux, minors_of, max_of}
use Rattle.smx_model.specs.Hangups.{is_hung, with_hung}
use Rattle.smx_model.specs.Lookups.{driver_of, stream_of, free_fd, free_minor, free_stream, live_stream, mux_stream}
use Rattle.smx_model.specs.Lookups.{leaf_stream, live_leaf}
use Rattle.smx_model.specs.Ordered.{with_inserted}
use Rattle.smx_model.specs.Outcomes.{Outcome, ◌>>=◌, refuse}
use Rattle.smx_model.specs.Paths.{reaches}
use Rattle.smx_model.specs.Queues.{is_full, first_message, after_arrival, after_leaving}
use Rattle.smx_model.specs.Removal.{without_queues_at, without_links, after_sweep, serials_that_left}
use Rattle.smx_model.specs.Settling.{after_settling}
use Rattle.smx_model.specs.Standing.{is_persistent, is_below}

-- with one more descriptor of the process
abbrev pub with_fd : Configuration → ℕ → ℕ → StreamId → Configuration
with_fd c process fd s =
    record c { fds = with_inserted fd_before c.fds (record { process = process; fd = fd; stream = s }) }

-- `done`: the new configuration is swept, and the reply names the serials that left the flow
abbrev pub done_outcome : List DriverSpec → Configuration → Configuration → Outcome
done_outcome drivers c new =
    let swept : Configuration = after_sweep drivers new in
    Ok (swept, reply.Done (serials_that_left c.flow swept.flow))

-- links the stream of `arg` below the driver of `fd`, under the next id (streamio(7), I_LINK and I_PLINK)
abbrev pub link_outcome : List DriverSpec → Configuration → ℕ → ℕ → ℕ → LinkKind → Outcome
link_outcome drivers c process fd arg k = do
  upper ← stream_of c process fd
  lower ← stream_of c process arg
  above ← refuse Below (is_below c.links upper)
  hung ← refuse HungUp (is_hung c.hungs upper)
  mux ← refuse NotMux (not (is_mux drivers upper.driver))
  free ← refuse AlreadyBelow (is_below c.links lower)
  no_cycle ← refuse Cycle ((lower.driver == upper.driver) || reaches c.links lower.driver upper.driver)
  room ← refuse TooManyLinks (nat_le MAX_LINKS (length c.links) || nat_le NUMBER_END c.next_id)
  Ok (
    record c {
      links = c.links ++ record { id = c.next_id; ctl = upper; lower = lower; kind = k } ∷ [];
      next_id = c.next_id + 1;
    },
    reply.Id c.next_id,
  )

-- removes the link with an id, if `mine` accepts it, or all links that `mine` accepts (streamio(7), I_UNLINK and
-- I_PUNLINK, MUXID_ALL)
abbrev pub unlink_outcome : List DriverSpec → Configuration → Which → (Link → Bool) → Outcome
unlink_outcome drivers c which.All mine = done_outcome drivers c (without_links c mine)
unlink_outcome drivers c (which.Id id) mine = do
  there ← refuse NoLink (not (list_any (λ l. (l.id == id) && mine l) c.links))
  done_outcome drivers c (without_links c (λ l. (l.id == id) && mine l))

-- a message arrives at a place and gets the next serial
abbrev pub send_outcome : List DriverSpec → Configuration → Place → ℕ → List ℕ → Outcome
send_outcome drivers c p addr bytes = do
  size ← refuse BadSize ((length bytes == 0) || nat_lt (max_of drivers p.stream.driver) (length bytes))
  room ← refuse Full (is_full c p || nat_le NUMBER_END c.next_serial)
  Ok (
    record (after_arrival drivers c p (record { serial = c.next_serial; addr = addr; bytes = bytes })) {
      next_serial = c.next_serial + 1;
    },
    reply.Took c.next_serial,
  )

-- delivers the first message of a place
abbrev pub receive_outcome : List DriverSpec → Configuration → Place → Outcome
receive_outcome drivers c p = do
  m ← ok_or (first_message c.flow p) Empty
  Ok (after_leaving drivers c p, reply.Got m.serial m.addr m.bytes)

-- delivers the first message of a stream's read side; without one, reports end of file if the device has hung up
-- (STREAMS guide, M_HANGUP; read(2))
abbrev pub read_outcome : List DriverSpec → Configuration → StreamId → Outcome
read_outcome drivers c s =
    if is_hung c.hungs s && not (is_some (first_message c.flow (read_side s))) then Ok (c, reply.Eof)
    else receive_outcome drivers c (read_side s)

-- the side is one of those that the command names (streamio(7), I_FLUSH)
abbrev pub is_side : Sides → Side → Bool
is_side sides.R s = same_side s side.Read
is_side sides.W s = same_side s side.Write
is_side sides.RW s = true

-- each command: its refusals in order, and its outcome if none applies, before settling
abbrev pub outcome : List DriverSpec → Configuration → ℕ → Command → Outcome
outcome drivers c process (command.OpenClone name) = do
  n ← driver_of drivers name
  minor ← free_minor drivers c n
  fd ← free_fd c process
  Ok (with_fd c process fd (record { driver = n; minor = minor }), reply.Fd fd minor)
outcome drivers c process (command.OpenMinor name minor) = do
  n ← driver_of drivers name
  in_range ← refuse NoMinor (nat_le (minors_of drivers n) minor)
  above ← refuse Below (is_below c.links (record { driver = n; minor = minor }))
  fd ← free_fd c process
  Ok (with_fd c process fd (record { driver = n; minor = minor }), reply.Fd fd minor)
outcome drivers c process (command.Dup fd) = do
  s ← stream_of c process fd
  new ← free_fd c process
  Ok (with_fd c process new s, reply.Fd new s.minor)
outcome drivers c process (command.Close fd) = do
  s ← stream_of c process fd
  done_outcome drivers c (record c { fds = filter (λ d. not (is_fd process fd d)) c.fds })
outcome drivers c process command.CloseAll =
    done_outcome drivers c (record c { fds = filter (λ d. not (d.process == process)) c.fds })
outcome drivers c process (command.Link fd arg) = link_outcome drivers c process fd arg kind.Ordinary
outcome drivers c process (command.Plink fd arg) = link_outcome drivers c process fd arg kind.Persistent
outcome drivers c process (command.Unlink fd w) = do
  s ← mux_stream drivers c process fd
  unlink_outcome drivers c w (λ l. not (is_persistent l) && same_stream l.ctl s)
outcome drivers c process (command.Punlink fd w) = do
  s ← mux_stream drivers c process fd
  unlink_outcome drivers c w (λ l. is_persistent l && (l.ctl.driver == s.driver))
outcome drivers c process (command.Bind fd addr) = do
  s ← mux_stream drivers c process fd
  free ← refuse AddressInUse
      (list_any (λ b. (b.driver == s.driver) && ((b.addr == addr) || (b.minor == s.minor))) c.binds)
  done_outcome drivers c
      (record c {
        binds = with_inserted bind_before c.binds
            (record { driver = s.driver; addr = addr; minor = s.minor });
      })
outcome drivers c process (command.Unbind fd) = do
  s ← mux_stream drivers c process fd
  bound ← refuse Unbound (not (list_any (λ b. (b.driver == s.driver) && (b.minor == s.minor)) c.binds))
  done_outcome drivers c
      (record c { binds = filter (λ b. not ((b.driver == s.driver) && (b.minor == s.minor))) c.binds })
outcome drivers c process (command.Route fd addr id) = do
  s ← mux_stream drivers c process fd
  there ← refuse NoLink (not (list_any (λ l. (l.id == id) && (l.ctl.driver == s.driver)) c.links))
  done_outcome drivers c
      (record c {
        routes = with_inserted route_before
            (filter (λ r. not ((r.driver == s.driver) && (r.addr == addr))) c.routes)
            (record { driver = s.driver; addr = addr; id = id });
      })
outcome drivers c process (command.Unroute fd addr) = do
  s ← mux_stream drivers c process fd
  there ← refuse Unrouted (not (list_any (λ r. (r.driver == s.driver) && (r.addr == addr)) c.routes))
  done_outcome drivers c (record c { routes = filter (λ r. not ((r.driver == s.driver) && (r.addr == addr))) c.routes })
outcome drivers c process (command.Write fd addr bytes) = do
  s ← live_stream c process fd
  send_outcome drivers c (write_side s) addr bytes
outcome drivers c process (command.Read fd) = do
  s ← free_stream c process fd
  read_outcome drivers c s
outcome drivers c process (command.Flush fd w) = do
  s ← live_stream c process fd
  done_outcome drivers c (without_queues_at c (λ p. same_stream p.stream s && is_side w p.side))
outcome drivers c process (command.Inject name minor addr bytes) = do
  s ← live_leaf drivers c name minor
  send_outcome drivers c (read_side s) addr bytes
outcome drivers c process (command.Transmit name minor) = do
  s ← live_leaf drivers c name minor
  receive_outcome drivers c (write_side s)
outcome drivers c process (command.Hangup name minor) = do
  s ← leaf_stream drivers c name minor
  done_outcome drivers c (record c { hungs = with_hung s c.hungs })

-- an accepted outcome is settled; a refusal changes nothing
abbrev pub after_outcome : List DriverSpec → Configuration → Outcome → Configuration × Reply
after_outcome drivers c (Err f) = (c, reply.Fault f)
after_outcome drivers c (Ok x) = (after_settling drivers x.0, x.1)

-- the effect of a command of a process: the new configuration, and the reply
abbrev pub step : List DriverSpec → Configuration → ℕ → Command → Configuration × Reply
step drivers c process command = after_outcome drivers c (outcome drivers c process command)
