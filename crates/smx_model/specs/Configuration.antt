-- The parts of a configuration, and the order in which each of its lists is kept and shown.
use Rattle.std.specs.Prelude.{ℕ, Bool, ◌&&◌, ◌||◌, ◌==◌, nat_lt, List, []}
use Rattle.smx_types.specs.declared.link.Binding.{Binding}
use Rattle.smx_types.specs.declared.link.Link.{Link}
use Rattle.smx_types.specs.declared.link.Route.{Route}
use Rattle.smx_types.specs.declared.message.Message.{Message}
use Rattle.smx_types.specs.declared.stream.Descriptor.{Descriptor}
use Rattle.smx_types.specs.declared.stream.Place.{Place}
use Rattle.smx_types.specs.declared.stream.Side.{Side}
use Rattle.smx_types.specs.declared.stream.Side.TheVariants as side
use Rattle.smx_types.specs.declared.stream.StreamId.{StreamId}

-- a queued message and its place
pub record QueuedMessage : Type 0 where
  pub place : Place
  pub message : Message

-- descriptors, links, bindings, routes and hung-up streams in the order in which they are shown; the flow is all
-- queued messages, by rising place, and in order of arrival within a place (this project's own)
pub record Configuration : Type 0 where
  pub fds : List Descriptor
  pub links : List Link
  pub next_id : ℕ
  pub binds : List Binding
  pub routes : List Route
  pub flow : List QueuedMessage
  pub fulls : List Place
  pub next_serial : ℕ
  pub hungs : List StreamId

-- nothing is open, and the next id and the next serial are 1
abbrev pub empty : Configuration
empty = record {
  fds = [];
  links = [];
  next_id = 1;
  binds = [];
  routes = [];
  flow = [];
  fulls = [];
  next_serial = 1;
  hungs = [];
}

-- both have the same driver and minor
abbrev pub same_stream : StreamId → StreamId → Bool
same_stream s t = (s.driver == t.driver) && (s.minor == t.minor)

-- the write side comes first
abbrev pub side_number : Side → ℕ
side_number side.Write = 0
side_number side.Read = 1

-- the write side of a stream, as a place
abbrev pub write_side : StreamId → Place
write_side s = record { stream = s; side = side.Write }

-- the read side of a stream, as a place
abbrev pub read_side : StreamId → Place
read_side s = record { stream = s; side = side.Read }

-- both are write sides, or both are read sides
abbrev pub same_side : Side → Side → Bool
same_side s t = side_number s == side_number t

-- both are the same side of the same stream
abbrev pub same_place : Place → Place → Bool
same_place p q = same_stream p.stream q.stream && same_side p.side q.side

-- the message is queued at this place
abbrev pub is_at : Place → QueuedMessage → Bool
is_at p h = same_place h.place p

-- it is the descriptor of the process with this number
abbrev pub is_fd : ℕ → ℕ → Descriptor → Bool
is_fd process fd d = (d.process == process) && (d.fd == fd)

-- pairs of numbers in order: by the first number, then by the second
abbrev pub pair_before : ℕ → ℕ → ℕ → ℕ → Bool
pair_before a b c d = nat_lt a c || ((a == c) && nat_lt b d)

-- by process and number
abbrev pub fd_before : Descriptor → Descriptor → Bool
fd_before d e = pair_before d.process d.fd e.process e.fd

-- by driver and address
abbrev pub bind_before : Binding → Binding → Bool
bind_before b c = pair_before b.driver b.addr c.driver c.addr

-- by driver and address
abbrev pub route_before : Route → Route → Bool
route_before r s = pair_before r.driver r.addr s.driver s.addr

-- by driver and minor
abbrev pub stream_before : StreamId → StreamId → Bool
stream_before s t = pair_before s.driver s.minor t.driver t.minor

-- by stream, and the write side before the read side
abbrev pub place_before : Place → Place → Bool
place_before p q = stream_before p.stream q.stream
    || (same_stream p.stream q.stream && nat_lt (side_number p.side) (side_number q.side))

-- by place
abbrev pub queued_before : QueuedMessage → QueuedMessage → Bool
queued_before h k = place_before h.place k.place
