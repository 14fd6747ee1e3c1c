-- Queued messages that are left to be written. No public clause needs this.
use Rattle.std.specs.Prelude.{◌≡◌, ℕ, Bool, true, false, ◌&&◌, ◌==◌, if◌then◌else◌, List, [], ◌∷◌, ◌++◌, map}
use Rattle.std.specs.List.{AllByRecursion, filter_map, list_any}
use Rattle.std.specs.Str.{bytes_eq}
use Rattle.smx_types.specs.declared.driver.DriverSpec.{DriverSpec}
use Rattle.smx_types.specs.declared.stream.Place.{Place}
use Rattle.smx_types.specs.declared.stream.Side.{Side}
use Rattle.smx_types.specs.declared.view.MessageLine.{MessageLine}
use Rattle.smx_model.specs.Configuration.{Configuration, QueuedMessage, is_at, same_side}
use Rattle.smx_model.specs.FlowOrder.{IsInOrder}
use Rattle.smx_model.specs.KnownStreams.{IsKnown}
use Rattle.smx_model.specs.Views.{view_of_message}
use Rattle.smx_model.specs.Waits.{places_in, wait_at}
use Rattle.smx_trace.specs.TraceWords.{waits_text}
use Rattle.smx_trace.specs.Traces.{TraceLine, queue_lines, trace_lines_text, wait_line}

-- the lines begin with one of the same place
abbrev pub begins_with_place : List MessageLine → MessageLine → Bool
begins_with_place [] line = false
begins_with_place (n ∷ ns) line =
    bytes_eq n.driver line.driver && ((n.minor == line.minor) && same_side n.side line.side)

-- a side of the stream with these numbers
abbrev pub place_with : ℕ → ℕ → Side → Place
place_with driver minor which = record { stream = record { driver = driver; minor = minor }; side = which }

-- in order of places, and in streams that the drivers have
pub record AreQueued (drivers : List DriverSpec) (hs : List QueuedMessage) : Type 0 where
  pub ordered : IsInOrder hs
  pub known : AllByRecursion (λ h. IsKnown drivers h.place.stream) hs

-- the wait below a message, before these messages: it is the last of its queue, or has none
abbrev pub wait_below : List DriverSpec → Configuration → QueuedMessage → List QueuedMessage → List TraceLine
wait_below drivers c h hs = if list_any (is_at h.place) hs then [] else wait_line drivers c h.place

-- the text of the waits of these messages, with the messages or without them
abbrev pub queues_left : Bool → List DriverSpec → Configuration → List QueuedMessage → List ℕ
queues_left true drivers c hs = trace_lines_text drivers (queue_lines drivers c hs)
queues_left false drivers c hs = waits_text drivers (filter_map (wait_at drivers c) (places_in hs))

-- the text up to now and the text of the rest are together the whole text
pub record IsLeft (drivers : List DriverSpec) (flow : List QueuedMessage) (text : List QueuedMessage → List ℕ)
    (start out : List ℕ) (rest : List MessageLine) : Type 0 where
  pub left : List QueuedMessage
  pub shown : rest ≡ map (view_of_message drivers) left
  pub queued : AreQueued drivers left
  pub written : out ++ text left ≡ start ++ text flow
