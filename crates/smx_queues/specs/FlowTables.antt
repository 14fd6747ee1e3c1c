-- The queued messages and full marks of all places, by place, as contracts see them.
use Rattle.std.specs.Prelude.{◌≡◌, ℕ, ◌&&◌, ◌||◌, not, nat_lt, nat_le, List, [], ◌∷◌, map, filter}
use Rattle.std.specs.Prelude.{◌<◌, if◌then◌else◌, length, Option, Some, slice_get}
use Rattle.std.specs.List.{list_any}
use Rattle.smx_types.specs.declared.driver.DriverSpec.{DriverSpec}
use Rattle.smx_types.specs.declared.message.Message.{Message}
use Rattle.smx_types.specs.declared.stream.Place.{Place}
use Rattle.smx_model.specs.Configuration.{QueuedMessage, is_at, queued_before, same_place}
use Rattle.smx_model.specs.DriverList.{high_of, low_of}
use Rattle.smx_model.specs.Ordered.{with_inserted, without_first}
use Rattle.smx_model.specs.Queues.{bytes_at, with_mark}
use Rattle.smx_queues.specs.PlaceLists.{by_place, places_of}
use Rattle.smx_queues.specs.QueueTable.{IsPlace, Queue, queue_at}
use Rattle.smx_queues.specs.Slots.{is_marked, messages_in}

-- the drivers, and the model's flow and full places over them; and the number of messages that can arrive without an
-- allocation, which comparisons of tables ignore
pub record FlowLists : Type 0 where
  pub drivers : List DriverSpec
  pub flow : List QueuedMessage
  pub fulls : List Place
  pub spare : ℕ

-- the messages of the queue, if there is one, at this place
abbrev pub queued_at : Place → Option Queue → List QueuedMessage
queued_at p q = map (λ m. record { place = p; message = m }) (messages_in q)

-- the message that leaves its place
abbrev pub leaving_message : Place × Message → QueuedMessage
leaving_message m = record { place = m.0; message = m.1 }

-- all messages, by place
abbrev pub flow_of : List Place → List (Option Queue) → List QueuedMessage
flow_of places queues = by_place queued_at places queues

-- the place, if its queue is full
abbrev pub marked_at : Place → Option Queue → List Place
marked_at p q = if is_marked q then p ∷ [] else []

-- the full places
abbrev pub fulls_of : List Place → List (Option Queue) → List Place
fulls_of places queues = by_place marked_at places queues

-- each place has a queue, with the water marks of its driver
pub record IsFlow (drivers : List DriverSpec) (all : List (Option Queue)) : Type 0 where
  pub many : length all ≡ length (places_of drivers)
  pub there : (i : ℕ) → i < length all → IsPlace all i
  pub marks : (i : ℕ) (p : Place) → slice_get (places_of drivers) i ≡ Some p
      → ((queue_at all i).high ≡ high_of drivers p.stream.driver)
      × ((queue_at all i).low ≡ low_of drivers p.stream.driver)

-- the drivers, and the flow and the full places that these queues of their places make
abbrev pub lists_of : List DriverSpec → List (Option Queue) → ℕ → FlowLists
lists_of drivers queues spare = record {
  drivers = drivers;
  flow = flow_of (places_of drivers) queues;
  fulls = fulls_of (places_of drivers) queues;
  spare = spare;
}

-- a message arrives at a place, as in the model
abbrev pub after_arrival : FlowLists → Place → Message → FlowLists
after_arrival t p m = now (with_inserted queued_before t.flow (record { place = p; message = m })) where
  now : List QueuedMessage → FlowLists
  now flow =
      record t {
        flow = flow;
        fulls = with_mark p
            (list_any (same_place p) t.fulls || nat_le (high_of t.drivers p.stream.driver) (bytes_at flow p)) t.fulls;
      }

-- the first message leaves a place, as in the model
abbrev pub after_leaving : FlowLists → Place → FlowLists
after_leaving t p = now (without_first (is_at p) t.flow) where
  now : List QueuedMessage → FlowLists
  now flow =
      record t {
        flow = flow;
        fulls = with_mark p
            (list_any (same_place p) t.fulls && nat_lt (low_of t.drivers p.stream.driver) (bytes_at flow p)) t.fulls;
      }

-- without the messages and the mark of a place
abbrev pub without_place : FlowLists → Place → FlowLists
without_place t p =
    record t { flow = filter (λ h. not (is_at p h)) t.flow; fulls = filter (λ q. not (same_place q p)) t.fulls }
