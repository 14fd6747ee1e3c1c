-- The messages queued at a place, and when its queue is full.
use Rattle.std.specs.Prelude.{ℕ, Bool, ◌&&◌, ◌||◌, not, nat_lt, nat_le, if◌then◌else◌, List, length, map, filter, find}
use Rattle.std.specs.Prelude.{Option}
use Rattle.std.specs.List.{list_any, sum_by}
use Rattle.std.specs.Option.{option_map}
use Rattle.smx_types.specs.declared.driver.DriverSpec.{DriverSpec}
use Rattle.smx_types.specs.declared.message.Message.{Message}
use Rattle.smx_types.specs.declared.stream.Place.{Place}
use Rattle.smx_model.specs.Configuration.{Configuration, QueuedMessage, same_place, is_at, queued_before, place_before}
use Rattle.smx_model.specs.DriverList.{high_of, low_of}
use Rattle.smx_model.specs.Ordered.{with_inserted, without_first}

-- the messages of the flow at a place, in order of arrival
abbrev pub queue : List QueuedMessage → Place → List Message
queue flow p = map (λ h. h.message) (filter (is_at p) flow)

-- the total number of bytes of some messages
abbrev pub bytes_of : List Message → ℕ
bytes_of messages = sum_by (λ m. length m.bytes) messages

-- the total number of bytes of the messages at a place
abbrev pub bytes_at : List QueuedMessage → Place → ℕ
bytes_at flow p = bytes_of (queue flow p)

-- the first message at a place
abbrev pub first_message : List QueuedMessage → Place → Option Message
first_message flow p = option_map (λ h. h.message) (find (is_at p) flow)

-- the place is marked as full
abbrev pub is_full : Configuration → Place → Bool
is_full c p = list_any (same_place p) c.fulls

-- the list with the place marked as full, or not
abbrev pub with_mark : Place → Bool → List Place → List Place
with_mark p full fulls =
    let others : List Place = filter (λ q. not (same_place p q)) fulls in
    if full then with_inserted place_before others p else others

-- A message arrives at a place. The place is then full if it was full before, or if its bytes now reach its high water
-- mark (STREAMS guide, flow control; the exact rule is specific to this project).
abbrev pub after_arrival : List DriverSpec → Configuration → Place → Message → Configuration
after_arrival drivers c p m =
    let flow : List QueuedMessage = with_inserted queued_before c.flow (record { place = p; message = m }) in
    let full : Bool = is_full c p || nat_le (high_of drivers p.stream.driver) (bytes_at flow p) in
    record c { flow = flow; fulls = with_mark p full c.fulls }

-- The first message leaves a place. The place is then full if it was full before, and still has more bytes than its low
-- water mark (STREAMS guide, flow control; the exact rule is specific to this project).
abbrev pub after_leaving : List DriverSpec → Configuration → Place → Configuration
after_leaving drivers c p =
    let flow : List QueuedMessage = without_first (is_at p) c.flow in
    let full : Bool = is_full c p && nat_lt (low_of drivers p.stream.driver) (bytes_at flow p) in
    record c { flow = flow; fulls = with_mark p full c.fulls }
