-- The rows of the queues with messages.
use Rattle.std.specs.Prelude.{ℕ, ◌+◌, ◌-◌, Bool, true, false, ◌&&◌, List, [], ◌∷◌, ◌++◌, Option, nat_eq, nat_lt}
use Rattle.std.specs.Prelude.{if◌then◌else◌}
use Rattle.std.specs.List.{find}
use Rattle.std.specs.Option.{option_map_or}
use Rattle.std.specs.Str.{bytes_eq}
use Rattle.smx_types.specs.declared.driver.DriverSpec.{DriverSpec}
use Rattle.smx_types.specs.declared.stream.Side.{Side}
use Rattle.smx_types.specs.declared.stream.Side.TheVariants as side
use Rattle.smx_types.specs.declared.view.MessageLine.{MessageLine}
use Rattle.smx_draw.specs.Pieces.{shown_length, shown_number}
use Rattle.smx_draw.specs.declared.queues.QueueItem.{QueueItem}
use Rattle.smx_draw.specs.declared.queues.QueueItem.TheVariants.{Bytes, Message, More}
use Rattle.smx_draw.specs.declared.queues.QueueRow.{QueueRow}
use Rattle.smx_draw.specs.declared.queues.TheConstants.{SHOWN}

-- both are the same side of a stream
abbrev pub is_same : Side → Side → Bool
is_same side.Write side.Write = true
is_same side.Read side.Read = true
is_same side.Write side.Read = false
is_same side.Read side.Write = false

-- the first of these messages is in the queue of the message
abbrev pub goes_on : MessageLine → List MessageLine → Bool
goes_on m [] = false
goes_on m (n ∷ ms) = bytes_eq m.driver n.driver && nat_eq m.minor n.minor && is_same m.side n.side

-- the driver with this name
abbrev pub driver_named : List DriverSpec → List ℕ → Option DriverSpec
driver_named drivers name = find (λ d. bytes_eq d.name name) drivers

-- a row of the queue of a message
abbrev pub row : MessageLine → QueueItem → QueueRow
row m item = record { driver = m.driver; minor = m.minor; side = m.side; item = item }

-- the row of a message with this number of others before it in its queue: none after those that are shown
abbrev pub message_rows : ℕ → MessageLine → List QueueRow
message_rows before m =
    if nat_lt before SHOWN
    then row m (Message m.message.serial m.message.addr (shown_length m.message.bytes)) ∷ []
    else []

-- the number of the messages that are not shown, if there are any
abbrev pub more_rows : MessageLine → ℕ → List QueueRow
more_rows last count = if nat_lt SHOWN count then row last (More (count - SHOWN)) ∷ [] else []

-- the other rows of a queue, given its last message, its number of messages and its bytes: these with the water marks
-- of its driver, which are 0 if there is no such driver
abbrev pub end_rows : List DriverSpec → MessageLine → ℕ → ℕ → List QueueRow
end_rows drivers last count bytes =
    more_rows last count
    ++ row last (
    Bytes bytes (option_map_or (λ d. d.high) (driver_named drivers last.driver) 0)
    (option_map_or (λ d. d.low) (driver_named drivers last.driver) 0)
    ) ∷ []

-- the rows of these messages, after so many messages and bytes of the queue of the first
abbrev pub rows_from : List DriverSpec → ℕ → ℕ → List MessageLine → List QueueRow
rows_from drivers count bytes [] = []
rows_from drivers count bytes (m ∷ ms) =
    let more = shown_number (count + 1) in
    let sum = shown_number (bytes + shown_length m.message.bytes) in
    message_rows count m ++ (
    if goes_on m ms then rows_from drivers more sum ms
    else end_rows drivers m more sum ++ rows_from drivers 0 0 ms
    )

-- the rows of messages that are sorted by place
abbrev pub queue_rows : List DriverSpec → List MessageLine → List QueueRow
queue_rows drivers ms = rows_from drivers 0 0 ms
