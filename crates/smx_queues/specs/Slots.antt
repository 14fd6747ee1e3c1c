-- The slot of a number: the queue of its place, or `None`.
use Rattle.std.specs.Prelude.{ℕ, Bool, false, List, [], length, Option, Some, None}
use Rattle.std.specs.List.{sum_by}
use Rattle.smx_types.specs.declared.message.Message.{Message}
use Rattle.smx_queues.specs.QueueTable.{Queue}

-- the messages of the queue, if there is one
abbrev pub messages_in : Option Queue → List Message
messages_in None = []
messages_in (Some q) = q.messages

-- there is a queue, and it is full
abbrev pub is_marked : Option Queue → Bool
is_marked None = false
is_marked (Some q) = q.full

-- the number of messages of all places in total
abbrev pub message_total : List (Option Queue) → ℕ
message_total queues = sum_by (λ q. length (messages_in q)) queues
