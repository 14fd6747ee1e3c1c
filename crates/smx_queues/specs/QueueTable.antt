-- The value of the queues of all places, as contracts see it.
use Rattle.std.specs.Prelude.{ℕ, suc, Bool, false, List, [], ◌∷◌, ◌++◌, Option, Some, None, IsSome, drop, nat_lt, ◌&&◌}
use Rattle.std.specs.Prelude.{slice_index_or, slice_set, nat_le, ◌||◌}
use Rattle.smx_types.specs.declared.message.Message.{Message}
use Rattle.smx_model.specs.Queues.{bytes_of}

-- the queue of a place: its messages, in order of arrival, its full mark and its water marks
pub record Queue : Type 0 where
  pub messages : List Message
  pub full : Bool
  pub high : ℕ
  pub low : ℕ

-- for each number, the queue of its place, or `None` if there is no such place; and the number of messages that can
-- arrive without an allocation, which comparisons of tables ignore
pub record QueueTable : Type 0 where
  pub queues : List (Option Queue)
  pub spare : ℕ

-- a queue without messages that is not full
abbrev pub empty_queue : ℕ → ℕ → Queue
empty_queue above below = record { messages = []; full = false; high = above; low = below }

-- there is a place with this number
abbrev pub IsPlace : List (Option Queue) → ℕ → Type 0
IsPlace queues p = IsSome (slice_index_or queues p None)

-- the queue of a place that exists
abbrev pub queue_at : List (Option Queue) → ℕ → Queue
queue_at queues p = queue_in (slice_index_or queues p None) where
  queue_in : Option Queue → Queue
  queue_in (Some q) = q
  queue_in None = empty_queue 0 0

-- the lowest number without a place
abbrev pub least_vacant : List (Option Queue) → ℕ
least_vacant [] = 0
least_vacant (None ∷ rest) = 0
least_vacant (Some q ∷ rest) = suc (least_vacant rest)

-- the queues with one more place, at the lowest free number
abbrev pub with_place : List (Option Queue) → Queue → List (Option Queue)
with_place [] new = Some new ∷ []
with_place (None ∷ rest) new = Some new ∷ rest
with_place (Some q ∷ rest) new = Some q ∷ with_place rest new

-- the queues with another queue at a place
abbrev pub with_queue : List (Option Queue) → ℕ → Queue → List (Option Queue)
with_queue queues p q = slice_set queues p (Some q)

-- the queue with one more message at the end
abbrev pub with_arrival : Queue → Message → Queue
with_arrival q m = now (q.messages ++ m ∷ []) where
  now : List Message → Queue
  now messages = record q { messages = messages; full = q.full || nat_le q.high (bytes_of messages) }

-- the queue without the message at the front
abbrev pub without_front : Queue → Queue
without_front q = now (drop 1 q.messages) where
  now : List Message → Queue
  now messages = record q { messages = messages; full = q.full && nat_lt q.low (bytes_of messages) }

-- the queue without messages, and not full
abbrev pub without_messages : Queue → Queue
without_messages q = record q { messages = []; full = false }
