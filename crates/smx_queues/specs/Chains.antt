-- How the nodes of the store and the chains of the places make the queues. No public clause needs this.
use Rattle.std.specs.Prelude.{◌≡◌, ℕ, zero, suc, ◌+◌, ◌-◌, ◌<◌, ◌≤◌, ◌^◌, ◌==◌, true, false, if◌then◌else◌, List, []}
use Rattle.std.specs.Prelude.{◌∷◌, length, Option, Some, None, slice_index_or, nat_lt, nat_le, ◌&&◌, ◌||◌}
use Rattle.std.specs.List.{All, sum_by}
use Rattle.slab.specs.Slab.{Slab, get, slab_len, with_value}
use Rattle.smx_types.specs.declared.message.Message.{Message}
use Rattle.smx_queues.specs.declared.chain.Chain.{Chain}
use Rattle.smx_queues.specs.declared.chain.Node.{Node}
use Rattle.smx_model.specs.Queues.{bytes_of}
use Rattle.smx_queues.specs.QueueTable.{Queue}

-- the message of a node, and those from the next key on
abbrev pub walk_on : (ℕ → List Message) → Option Node → List Message
walk_on later None = []
walk_on later (Some node) = node.message ∷ later node.next

-- at most n messages, from the node with this key on
abbrev pub walk : Slab Node → ℕ → ℕ → List Message
walk s zero key = []
walk s (suc n) key = walk_on (walk s n) (get s key)

-- the queue that a chain makes
abbrev pub queue_of : Slab Node → Chain → Queue
queue_of s chain = record {
  messages = walk s chain.count chain.first;
  full = chain.full;
  high = chain.high;
  low = chain.low;
}

-- the queue of the chain's place, if the place exists
abbrev pub slot_of : Slab Node → Chain → Option Queue
slot_of s chain = if chain.there then Some (queue_of s chain) else None

-- the chain of a new place without messages
abbrev pub new_chain : ℕ → ℕ → Chain
new_chain above below = record {
  there = true;
  full = false;
  first = 0;
  last = 0;
  count = 0;
  bytes = 0;
  high = above;
  low = below;
}

-- the chain with one more node at the end, whose message has this number of bytes
abbrev pub chain_with_last : Chain → ℕ → ℕ → Chain
chain_with_last chain key size = record {
  there = chain.there;
  full = chain.full || nat_le chain.high (chain.bytes + size);
  first = if chain.count == 0 then key else chain.first;
  last = key;
  count = chain.count + 1;
  bytes = chain.bytes + size;
  high = chain.high;
  low = chain.low;
}

-- the chain without its first node, whose message had this number of bytes; the next node is now the first
abbrev pub chain_without_first : Chain → ℕ → ℕ → Chain
chain_without_first chain next size = record {
  there = chain.there;
  full = chain.full && nat_lt chain.low (chain.bytes - size);
  first = next;
  last = chain.last;
  count = chain.count - 1;
  bytes = chain.bytes - size;
  high = chain.high;
  low = chain.low;
}

-- the store after the node with this key gets this successor
abbrev pub with_next : Slab Node → ℕ → ℕ → Slab Node
with_next s at key = named (get s at) where
  named : Option Node → Slab Node
  named None = s
  named (Some node) = with_value s at (record node { next = key })

-- the store after the last node of a chain, if there is one, gets this successor
abbrev pub with_follower : Slab Node → Chain → ℕ → Slab Node
with_follower s chain key = if chain.count == 0 then s else with_next s chain.last key

-- the nodes of place p from key `first` to key `last` hold these messages. For each of their keys, `own` gives the
-- place and the rank. The rank rises by one from node to node, so no node is in two chains or twice in one
abbrev pub IsChain : (ℕ → ℕ × ℕ) → Slab Node → ℕ → ℕ → ℕ → List Message → ℕ → Type 0
IsChain own s p rank first [] last = Unit {0}
IsChain own s p rank first (m ∷ rest) last =
    (next : ℕ)
    × (get s first ≡ Some (record { message = m; next = next }))
    × (own first ≡ (p, rank))
    × (rest ≡ [] → first ≡ last)
    × IsChain own s p (suc rank) next rest last

-- the message has at least one byte, and fewer than 2 to the 63rd
abbrev pub HasBytesThatFit : Message → Type 0
HasBytesThatFit m = (0 < length m.bytes) × (length m.bytes < 2 ^ 63)

-- the chain's counts and marks are those of these messages
pub record HasMessages (chain : Chain) (messages : List Message) : Type 0 where
  pub count : chain.count ≡ length messages
  pub bytes : chain.bytes ≡ bytes_of messages
  pub have_bytes : All HasBytesThatFit messages
  pub open_below_high : chain.full ≡ false → chain.bytes < chain.high
  pub high_bounded : chain.high ≤ 4096
  pub low_below : chain.low < chain.high
  pub none_if_gone : chain.there ≡ false → messages ≡ []

-- the chain of place p makes a queue with these messages
pub record IsQueue (own : ℕ → ℕ × ℕ) (s : Slab Node) (p : ℕ) (chain : Chain) : Type 0 where
  pub messages : List Message
  pub rank : ℕ
  pub nodes : IsChain own s p rank chain.first messages chain.last
  pub has : HasMessages chain messages

abbrev pub no_chain : Chain
no_chain = new_chain 0 0

-- the chain with this number
abbrev pub chain_at : List Chain → ℕ → Chain
chain_at chains p = slice_index_or chains p no_chain

-- each chain makes a queue; the store has their nodes, and this number of others
pub record IsStore (own : ℕ → ℕ × ℕ) (s : Slab Node) (chains : List Chain) (loose : ℕ) : Type 0 where
  pub each : (p : ℕ) → p < length chains → IsQueue own s p (chain_at chains p)
  pub counted : slab_len s ≡ sum_by (λ (chain : Chain). chain.count) chains + loose

-- each node is in one chain
pub record IsSound (s : Slab Node) (chains : List Chain) : Type 0 where
  pub own : ℕ → ℕ × ℕ
  pub store : IsStore own s chains 0
