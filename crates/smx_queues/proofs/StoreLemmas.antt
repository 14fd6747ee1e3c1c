-- The store and the chains of all places, as contracts see them, when one chain changes.
use Rattle.std.proofs.Common.{◌≡◌, ◌≢◌, ℕ, Bool, zero, suc, ◌+◌, ◌<◌, ◌≤◌, ◌-◌, ◌^◌, true, false, List, [], ◌∷◌, ◌++◌}
use Rattle.std.proofs.Common.{length, map, get_or, set, Option, Some, None, is_some, count_by, refl, sym, ap, ◌∙◌, inl}
use Rattle.std.proofs.Common.{inr, arith}
use Rattle.std.specs.List.{All, sum_by}
use Rattle.std.specs.Prelude.{if◌then◌else◌}
use Rattle.std.proofs.lemmas.Bool.{cases_eq, cases_lt, cases_Bool}
use Rattle.std.proofs.lemmas.Bool.Decides.{nat_tests}
use Rattle.std.proofs.lemmas.List.{get_or-map, get_or-set_same, get_or-set_other, get_or_append_left, get_or_push}
use Rattle.std.proofs.lemmas.List.{get_or_default, get_or_past, set_past, length-append, length-map, length-set}
use Rattle.std.proofs.lemmas.List.{map-append, map-set}
use Rattle.std.proofs.lemmas.List.Elements.{All-head, All-nil, All-push, All-tail}
use Rattle.std.proofs.lemmas.List.Sums.{sum_by-set, sum_by_push, sum_by-append, sum_by-cons}
use Rattle.slab.specs.Slab.{Slab, get, slab_len, ContainsKey}
use Rattle.smx_types.specs.declared.message.Message.{Message}
use Rattle.smx_model.specs.Queues.{bytes_of}
use Rattle.smx_queues.specs.declared.chain.Node.{Node}
use Rattle.smx_queues.specs.declared.chain.Chain.{Chain}
use Rattle.smx_queues.specs.QueueTable.{IsPlace, Queue, QueueTable, queue_at, with_arrival, with_queue, without_front}
use Rattle.smx_queues.specs.QueueTable.{without_messages}
use Rattle.smx_queues.specs.Chains.{HasBytesThatFit, HasMessages, IsChain, IsQueue, IsSound, IsStore, chain_at}
use Rattle.smx_queues.specs.Chains.{chain_with_last, chain_without_first, no_chain, slot_of, walk, with_follower}
use Rattle.smx_queues.specs.Slots.{message_total, messages_in}
use Rattle.smx_queues.proofs.ChainLemmas.{chain_more, first_with_is, frame, keys_differ, last_owner, owned, owned-other}
use Rattle.smx_queues.proofs.ChainLemmas.{owned-same, walk_chain}
use Rattle.smx_queues.proofs.FollowLemmas.{followed, node_from}
use Rattle.smx_queues.proofs.QueueTableLemmas.{IsClearing, place_set, set_again}

-- the number of bytes of a message
abbrev pub size : Message → ℕ
size m = length m.bytes

-- the queue of a chain with these messages
abbrev pub as_queue : Chain → List Message → Queue
as_queue chain ms = record { messages = ms; full = chain.full; high = chain.high; low = chain.low }

-- its slot
abbrev pub as_slot : Chain → List Message → Option Queue
as_slot chain ms = if chain.there then Some (as_queue chain ms) else None

-- the slot of a place that exists has its queue
slot_there : (chain : Chain) (ms : List Message) → chain.there ≡ true → as_slot chain ms ≡ Some (as_queue chain ms)
slot_there chain ms there = rw there refl

-- without its first node, a chain makes its queue without the front
front_gone : (chain : Chain) (m : Message) (rest : List Message) (next : ℕ) → chain.bytes - size m ≡ bytes_of rest
    → as_queue (chain_without_first chain next (size m)) rest ≡ without_front (as_queue chain (m ∷ rest))
front_gone chain m rest next left = rw left refl

-- with one more node after its last one, a chain makes its queue after the arrival
one_arrived : (chain : Chain) (m : Message) (ms : List Message) (key : ℕ)
    → chain.bytes + size m ≡ bytes_of (ms ++ m ∷ [])
    → as_queue (chain_with_last chain key (size m)) (ms ++ m ∷ []) ≡ with_arrival (as_queue chain ms) m
one_arrived chain m ms key more = rw more refl

-- ---- the messages of one chain

-- a chain without nodes has no messages
pub has_none : (chain : Chain) → chain.count ≡ 0 → chain.bytes ≡ 0 → chain.high ≤ 4096 → chain.low < chain.high
    → HasMessages chain []
has_none chain count bytes high low = grind (arith, All-nil HasBytesThatFit)

-- without its first node, a chain has the later messages
has_fewer : (chain : Chain) (m : Message) (rest : List Message) (next : ℕ) → HasMessages chain (m ∷ rest)
    → HasMessages (chain_without_first chain next (size m)) rest
has_fewer chain m rest next h =
    grind (arith, sum_by-cons size m rest, All-tail HasBytesThatFit m rest h.have_bytes, nat_tests)

-- with one more node after its last one, a chain has its message too
has_more : (chain : Chain) (ms : List Message) (key : ℕ) (m : Message) → HasMessages chain ms → chain.there ≡ true
    → 0 < size m → size m < 2 ^ 63 → HasMessages (chain_with_last chain key (size m)) (ms ++ m ∷ [])
has_more chain ms key m h there some few = record {
  count = omega (arith, h.count, length-append ms (m ∷ []));
  bytes = omega (arith, h.bytes, sum_by-append size ms (m ∷ []), sum_by-cons size m []);
  have_bytes = All-push HasBytesThatFit ms m h.have_bytes (some, few);
  open_below_high = λ e. grind (arith, nat_tests);
  high_bounded = h.high_bounded;
  low_below = h.low_below;
  none_if_gone = λ gone. absurd (let e = sym there ∙ gone in cc);
}

-- there are at most as many messages as bytes
few_messages : (ms : List Message) → All HasBytesThatFit ms → length ms ≤ bytes_of ms
few_messages [] h = omega arith
few_messages (m ∷ ms) h =
    let have = All-head HasBytesThatFit m ms h in
    omega (arith, have.0, few_messages ms (All-tail HasBytesThatFit m ms h), sum_by-cons size m ms)

-- the chain of a place that is not full has fewer than 4,096 nodes
pub open_count : (chain : Chain) (ms : List Message) → HasMessages chain ms → chain.full ≡ false → chain.count < 4096
open_count chain ms h clear = grind (arith, few_messages ms h.have_bytes, h.open_below_high clear)

-- ---- one chain

-- a walk along a chain meets its messages
pub walked : (own : ℕ → ℕ × ℕ) (s : Slab Node) (p : ℕ) (chain : Chain) (l : IsQueue own s p chain)
    → walk s chain.count chain.first ≡ l.messages
walked own s p chain l = grind (arith, walk_chain own s p l.rank chain.first l.messages chain.last l.nodes)

-- a change that affects no node of a place keeps its queue
abbrev queue_kept : (own own' : ℕ → ℕ × ℕ) (s s' : Slab Node) (p : ℕ) (chain : Chain)
    → ((x r : ℕ) (node : Node) → get s x ≡ Some node → own x ≡ (p, r) → (get s' x ≡ get s x) × (own' x ≡ own x))
    → IsQueue own s p chain → IsQueue own' s' p chain
queue_kept own own' s s' p chain kept l = record {
  messages = l.messages;
  rank = l.rank;
  nodes = frame own own' s s' p l.rank chain.first l.messages chain.last (λ x r node found of _. kept x r node found of)
      l.nodes;
  has = l.has;
}

-- the last node of a chain with nodes is in the store, and belongs to the place
pub last_there : (own : ℕ → ℕ × ℕ) (s : Slab Node) (p : ℕ) (chain : Chain) (l : IsQueue own s p chain)
    → 0 < chain.count → (node : Node) × ((get s chain.last ≡ Some node) × ((r : ℕ) × (own chain.last ≡ (p, r))))
last_there own s p chain l some = by l.messages l.nodes l.has.count
  where
    by : (ms : List Message) → IsChain own s p l.rank chain.first ms chain.last → chain.count ≡ length ms
        → (node : Node) × ((get s chain.last ≡ Some node) × ((r : ℕ) × (own chain.last ≡ (p, r))))
    by [] c count = absurd (omega (arith, count))
    by (m ∷ rest) c count =
        let t = last_owner own s p l.rank chain.first m rest chain.last c in (t.1.0, (t.1.1, (_, t.0)))

-- a chain with nodes has a first node
pub first_there : (own : ℕ → ℕ × ℕ) (s : Slab Node) (p : ℕ) (chain : Chain) (l : IsQueue own s p chain)
    → 0 < chain.count → ContainsKey s chain.first
first_there own s p chain l some = by l.messages l.nodes l.has.count
  where
    by : (ms : List Message) → IsChain own s p l.rank chain.first ms chain.last → chain.count ≡ length ms
        → ContainsKey s chain.first
    by [] c count = absurd (omega (arith, count))
    by (m ∷ rest) c count = rw c.1 refl

-- the first node has the first message of the queue, and the chain goes on from the next node
pub record IsFirst (own : ℕ → ℕ × ℕ) (s : Slab Node) (p : ℕ) (chain : Chain) (l : IsQueue own s p chain)
    (node : Node) : Type 0 where
  pub rest : List Message
  pub was : l.messages ≡ node.message ∷ rest
  pub owner : own chain.first ≡ (p, l.rank)
  pub nodes : IsChain own s p (suc l.rank) node.next rest chain.last
  pub within : size node.message ≤ chain.bytes
  pub some : 0 < size node.message
  pub few : size node.message < 2 ^ 63

-- if a chain has nodes, this is so
pub first_of : (own : ℕ → ℕ × ℕ) (s : Slab Node) (p : ℕ) (chain : Chain) (l : IsQueue own s p chain) (node : Node)
    → 0 < chain.count → get s chain.first ≡ Some node → IsFirst own s p chain l node
first_of own s p chain l node some found = by l.messages refl l.nodes l.has
  where
    by : (ms : List Message) → l.messages ≡ ms → IsChain own s p l.rank chain.first ms chain.last
        → HasMessages chain ms → IsFirst own s p chain l node
    by [] are c h = absurd (omega (arith, h.count))
    by (m ∷ rest) are c h =
        let same : node ≡ node_from m c.0 = cc (found, c.1) in
        let have = All-head HasBytesThatFit m rest h.have_bytes in
        rw same (record {
          rest = rest;
          was = are;
          owner = c.2;
          nodes = c.4;
          within = omega (arith, h.bytes, sum_by-cons size m rest);
          some = have.0;
          few = have.1;
        })

-- ---- all chains

-- if all slots but one are those of another store, all are after this one is set
same_but : (s s' : Slab Node) (chains : List Chain) (p : ℕ) (now : Option Queue)
    → ((i : ℕ) → i < length chains → i ≢ p → slot_of s' (chain_at chains i) ≡ slot_of s (chain_at chains i))
    → set (map (slot_of s') chains) p now ≡ set (map (slot_of s) chains) p now
same_but s s' [] p now each = refl
same_but s s' (c ∷ chains) zero now each = ap (λ (os : List (Option Queue)). now ∷ os)
    (sym (set_past _ (length chains) now (omega (arith, length-map chains (slot_of s'))))
    ∙ same_but s s' chains (length chains) now (λ i lt _. each (suc i) (omega (arith, lt)) (λ e. omega (arith, e)))
    ∙ set_past _ (length chains) now (omega (arith, length-map chains (slot_of s))))
same_but s s' (c ∷ chains) (suc p) now each = rw (each 0 (omega arith) (λ e. omega (arith, e)))
    (ap (λ (os : List (Option Queue)). slot_of s c ∷ os)
    (same_but s s' chains p now (λ i lt ne. each (suc i) (omega (arith, lt)) (λ e. ne (omega (arith, e))))))

-- the store has this number of nodes that are in no chain, and contracts see its chains as these slots
pub record IsNow (own : ℕ → ℕ × ℕ) (s : Slab Node) (chains : List Chain) (loose : ℕ)
    (view : List (Option Queue)) : Type 0 where
  pub store : IsStore own s chains loose
  pub is : map (slot_of s) chains ≡ view

-- if the chain of place p is replaced, and no node of another place changes, contracts see its messages there
pub changed : (own own' : ℕ → ℕ × ℕ) (s s' : Slab Node) (chains : List Chain) (loose loose' p : ℕ) (after : Chain)
    → IsStore own s chains loose → p < length chains
    → ((x i r : ℕ) (node : Node) → get s x ≡ Some node → own x ≡ (i, r) → i < length chains → i ≢ p
    → (get s' x ≡ get s x) × (own' x ≡ own x))
    → (l : IsQueue own' s' p after)
    → slab_len s' + (chain_at chains p).count + loose ≡ slab_len s + after.count + loose'
    → IsNow own' s' (set chains p after) loose' (set (map (slot_of s) chains) p (as_slot after l.messages))
changed own own' s s' chains loose loose' p after st below kept l len = record {
  store = record {
    each = λ i lt. elim (cases_eq i p) [
      | inl e ↦ rw (e, get_or-set_same chains p after no_chain below) l
      | inr ne ↦ rw (get_or-set_other chains p i after no_chain ne)
          (other i (omega (arith, length-set chains p after)) ne)
    ];
    counted = omega (arith, st.counted, len, sum_by-set (λ (chain : Chain). chain.count) chains p after no_chain below);
  };
  is = map-set (slot_of s') chains p after
      ∙ (ap (λ (o : Option Queue). set (map (slot_of s') chains) p o) (ap (as_slot after) (walked own' s' p after l))
      ∙ same_but s s' chains p (as_slot after l.messages) (λ i lt ne. ap (as_slot (chain_at chains i))
      (walked own' s' i (chain_at chains i) (other i lt ne)
      ∙ sym (walked own s i (chain_at chains i) (st.each i lt)))));
} where
  other : (i : ℕ) → i < length chains → i ≢ p → IsQueue own' s' i (chain_at chains i)
  other i lt ne = queue_kept own own' s s' i (chain_at chains i)
      (λ x r node found of. kept x i r node found of lt ne) (st.each i lt)

-- the chains are sound, and contracts see them as these slots
pub record IsSeen (s : Slab Node) (chains : List Chain) (view : List (Option Queue)) : Type 0 where
  pub sound : IsSound s chains
  pub is : map (slot_of s) chains ≡ view

-- this is so where no node is in no chain
pub seen_now : {own : ℕ → ℕ × ℕ} {s : Slab Node} {chains : List Chain} {view : List (Option Queue)}
    → IsNow own s chains 0 view → IsSeen s chains view
seen_now {own} n = record { sound = record { own = own; store = n.store }; is = n.is }

-- two reads at a place's number give the same chain
pub read_twice : (chains : List Chain) (p : ℕ) (x y : Chain) → p < length chains → x ≡ get_or chains p x
    → y ≡ get_or chains p y → y ≡ x
read_twice chains p x y below first second = second ∙ (get_or_default chains p y x below ∙ sym first)

-- the chain that was read at a place's number exists there, and makes the queue that contracts see
pub record IsAt (own : ℕ → ℕ × ℕ) (s : Slab Node) (chains : List Chain) (p : ℕ) (chain : Chain) : Type 0 where
  pub below : p < length chains
  pub there : chain.there ≡ true
  pub read : chain ≡ chain_at chains p
  pub queue : IsQueue own s p chain
  pub seen : queue_at (map (slot_of s) chains) p ≡ as_queue chain queue.messages

-- this is so at the number of each place that contracts see
pub place_at : (own : ℕ → ℕ × ℕ) (s : Slab Node) (chains : List Chain) (loose : ℕ) (st : IsStore own s chains loose)
    (p : ℕ) → IsPlace (map (slot_of s) chains) p → (chain : Chain) → chain ≡ get_or chains p chain
    → IsAt own s chains p chain
place_at own s chains loose st p there chain read = elim (cases_lt p (length chains)) [
  | inl below ↦
      let e : chain ≡ chain_at chains p = read ∙ get_or_default chains p chain no_chain below in
      let l : IsQueue own s p chain = rw e (st.each p below) in
      let slot : get_or (map (slot_of s) chains) p None ≡ slot_of s chain =
      get_or-map (slot_of s) chains p no_chain None below ∙ ap (slot_of s) (sym e) in
      elim (cases_Bool chain.there) [
        | inl t ↦ record {
          below = below;
          there = t;
          read = e;
          queue = l;
          seen = rw (slot, t) (ap (as_queue chain) (walked own s p chain l));
        }
        | inr f ↦ absurd (let some = rw (slot, f) at there in cc)
      ]
  | inr past ↦ absurd (let some = rw (get_or_past (map (slot_of s) chains) p None
      (omega (arith, past, length-map chains (slot_of s)))) at there in cc)
]

-- ---- a message leaves

-- if the first node leaves the chain of a place, whether it stays in the store or not, contracts see that its message
-- has left
pub detached : (own : ℕ → ℕ × ℕ) (s s' : Slab Node) (chains : List Chain) (loose p : ℕ) (chain : Chain) (node : Node)
    → IsStore own s chains 0 → (a : IsAt own s chains p chain) → 0 < chain.count → get s chain.first ≡ Some node
    → ((x : ℕ) → x ≢ chain.first → get s' x ≡ get s x) → slab_len s' + 1 ≡ slab_len s + loose
    → IsNow (owned own chain.first (length chains, 0)) s'
    (set chains p (chain_without_first chain node.next (size node.message))) loose
    (set (map (slot_of s) chains) p (Some (without_front (queue_at (map (slot_of s) chains) p))))
detached own s s' chains loose p chain node st a some found others len =
    let f = first_of own s p chain a.queue node some found in
    let has : HasMessages chain (node.message ∷ f.rest) = rw f.was at a.queue.has in
    let after : Chain = chain_without_first chain node.next (size node.message) in
    let now = changed own (owned own chain.first (length chains, 0)) s s' chains 0 loose p after st a.below
    (λ x i r n at of lt ne.
    let other = keys_differ own x chain.first i p r a.queue.rank of f.owner (λ e _. ne e) in
    (others x other, owned-other own chain.first (length chains, 0) x other))
    (record {
      messages = f.rest;
      rank = suc a.queue.rank;
      nodes = frame own (owned own chain.first (length chains, 0)) s s' p (suc a.queue.rank) node.next f.rest chain.last
          (λ x r n at of above.
          let other = keys_differ own x chain.first p p r a.queue.rank of f.owner (λ _ e. omega (arith, e, above)) in
          (others x other, owned-other own chain.first (length chains, 0) x other)) f.nodes;
      has = has_fewer chain node.message f.rest node.next has;
    })
    (omega (arith, len, some, ap (λ (c : Chain). c.count) a.read)) in
    let left : chain.bytes - size node.message ≡ bytes_of f.rest =
    omega (arith, has.bytes, sum_by-cons size node.message f.rest) in
    let slot : as_slot after f.rest ≡ Some (without_front (queue_at (map (slot_of s) chains) p)) =
    slot_there after f.rest a.there ∙ ap (λ (q : Queue). Some q) (front_gone chain node.message f.rest node.next left
    ∙ sym (ap without_front a.seen ∙ ap (λ (ms : List Message). without_front (as_queue chain ms)) f.was)) in
    record { store = now.store; is = now.is ∙ ap (set (map (slot_of s) chains) p) slot }

-- ---- a message arrives

-- if a node that is in no chain is added at the end of the chain of a place, contracts see that its message has arrived
pub attached : (own : ℕ → ℕ × ℕ) (s s1 : Slab Node) (chains : List Chain) (loose p : ℕ) (chain : Chain) (key : ℕ)
    (node : Node) → IsStore own s chains loose → (a : IsAt own s chains p chain)
    → ((x i r : ℕ) (n : Node) → get s x ≡ Some n → own x ≡ (i, r) → i < length chains → x ≢ key)
    → ((x : ℕ) → x ≢ key → get s1 x ≡ get s x) → get s1 key ≡ Some node → slab_len s1 + loose ≡ slab_len s + 1
    → 0 < size node.message → size node.message < 2 ^ 63
    → IsNow (owned own key (p, a.queue.rank + length a.queue.messages)) (with_follower s1 chain key)
    (set chains p (chain_with_last chain key (size node.message))) 0
    (set (map (slot_of s) chains) p (Some (with_arrival (queue_at (map (slot_of s) chains) p) node.message)))
attached own s s1 chains loose p chain key node st a apart others found len some few =
    let l : IsQueue own s p chain = a.queue in
    let f = followed s1 chain key in
    let after : Chain = chain_with_last chain key (size node.message) in
    let now = changed own own' s s' chains loose 0 p after st a.below
    (λ x i r n at of lt ne.
    let away = apart x i r n at of lt in (
      f.others x (λ left.
          keys_differ own x chain.last i p r _ of (last_there own s p chain l left).1.1.1 (λ e _. ne e))
          ∙ others x away,
      owned-other own key mark x away,
    ))
    (record {
      messages = l.messages ++ node.message ∷ [];
      rank = l.rank;
      nodes = rw (first_with_is chain.count chain.first key l.messages l.has.count) at (
          chain_more own own' s s' p l.rank chain.first l.messages chain.last key node l.nodes
          (λ x r n at of. owned-other own key mark x (apart x p r n at of a.below))
          (f.others key (λ left e.
          let t = last_there own s p chain l left in apart chain.last p _ _ t.1.0 t.1.1.1 a.below (sym e)) ∙ found)
          (owned-same own key mark)
          (λ x r n at of differ. f.others x (λ _. differ) ∙ others x (apart x p r n at of a.below))
          (λ left was at.
          let some : 0 < chain.count = omega (arith, left, l.has.count) in
          let t = last_there own s p chain l some in
          f.changed was some (others chain.last (apart chain.last p _ _ t.1.0 t.1.1.1 a.below) ∙ at)));
      has = has_more chain l.messages key node.message l.has a.there some few;
    })
    (omega (arith, len, f.len, ap (λ (c : Chain). c.count) a.read)) in
    let more : chain.bytes + size node.message ≡ bytes_of (l.messages ++ node.message ∷ []) =
    omega (arith, l.has.bytes, sum_by-append size l.messages (node.message ∷ []), sum_by-cons size node.message []) in
    let slot : as_slot after (l.messages ++ node.message ∷ [])
    ≡ Some (with_arrival (queue_at (map (slot_of s) chains) p) node.message) =
    slot_there after (l.messages ++ node.message ∷ []) a.there
    ∙ ap (λ (q : Queue). Some q) (one_arrived chain node.message l.messages key more
    ∙ sym (ap (λ (q : Queue). with_arrival q node.message) a.seen)) in
    record { store = now.store; is = now.is ∙ ap (set (map (slot_of s) chains) p) slot }
  where
    mark : ℕ × ℕ
    mark = (p, a.queue.rank + length a.queue.messages)

    own' : ℕ → ℕ × ℕ
    own' = owned own key mark

    s' : Slab Node
    s' = with_follower s1 chain key

-- if the first node of one place is added at the end of another one's chain, contracts see that its message moved
pub moved : (s : Slab Node) (chains : List Chain) (sound : IsSound s chains) (from to : ℕ) (source target : Chain)
    (node : Node) → IsAt sound.own s chains from source → IsPlace (map (slot_of s) chains) to
    → target ≡ get_or chains to target → from ≢ to → 0 < source.count → get s source.first ≡ Some node
    → IsSeen (with_follower s target source.first)
    (set (set chains from (chain_without_first source node.next (size node.message))) to
    (chain_with_last target source.first (size node.message)))
    (set (set (map (slot_of s) chains) from (Some (without_front (queue_at (map (slot_of s) chains) from)))) to
    (Some (with_arrival (queue_at (map (slot_of s) chains) to) node.message)))
moved s chains sound from to source target node a to_there read differ some found =
    let view : List (Option Queue) = map (slot_of s) chains in
    let f = first_of sound.own s from source a.queue node some found in
    let key : ℕ = source.first in
    let after : Chain = chain_without_first source node.next (size node.message) in
    let gone : Option Queue = Some (without_front (queue_at view from)) in
    let turned : to ≢ from = λ e. differ (sym e) in
    let d = detached sound.own s s chains 1 from source node sound.store a some found (λ x _. refl) refl in
    let same : get_or (map (slot_of s) (set chains from after)) to None ≡ get_or view to None =
    ap (λ (v : List (Option Queue)). get_or v to None) d.is ∙ get_or-set_other view from to gone None turned in
    let b = place_at (owned sound.own key (length chains, 0)) s (set chains from after) 1 d.store to
    (rw same to_there) target (read ∙ sym (get_or-set_other chains from to after target turned)) in
    let t = seen_now (attached (owned sound.own key (length chains, 0)) s s (set chains from after) 1 to target key node
    d.store b
    (λ x i r n at of lt.
    keys_differ (owned sound.own key (length chains, 0)) x key i (length chains) r 0 of
    (owned-same sound.own key (length chains, 0)) (λ e _. omega (arith, e, lt, length-set chains from after)))
    (λ x _. refl) found refl f.some f.few) in
    record { sound = t.sound; is = t.is ∙ rw (same, d.is) refl }

-- ---- a chain without nodes

-- if a chain without nodes replaces another one, contracts see its queue there
pub reset : (s : Slab Node) (chains : List Chain) (sound : IsSound s chains) (p : ℕ) (after : Chain) → p < length chains
    → (chain_at chains p).count ≡ 0 → HasMessages after []
    → IsNow sound.own s (set chains p after) 0 (set (map (slot_of s) chains) p (as_slot after []))
reset s chains sound p after below none has =
    changed sound.own sound.own s s chains 0 0 p after sound.store below (λ x i r node at of lt ne. (refl, refl))
    (record { messages = []; rank = 0; nodes = tt; has = has }) (omega (arith, none, has.count))

-- if the chain of a place without messages gets another mark, or is marked as gone, contracts see its queue there
pub remarked : (s : Slab Node) (chains : List Chain) (sound : IsSound s chains) (p : ℕ)
    → IsPlace (map (slot_of s) chains) p → (queue_at (map (slot_of s) chains) p).messages ≡ [] → (chain : Chain)
    → chain ≡ get_or chains p chain → (exists marked : Bool)
    → IsSeen s (set chains p (record chain { there = exists; full = marked }))
    (set (map (slot_of s) chains) p
    (if exists then Some (record (queue_at (map (slot_of s) chains) p) { messages = []; full = marked }) else None))
remarked s chains sound p there none chain read exists marked =
    let a = place_at sound.own s chains 0 sound.store p there chain read in
    let has : HasMessages chain [] = rw (ap (λ (q : Queue). q.messages) (sym a.seen) ∙ none) at a.queue.has in
    let count : (chain_at chains p).count ≡ 0 = ap (λ (c : Chain). c.count) (sym a.read) ∙ has.count in
    let n = reset s chains sound p (record chain { there = exists; full = marked }) a.below count
    (has_none _ has.count has.bytes has.high_bounded has.low_below) in
    seen_now (record { store = n.store; is = n.is ∙ rw a.seen refl })

-- if a place has no messages left and loses its full mark, contracts see it cleared
pub unmarked : (s : Slab Node) (chains : List Chain) (sound : IsSound s chains) (old now : QueueTable) (p : ℕ)
    → IsClearing old now p → map (slot_of s) chains ≡ now.queues → (queue_at now.queues p).messages ≡ []
    → (chain : Chain) → chain ≡ get_or chains p chain
    → IsSeen s (set chains p (record chain { full = false }))
    (with_queue old.queues p (without_messages (queue_at old.queues p)))
unmarked s chains sound old now p c same none chain read =
    let is : IsPlace (map (slot_of s) chains) p = rw same c.there in
    let empty : (queue_at (map (slot_of s) chains) p).messages ≡ [] = rw same none in
    let there = (place_at sound.own s chains 0 sound.store p is chain read).there in
    let seen = remarked s chains sound p is empty chain read true false in
    rw (← c.cleared, ← same) (rw there seen)

-- if a cleared place goes, contracts see no place there
pub dropped : (s : Slab Node) (chains : List Chain) (sound : IsSound s chains) (old : List (Option Queue)) (p : ℕ)
    → IsPlace old p → map (slot_of s) chains ≡ with_queue old p (without_messages (queue_at old p)) → (chain : Chain)
    → chain ≡ get_or chains p chain → IsSeen s (set chains p (record chain { there = false })) (set old p None)
dropped s chains sound old p there same chain read =
    let q = without_messages (queue_at old p) in
    let after = place_set old p q there in
    let is : IsPlace (map (slot_of s) chains) p = rw same after.0 in
    let empty : (queue_at (map (slot_of s) chains) p).messages ≡ [] = rw same (ap (λ (x : Queue). x.messages) after.1) in
    let seen = remarked s chains sound p is empty chain read false chain.full in
    rw (← set_again old p (Some q) None, ← same) seen

-- if a chain without nodes gets the number of a place that has gone, contracts see its queue there
pub again : (s : Slab Node) (chains : List Chain) (sound : IsSound s chains) (p : ℕ) (after : Chain) → p < length chains
    → (chain_at chains p).there ≡ false → HasMessages after []
    → IsNow sound.own s (set chains p after) 0 (set (map (slot_of s) chains) p (as_slot after []))
again s chains sound p after below gone has = grind (arith, reset s chains sound p after below)

-- if a chain without nodes is added after all others, contracts see its queue after the others
pub pushed : (s : Slab Node) (chains : List Chain) (sound : IsSound s chains) (after : Chain) → HasMessages after []
    → IsNow sound.own s (chains ++ after ∷ []) 0 (map (slot_of s) chains ++ as_slot after [] ∷ [])
pushed s chains sound after has =
    grind (arith, get_or_append_left, length-append, get_or_push, sum_by_push, map-append, walked)

-- ---- all chains, unchanged

-- a store with the same slots and another capacity has the same chains and queues
pub grown : (s s' : Slab Node) (chains : List Chain) → s'.slots ≡ s.slots → (sound : IsSound s chains)
    → IsNow sound.own s' chains 0 (map (slot_of s) chains)
grown s s' chains same sound = record {
  store = record {
    each = each;
    counted = ap (λ (slots : List (Option Node)). count_by is_some slots) same ∙ sound.store.counted;
  };
  is = sym (set_past _ (length chains) None (omega (arith, length-map chains (slot_of s'))))
      ∙ same_but s s' chains (length chains) None (λ i lt _. ap (as_slot (chain_at chains i))
      (walked sound.own s' i (chain_at chains i) (each i lt)
      ∙ sym (walked sound.own s i (chain_at chains i) (sound.store.each i lt))))
      ∙ set_past _ (length chains) None (omega (arith, length-map chains (slot_of s)));
} where
  each : (i : ℕ) → i < length chains → IsQueue sound.own s' i (chain_at chains i)
  each i lt = queue_kept sound.own sound.own s s' i (chain_at chains i)
      (λ x r node found of. (ap (λ (slots : List (Option Node)). get_or slots x None) same, refl))
      (sound.store.each i lt)

-- the store has as many nodes as all places have messages
pub total_is : (s : Slab Node) (chains : List Chain) → IsSound s chains
    → slab_len s ≡ message_total (map (slot_of s) chains)
total_is s chains sound = sound.store.counted ∙ omega (arith, sums chains (λ p lt. counted p (sound.store.each p lt)))
  where
    counted : (p : ℕ) {chain : Chain} → IsQueue sound.own s p chain
        → chain.count ≡ length (messages_in (slot_of s chain))
    counted p {chain} l = elim (cases_Bool chain.there) [
      | inl t ↦ rw t (l.has.count ∙ ap (λ (ms : List Message). length ms) (sym (walked sound.own s p chain l)))
      | inr f ↦ rw f (l.has.count ∙ ap (λ (ms : List Message). length ms) (l.has.none_if_gone f))
    ]

    sums : (cs : List Chain)
        → ((p : ℕ) → p < length cs → (chain_at cs p).count ≡ length (messages_in (slot_of s (chain_at cs p))))
        → sum_by (λ (c : Chain). c.count) cs ≡ message_total (map (slot_of s) cs)
    sums [] each = refl
    sums (c ∷ cs) each = omega (
      arith,
      sum_by-cons (λ (x : Chain). x.count) c cs,
      sum_by-cons (λ (x : Option Queue). length (messages_in x)) (slot_of s c) (map (slot_of s) cs),
      each 0 (omega arith),
      sums cs (λ p lt. each (suc p) (omega (arith, lt))),
    )
