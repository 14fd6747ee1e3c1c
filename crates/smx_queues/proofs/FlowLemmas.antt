-- The flow and the full places that contracts see, when the queue of one place changes.
use Rattle.std.proofs.Common.{◌≡◌, ◌≢◌, ℕ, suc, ◌+◌, ◌<◌, Bool, true, false, not, List, [], ◌∷◌, ◌++◌, length, drop}
use Rattle.std.proofs.Common.{filter, map, set, get_or, Option, Some, None, IsSome, refl, sym, ap, ◌∙◌, subst, arith}
use Rattle.std.proofs.Common.{inl, inr, length-append, add-one, append_assoc, rules}
use Rattle.std.specs.Prelude.{IfNone, OnSome, slice_get, if◌then◌else◌, nat_lt}
use Rattle.std.specs.List.{AllByRecursion, list_any}
use Rattle.std.specs.Option.{is_some, option_map}
use Rattle.std.proofs.lemmas.Bool.{cases_Bool, cases_eq, ltb-true}
use Rattle.std.proofs.lemmas.List.{get_or-set_same, get_or-set_other, length-map, length-set, map-append}
use Rattle.std.proofs.lemmas.List.Elements.{filter_agree}
use Rattle.std.proofs.lemmas.List.Sums.{sum_by-cons}
use Rattle.std.proofs.lemmas.Option.{get_or_from_slice_get, same_Some, slice_get-map, slice_get_within}
use Rattle.smx_types.specs.declared.driver.DriverSpec.{DriverSpec}
use Rattle.smx_types.specs.declared.message.Message.{Message}
use Rattle.smx_types.specs.declared.stream.Place.{Place}
use Rattle.smx_model.specs.Configuration.{QueuedMessage, is_at, place_before, queued_before, same_place}
use Rattle.smx_model.specs.DriverList.{high_of, low_of}
use Rattle.smx_model.specs.Ordered.{with_inserted, without_first}
use Rattle.smx_model.specs.Queues.{first_message, queue, with_mark}
use Rattle.smx_model.proofs.QueueLemmas.{front_is}
use Rattle.smx_model.proofs.TestLemmas.{any_filter}
use Rattle.smx_queues.specs.FlowTables.{FlowLists, IsFlow, after_arrival, after_leaving, flow_of, fulls_of, lists_of}
use Rattle.smx_queues.specs.FlowTables.{marked_at, queued_at, without_place}
use Rattle.smx_queues.specs.PlaceLists.{new_queues, places_of}
use Rattle.smx_queues.specs.QueueTable.{IsPlace, Queue, QueueTable, empty_queue, queue_at, with_arrival}
use Rattle.smx_queues.specs.QueueTable.{with_queue, without_front, without_messages}
use Rattle.smx_queues.specs.Slots.{is_marked, message_total, messages_in}
use Rattle.smx_queues.proofs.ItemLemmas.{IsSplit, inserted, items_from, kept_absent, kept_parts, no_items}
use Rattle.smx_queues.proofs.ItemLemmas.{removed, split}
use Rattle.smx_queues.proofs.PlaceLemmas.{apart, behind, numbered, place_self, same_turned}
use Rattle.smx_queues.proofs.PlacesOfLemmas.{places_rise}
use Rattle.smx_queues.proofs.QueueTableLemmas.{set_itself}

-- a message that is queued at a place
abbrev placed : Place → Message → QueuedMessage
placed p m = record { place = p; message = m }

-- the messages of a queue are queued at its place
at_place : (p : Place) (q : Option Queue) → AllByRecursion (λ h. h.place ≡ p) (queued_at p q)
at_place p q = by (messages_in q) where
  by : (ms : List Message) → AllByRecursion (λ (h : QueuedMessage). h.place ≡ p) (map (placed p) ms)
  by [] = tt
  by (m ∷ ms) = (refl, by ms)

-- a full place is the place of its queue
mark_at : (p : Place) (q : Option Queue) → AllByRecursion (λ r. r ≡ p) (marked_at p q)
mark_at p q = elim (cases_Bool (is_marked q)) [ inl t ↦ rw t (refl, tt) | inr f ↦ rw f tt ]

-- messages at a place are the same messages
unplaced : (p : Place) (ms : List Message) → map (λ (h : QueuedMessage). h.message) (map (placed p) ms ++ []) ≡ ms
unplaced p [] = refl
unplaced p (m ∷ ms) = ap (λ (ns : List Message). m ∷ ns) (unplaced p ms)

-- a list of messages with this first one is this one and the rest
pub first_then : (ms : List Message) (m : Message) → slice_get ms 0 ≡ Some m → ms ≡ m ∷ drop 1 ms
first_then [] m e = absurd cc
first_then (x ∷ ms) m e = ap (λ (y : Message). y ∷ ms) (same_Some x m e)

-- a list of messages has a first one exactly if its length is more than 0
pub some_first : (ms : List Message) → nat_lt 0 (length ms) ≡ is_some (slice_get ms 0)
some_first [] = refl
some_first (m ∷ ms) = grind arith

-- these queues are those of a table, and contracts see them as these lists, with any number of spare nodes
pub record IsSeenAs (ds : List DriverSpec) (all : List (Option Queue)) (t : FlowLists) : Type 0 where
  pub sound : IsFlow ds all
  pub is : (n : ℕ) → lists_of ds all n ≡ record t { spare = n }

-- ---- a place that the drivers have

module _ (ds : List DriverSpec) (all : List (Option Queue)) (h : IsFlow ds all) (place : Place) (i : ℕ)
    (at : slice_get (places_of ds) i ≡ Some place) where
  below : i < length all
  below = omega (arith, h.many, slice_get_within (places_of ds) i place at)

  -- the number of the place has a queue
  pub place_there : IsPlace all i
  place_there = h.there i below

  -- nothing changes if this queue is set there
  same : set all i (Some (queue_at all i)) ≡ all
  same = set_itself all i place_there

  messages : IsSplit (λ k. k.place) queued_at (places_of ds) all i place
  messages = split (λ k. k.place) queued_at at_place (places_of ds) all i place (places_rise ds) at below

  marks : IsSplit (λ q. q) marked_at (places_of ds) all i place
  marks = split (λ q. q) marked_at mark_at (places_of ds) all i place (places_rise ds) at below

  -- the messages of a queue that is set at the number are those of the place
  queue_set : (q : Queue) → queue (flow_of (places_of ds) (set all i (Some q))) place ≡ q.messages
  queue_set q = ap (map (λ (k : QueuedMessage). k.message))
      (kept_parts (λ k. k.place) queued_at (places_of ds) all i place messages (Some q) (λ r. same_place r place)
      false true (place_self place) (λ r e. apart r place e) (λ r e. behind place r e)) ∙ unplaced place q.messages

  -- the messages at the number are those of the place
  pub queue_is : queue (flow_of (places_of ds) all) place ≡ (queue_at all i).messages
  queue_is = rw same at (queue_set (queue_at all i))

  -- and the first one there is the first one of the place
  pub first_is : slice_get (queue_at all i).messages 0 ≡ first_message (flow_of (places_of ds) all) place
  first_is = ap (λ (ms : List Message). slice_get ms 0) (sym queue_is)
      ∙ sym (front_is (flow_of (places_of ds) all) place)

  -- if the place has a first message, the queue has messages
  pub some_queued : IsSome (first_message (flow_of (places_of ds) all) place) → 0 < length (queue_at all i).messages
  some_queued some = ltb-true 0 _ (some_first (queue_at all i).messages ∙ ap is_some first_is ∙ some)

  -- the queue at the number is full exactly if the place is one of the full places
  pub mark_is : (queue_at all i).full ≡ list_any (same_place place) (fulls_of (places_of ds) all)
  mark_is = sym (rw same at (sym (any_filter (same_place place) (same_place place) _ (λ _ e. e))
      ∙ (ap (list_any (same_place place))
      (kept_parts (λ q. q) marked_at (places_of ds) all i place marks (Some (queue_at all i)) (same_place place)
      false true (place_self place) (λ r e. behind r place e) (λ r e. apart place r e)) ∙ alone (queue_at all i).full)))
    where
      alone : (b : Bool) → list_any (same_place place) ((if b then place ∷ [] else []) ++ []) ≡ b
      alone true = rw (place_self place) refl
      alone false = refl

  -- the other full places
  others : filter (λ q. not (same_place place q)) (fulls_of (places_of ds) all) ≡ marks.front ++ marks.back
  others = rw same at (kept_parts (λ q. q) marked_at (places_of ds) all i place marks (Some (queue_at all i))
      (λ q. not (same_place place q)) true false (ap not (place_self place)) (λ r e. ap not (behind r place e))
      (λ r e. ap not (apart place r e)))

  -- the mark of a queue that is set at the number is the mark of the place
  fulls_set : (q : Queue)
      → fulls_of (places_of ds) (set all i (Some q)) ≡ with_mark place q.full (fulls_of (places_of ds) all)
  fulls_set q = marks.whole (Some q) ∙ by q.full where
    by : (b : Bool) → marks.front ++ ((if b then place ∷ [] else []) ++ marks.back)
        ≡ with_mark place b (fulls_of (places_of ds) all)
    by true = sym (ap (λ (ps : List Place). with_inserted place_before ps place) (others ∙ sym (marks.whole None))
        ∙ inserted (λ q. q) marked_at (places_of ds) all i place marks None place refl)
    by false = sym others

  -- with another queue that has the same water marks, contracts see its messages and its mark
  seen_set : (q : Queue) (t : FlowLists) → q.high ≡ (queue_at all i).high → q.low ≡ (queue_at all i).low
      → ds ≡ t.drivers → flow_of (places_of ds) (set all i (Some q)) ≡ t.flow
      → with_mark place q.full (fulls_of (places_of ds) all) ≡ t.fulls → IsSeenAs ds (set all i (Some q)) t
  seen_set q t high low drivers flow fulls = record {
    sound = record {
      many = length-set all i (Some q) ∙ h.many;
      there = λ j lt. elim (cases_eq j i) [
        | inl e ↦ rw (e, get_or-set_same all i (Some q) None below) refl
        | inr ne ↦ rw (get_or-set_other all i j (Some q) None ne)
            (h.there j (omega (arith, length-set all i (Some q))))
      ];
      marks = λ j p is. elim (cases_eq j i) [
        | inl e ↦
            let was = h.marks i p (rw e at is) in
            rw (e, get_or-set_same all i (Some q) None below) (high ∙ was.0, low ∙ was.1)
        | inr ne ↦ rw (get_or-set_other all i j (Some q) None ne) (h.marks j p is)
      ];
    };
    is = λ n. rw (flow, fulls_set q ∙ fulls, drivers) refl;
  }

  -- if a message arrives at the queue, it arrives at the place
  pub put_is : (n : ℕ) (m : Message)
      → IsSeenAs ds (with_queue all i (with_arrival (queue_at all i) m)) (after_arrival (lists_of ds all n) place m)
  put_is n m =
      let new : Queue = with_arrival (queue_at all i) m in
      let flow : flow_of (places_of ds) (set all i (Some new))
      ≡ with_inserted queued_before (flow_of (places_of ds) all) (placed place m) = messages.whole (Some new)
      ∙ ap (λ (hs : List QueuedMessage). messages.front ++ hs)
      (ap (λ (hs : List QueuedMessage). hs ++ messages.back)
      (map-append (placed place) (queue_at all i).messages (m ∷ []))
      ∙ append_assoc (queued_at place (Some (queue_at all i))) (placed place m ∷ []) messages.back)
      ∙ sym (rw same at (inserted (λ k. k.place) queued_at (places_of ds) all i place messages
      (Some (queue_at all i)) (placed place m) refl)) in
      seen_set new _ refl refl refl flow
      (ap (λ (b : Bool). with_mark place b (fulls_of (places_of ds) all))
      (rw (mark_is, ← flow, queue_set new, (h.marks i place at).0) refl))

  -- if the front leaves the queue, the first message leaves the place
  pub take_is : (n : ℕ) (m : Message) → slice_get (queue_at all i).messages 0 ≡ Some m
      → IsSeenAs ds (with_queue all i (without_front (queue_at all i))) (after_leaving (lists_of ds all n) place)
  take_is n m first =
      let new : Queue = without_front (queue_at all i) in
      let flow : flow_of (places_of ds) (set all i (Some new))
      ≡ without_first (is_at place) (flow_of (places_of ds) all) = messages.whole (Some new)
      ∙ sym (rw same at (removed (λ k. k.place) queued_at (places_of ds) all i place messages
      (Some (queue_at all i)) (placed place m) (queued_at place (Some new))
      (ap (map (placed place)) (first_then (queue_at all i).messages m first)) (place_self place))) in
      seen_set new _ refl refl refl flow
      (ap (λ (b : Bool). with_mark place b (fulls_of (places_of ds) all))
      (rw (mark_is, ← flow, queue_set new, (h.marks i place at).1) refl))

  -- if the queue loses its messages and its mark, the place loses them
  pub drop_is : (n : ℕ)
      → IsSeenAs ds (with_queue all i (without_messages (queue_at all i))) (without_place (lists_of ds all n) place)
  drop_is n =
      let new : Queue = without_messages (queue_at all i) in
      let flow = rw same at (kept_parts (λ k. k.place) queued_at (places_of ds) all i place messages
      (Some (queue_at all i)) (λ r. not (same_place r place)) true false (ap not (place_self place))
      (λ r e. ap not (apart r place e)) (λ r e. ap not (behind place r e))) in
      seen_set new _ refl refl refl (messages.whole (Some new) ∙ sym flow)
      (filter_agree (λ q. not (same_place place q)) (λ q. not (same_place q place))
      (λ q. ap not (same_turned place q)) (fulls_of (places_of ds) all))

  -- from the number on, the flow begins with the messages of the queue that is set there
  flow_from : (q : Queue) → flow_of (drop i (places_of ds)) (drop i (set all i (Some q)))
      ≡ queued_at place (Some q) ++ flow_of (drop (suc i) (places_of ds)) (drop (suc i) all)
  flow_from q = items_from queued_at (places_of ds) all i place (Some q) at below

  -- a walk over the flow meets next the first message of the place, if it has one
  pub leaving_step : (m : Message) (now : List QueuedMessage) → flow_of (drop i (places_of ds)) (drop i all) ≡ now
      → Some m ≡ slice_get (queue_at all i).messages 0 → now ≡ record { place = place; message = m }
      ∷ flow_of (drop i (places_of ds)) (drop i (with_queue all i (without_front (queue_at all i))))
  leaving_step m now seen first = sym seen ∙ rw same at (flow_from (queue_at all i))
      ∙ ap (λ (ms : List Message). map (placed place) ms ++ flow_of (drop (suc i) (places_of ds)) (drop (suc i) all))
      (first_then (queue_at all i).messages m (sym first))
      ∙ ap (λ (hs : List QueuedMessage). placed place m ∷ hs) (sym (flow_from (without_front (queue_at all i))))

  -- otherwise it passes over the place
  pub leaving_skips : (now : List QueuedMessage) → flow_of (drop i (places_of ds)) (drop i all) ≡ now
      → None ≡ slice_get (queue_at all i).messages 0
      → flow_of (drop (i + 1) (places_of ds)) (drop (i + 1) all) ≡ now
  leaving_skips now seen none = rw (add-one i)
      (by (queue_at all i).messages (rw same at (flow_from (queue_at all i))) none)
    where
      rest : List QueuedMessage
      rest = flow_of (drop (suc i) (places_of ds)) (drop (suc i) all)

      by : (ms : List Message) → flow_of (drop i (places_of ds)) (drop i all) ≡ map (placed place) ms ++ rest
          → None ≡ slice_get ms 0 → rest ≡ now
      by [] is e = sym is ∙ seen
      by (m ∷ ms) is e = absurd cc

  -- a walk over the full places meets next the place, if it is full
  pub full_step : (so_far now : List Place) (b : Bool) → (queue_at all i).full ≡ b
      → so_far ++ fulls_of (drop i (places_of ds)) (drop i all) ≡ now
      → so_far ++ ((if b then place ∷ [] else []) ++ fulls_of (drop (i + 1) (places_of ds)) (drop (i + 1) all)) ≡ now
  full_step so_far now b is seen = rw (← is, add-one i)
      (rw (rw same at (items_from marked_at (places_of ds) all i place (Some (queue_at all i)) at below)) at seen)

-- if the front was taken from the queue of a number, where there was one, the first message has left the place
pub taken_by : (ds : List DriverSpec) (old new : QueueTable) (place : Place) (i : ℕ) (o : Option Message)
    → IsFlow ds old.queues → slice_get (places_of ds) i ≡ Some place
    → o ≡ slice_get (queue_at old.queues i).messages 0
    → OnSome o (new.queues ≡ with_queue old.queues i (without_front (queue_at old.queues i))) → IfNone o (new ≡ old)
    → IsFlow ds new.queues × OnSome o (lists_of ds new.queues new.spare
    ≡ record (after_leaving (lists_of ds old.queues old.spare) place) { spare = new.spare })
taken_by ds old new place i None h at first left none = (rw none h, tt)
taken_by ds old new place i (Some m) h at first left none =
    let a = take_is ds old.queues h place i at old.spare m (sym first) in (rw left a.sound, rw left (a.is new.spare))

-- if the front of one number's queue goes to another's, the first message goes from place to place
pub move_is : (ds : List DriverSpec) (all : List (Option Queue)) (n : ℕ) (from to : Place) (i j : ℕ) (m : Message)
    → IsFlow ds all → slice_get (places_of ds) i ≡ Some from → slice_get (places_of ds) j ≡ Some to → i ≢ j
    → slice_get (queue_at all i).messages 0 ≡ Some m
    → IsSeenAs ds (with_queue (with_queue all i (without_front (queue_at all i))) j (with_arrival (queue_at all j) m))
    (after_arrival (after_leaving (lists_of ds all n) from) to m)
move_is ds all n from to i j m h at there differ first =
    let left : List (Option Queue) = with_queue all i (without_front (queue_at all i)) in
    let l = take_is ds all h from i at n m first in
    let same : queue_at left j ≡ queue_at all j =
    rw (get_or-set_other all i j (Some (without_front (queue_at all i))) None (λ e. differ (sym e))) refl in
    subst (λ (t : FlowLists). IsSeenAs ds (with_queue left j (with_arrival (queue_at all j) m)) (after_arrival t to m))
    (l.is n)
    (subst (λ (q : Queue). IsSeenAs ds (with_queue left j (with_arrival q m)) (after_arrival (lists_of ds left n) to m))
    same (put_is ds left l.sound to j there n m))

-- ---- a place that the drivers don't have

module _ (ds : List DriverSpec) (all : List (Option Queue)) (place : Place)
    (absent : list_any (same_place place) (places_of ds) ≡ false) where
  -- it has no messages
  pub queue_none : queue (flow_of (places_of ds) all) place ≡ []
  queue_none = ap (map (λ (k : QueuedMessage). k.message)) (kept_absent (λ k. k.place) queued_at at_place place
      (places_of ds) all (λ r. same_place r place) false absent (λ r e. same_turned r place ∙ e))

  -- so it has no first message
  pub first_none : None ≡ first_message (flow_of (places_of ds) all) place
  first_none = ap (λ (ms : List Message). slice_get ms 0) (sym queue_none)
      ∙ sym (front_is (flow_of (places_of ds) all) place)

  -- it is not full
  pub mark_none : false ≡ list_any (same_place place) (fulls_of (places_of ds) all)
  mark_none = sym (sym (any_filter (same_place place) (same_place place) (fulls_of (places_of ds) all) (λ _ e. e))
      ∙ ap (list_any (same_place place)) (kept_absent (λ q. q) marked_at mark_at place (places_of ds) all
      (same_place place) false absent (λ r e. e)))

  -- there is nothing to leave out
  pub drop_none : (n : ℕ) → lists_of ds all n ≡ without_place (lists_of ds all n) place
  drop_none n = rw (
    kept_absent (λ k. k.place) queued_at at_place place (places_of ds) all (λ r. not (same_place r place)) true absent
        (λ r e. ap not (same_turned r place ∙ e)),
    kept_absent (λ q. q) marked_at mark_at place (places_of ds) all (λ r. not (same_place r place)) true absent
        (λ r e. ap not (same_turned r place ∙ e)),
  ) refl

-- ---- all places

-- new queues are those of a table without messages and marks
pub seen_new : (ds : List DriverSpec) → IsSeenAs ds (new_queues ds (places_of ds))
    (record { drivers = ds; flow = []; fulls = []; spare = 0 })
seen_new ds = record {
  sound = record {
    many = length-map (places_of ds) _;
    there = λ i lt.
        let p = numbered (places_of ds) i (omega (arith, length-map (places_of ds) new)) in rw (slot i p.0 p.1) refl;
    marks = λ i p at. rw (slot i p at) (refl, refl);
  };
  is = λ n. rw (
    no_items queued_at _ (places_of ds) (λ p. refl),
    no_items marked_at _ (places_of ds) (λ p. refl),
  ) refl;
} where
  new : Place → Option Queue
  new p = Some (empty_queue (high_of ds p.stream.driver) (low_of ds p.stream.driver))

  slot : (i : ℕ) (p : Place) → slice_get (places_of ds) i ≡ Some p
      → get_or (new_queues ds (places_of ds)) i None ≡ new p
  slot i p at = get_or_from_slice_get (map new (places_of ds)) i (new p) None
      (slice_get-map new (places_of ds) i ∙ ap (option_map new) at)

-- the flow has as many messages as all queues together
flow_length : (places : List Place) (queues : List (Option Queue)) → length queues ≡ length places
    → length (flow_of places queues) ≡ message_total queues
flow_length [] [] many = refl
flow_length [] (q ∷ queues) many = absurd (omega arith)
flow_length (p ∷ places) [] many = absurd (omega arith)
flow_length (p ∷ places) (q ∷ queues) many =
    search (rules, length-append, length-map, flow_length places queues (omega arith), sum_by-cons)

-- the flow of a table has as many messages as all queues together
pub total_is : (ds : List DriverSpec) (all : List (Option Queue)) → IsFlow ds all
    → message_total all ≡ length (flow_of (places_of ds) all)
total_is ds all h = sym (flow_length (places_of ds) all h.many)
