-- A full place has messages.
use Rattle.smx_model.proofs.Common.{◌≡◌, ℕ, ◌<◌, Bool, true, false, ◌&&◌, ◌||◌, not, cond, leb, arith, List, [], ◌∷◌}
use Rattle.smx_model.proofs.Common.{length, filter, Ok, Err, None, refl, rules, sym, ap, ◌∙◌, subst, inl, inr}
use Rattle.smx_model.proofs.Common.{slice_get, list_any, and_parts, cases_Bool, false≢true, ltb-true, Command}
use Rattle.smx_model.proofs.Common.{DriverSpec, Link, Message, Place, after_outcome, done_outcome, outcome, step}
use Rattle.smx_model.proofs.Common.{Configuration, QueuedMessage, empty, is_at, queued_before, same_place}
use Rattle.smx_model.proofs.Common.{HaveFullPlacesMessages, with_inserted, without_first, Outcome, after_arrival}
use Rattle.smx_model.proofs.Common.{after_leaving, is_full, queue, without_links, without_queues_at}
use Rattle.std.proofs.Common.{ltb}
use Rattle.smx_model.specs.DriverList.{high_of, low_of}
use Rattle.smx_model.specs.Queues.{bytes_at, bytes_of}
use Rattle.smx_model.proofs.AcceptedLemmas.{of_rows}
use Rattle.smx_model.proofs.OrderLemmas.{queue_elsewhere, same_self}
use Rattle.smx_model.proofs.OutcomeLemmas.{IfAccepted}
use Rattle.smx_model.proofs.QueueLemmas.{emptied_full, emptied_queue, front_is, left_queue, marked_full}
use Rattle.smx_model.proofs.SettledLemmas.{MovesKeep, moved_by, settled_by}
use Rattle.smx_model.proofs.SettlingLemmas.{same_place_is}

-- ---- one place

-- if the place is full, it has messages
pub record IsFilled (p : Place) (c : Configuration) : Type 0 where
  pub some : is_full c p ≡ true → 0 < length (queue c.flow p)

-- after an arrival there is a message
has_arrived : (flow : List QueuedMessage) (h : QueuedMessage)
    → 0 < length (queue (with_inserted queued_before flow h) h.place)
has_arrived [] h = rw (same_self h.place) (omega arith)
has_arrived (k ∷ ks) h = grind (arith, same_self h.place, has_arrived ks h)

-- messages with bytes are not an empty list
some_bytes : (ms : List Message) → 0 < bytes_of ms → 0 < length ms
some_bytes [] h = absurd (omega (arith, h))
some_bytes (m ∷ ms) h = omega arith

-- this holds of a place whose messages and full mark are unchanged
filled_alike : (p : Place) (c d : Configuration) → IsFilled p c → queue d.flow p ≡ queue c.flow p
    → is_full d p ≡ is_full c p → IsFilled p d
filled_alike p c d h q m = record { some = λ e. rw q (h.some (sym m ∙ e)) }

-- this holds of a place if the flow and the full places are unchanged
filled_same : (p : Place) (c d : Configuration) → IsFilled p c → d.flow ≡ c.flow → d.fulls ≡ c.fulls → IsFilled p d
filled_same p c d h e f = grind (arith, filled_alike p c d h)

-- this holds of a place after some places are emptied and nothing else of the queues changes
filled_emptied : (p : Place) (c d : Configuration) (goes : Place → Bool) → IsFilled p c
    → d.flow ≡ filter (λ h. not (goes h.place)) c.flow → d.fulls ≡ filter (λ p. not (goes p)) c.fulls → IsFilled p d
filled_emptied p c d goes h e f = by (goes p) refl where
  queues : queue d.flow p ≡ cond (goes p) [] (queue c.flow p)
  queues = ap (λ (hs : List QueuedMessage). queue hs p) e ∙ emptied_queue c.flow goes p

  marks : is_full d p ≡ cond (goes p) false (is_full c p)
  marks = ap (λ (ps : List Place). list_any (same_place p) ps) f ∙ emptied_full c.fulls goes p

  by : (b : Bool) → goes p ≡ b → IsFilled p d
  by true g = let free : is_full d p ≡ false = rw g at marks in
      record { some = λ t. absurd (false≢true (sym free ∙ t)) }
  by false g =
      let same : queue d.flow p ≡ queue c.flow p = rw g at queues in
      let mark : is_full d p ≡ is_full c p = rw g at marks in
      filled_alike p c d h same mark

-- this holds of a place after links are removed
filled_removed : (p : Place) (c : Configuration) (goes : Link → Bool) → IsFilled p c → IsFilled p (without_links c goes)
filled_removed p c goes h = filled_emptied p c (without_links c goes) _ h refl refl

-- this holds of a place after the sweep
filled_done : (drivers : List DriverSpec) (p : Place) (c d : Configuration) → IsFilled p d
    → IfAccepted (λ d r. IsFilled p d) (done_outcome drivers c d)
filled_done drivers p c d h =
    record { holds = filled_emptied p (without_links d _) _ _ (filled_removed p d _ h) refl refl }

-- this holds of a place after a sweep of the same flow and the same full places
filled_like : (drivers : List DriverSpec) (p : Place) (c d : Configuration) → IsFilled p c → d.flow ≡ c.flow
    → d.fulls ≡ c.fulls → IfAccepted (λ d r. IsFilled p d) (done_outcome drivers c d)
filled_like drivers p c d h e f = filled_done drivers p c d (filled_same p c d h e f)

-- this holds of a place after a message arrives somewhere
filled_arrived : (drivers : List DriverSpec) (p : Place) (c : Configuration) (q : Place) (m : Message) → IsFilled p c
    → IsFilled p (after_arrival drivers c q m)
filled_arrived drivers p c q m h = elim (cases_Bool (same_place q p)) [
  | inl t ↦ subst (λ (x : Place). IsFilled p (after_arrival drivers c x m)) (sym (same_place_is q p t))
      (record { some = λ e. has_arrived c.flow (record { place = p; message = m }) })
  | inr f ↦ filled_alike p c (after_arrival drivers c q m) h
      (queue_elsewhere c.flow (record { place = q; message = m }) p f) (elsewhere f)
] where
  elsewhere : same_place q p ≡ false → is_full (after_arrival drivers c q m) p ≡ is_full c p
  elsewhere f = let e = marked_full q p
      (is_full c q || leb (high_of drivers q.stream.driver)
      (bytes_at (with_inserted queued_before c.flow (record { place = q; message = m })) q)) c.fulls in rw f at e

-- this holds of a place after the first message of some place leaves
filled_left : (drivers : List DriverSpec) (p : Place) (c : Configuration) (q : Place) → IsFilled p c
    → IsFilled p (after_leaving drivers c q)
filled_left drivers p c q h = elim (cases_Bool (same_place q p)) [
  | inl t ↦ subst (λ (x : Place). IsFilled p (after_leaving drivers c x)) (sym (same_place_is q p t)) here
  | inr f ↦ filled_alike p c (after_leaving drivers c q) h (rest f) (elsewhere f)
] where
  rest : same_place q p ≡ false → queue (without_first (is_at q) c.flow) p ≡ queue c.flow p
  rest f = let e = left_queue c.flow q p in rw f at e

  elsewhere : same_place q p ≡ false → is_full (after_leaving drivers c q) p ≡ is_full c p
  elsewhere f = let e = marked_full q p
      (is_full c q && ltb (low_of drivers q.stream.driver) (bytes_at (without_first (is_at q) c.flow) q)) c.fulls in
      rw f at e

  now : List QueuedMessage
  now = without_first (is_at p) c.flow

  mark : is_full (after_leaving drivers c p) p ≡ (is_full c p && ltb (low_of drivers p.stream.driver) (bytes_at now p))
  mark = let e = marked_full p p (is_full c p && ltb (low_of drivers p.stream.driver) (bytes_at now p)) c.fulls in
      rw (same_self p) at e

  here : IsFilled p (after_leaving drivers c p)
  here = record {
    some = λ t. let low = ltb-true (low_of drivers p.stream.driver) (bytes_at now p)
        (and_parts (is_full c p) (ltb (low_of drivers p.stream.driver) (bytes_at now p)) (sym mark ∙ t)).1 in
        some_bytes (queue now p) (omega (arith, low));
  }

-- ---- commands

-- this holds of a place after a message is accepted under the next serial
filled_took : (drivers : List DriverSpec) (p : Place) (c : Configuration) (q : Place) (m : Message) (n : ℕ)
    → IsFilled p c → IsFilled p (record (after_arrival drivers c q m) { next_serial = n })
filled_took drivers p c q m n h = grind (arith, filled_arrived drivers p c q m h)

-- this holds of a place after some places are flushed
filled_flushed : (p : Place) (c : Configuration) (goes : Place → Bool) → IsFilled p c
    → IsFilled p (without_queues_at c goes)
filled_flushed p c goes h = filled_emptied p c (without_queues_at c goes) goes h refl refl

-- this holds of a place after an accepted command
filled_accepted : (drivers : List DriverSpec) (p : Place) (c : Configuration) (process : ℕ) (k : Command)
    → IsFilled p c → IfAccepted (λ d r. IsFilled p d) (outcome drivers c process k)
filled_accepted drivers p c process k h = of_rows _ drivers c process k (search (
  filled_left,
  filled_took,
  filled_like,
  filled_done,
  filled_removed,
  filled_flushed,
  filled_same p c,
  rules,
) depth 24)

-- this holds of a place after each move
filled_moved : (drivers : List DriverSpec) (p : Place) → MovesKeep (IsFilled p) drivers
filled_moved drivers p = record {
  each = λ c q h. moved_by (IsFilled p) drivers c q h
      (λ r m e. filled_arrived drivers p (after_leaving drivers c q) r m (filled_left drivers p c q h));
}

-- this holds of a place after a command
filled_step : (drivers : List DriverSpec) (p : Place) (c : Configuration) (process : ℕ) (k : Command) → IsFilled p c
    → IsFilled p (step drivers c process k).0
filled_step drivers p c process k h = by (outcome drivers c process k) (filled_accepted drivers p c process k h) where
  by : (o : Outcome) → IfAccepted (λ d r. IsFilled p d) o → IsFilled p (after_outcome drivers c o).0
  by (Ok x) m = settled_by (IsFilled p) drivers _ x.0 (filled_moved drivers p) m.holds
  by (Err f) m = h

-- ---- all places

-- a place has a first message exactly if it has messages
some_first : (flow : List QueuedMessage) (p : Place) → (slice_get (queue flow p) 0 ≡ None → ⊥)
    → 0 < length (queue flow p)
some_first flow p h = by (queue flow p) h where
  by : (ms : List Message) → (slice_get ms 0 ≡ None → ⊥) → 0 < length ms
  by [] f = absurd (f refl)
  by (m ∷ ms) f = omega arith

-- the empty configuration has no full places
pub empty_filled : HaveFullPlacesMessages empty
empty_filled p full = absurd (false≢true full)

-- each command preserves this of all places
pub step_filled : (drivers : List DriverSpec) (c : Configuration) (process : ℕ) (k : Command) → HaveFullPlacesMessages c
    → HaveFullPlacesMessages (step drivers c process k).0
step_filled drivers c process k h p full none = by (queue (step drivers c process k).0.flow p)
    ((filled_step drivers p c process k
    (record { some = λ e. some_first c.flow p (λ z. h p e (front_is c.flow p ∙ z)) })).some full)
    (sym (front_is (step drivers c process k).0.flow p) ∙ none) where
      by : (ms : List Message) → 0 < length ms → slice_get ms 0 ≡ None → ⊥
      by [] lt e = omega (arith, lt)
      by (m ∷ ms) lt e = cc
