-- The queues of a flow, and their waits.
use Rattle.smx_trace.proofs.Common.{Bool, true, false, ◌||◌, not, Option, Some, None, refl, sym, ap, ◌∙◌, arith, inl}
use Rattle.smx_trace.proofs.Common.{inr, AllByRecursion, list_any, cases_Bool, or_parts, nat_tests, DriverSpec, Place}
use Rattle.smx_trace.proofs.Common.{Configuration, QueuedMessage, is_at, Wait, wait_at, waits}
use Rattle.std.proofs.Common.{◌≡◌, List, [], ◌∷◌, map}
use Rattle.std.specs.List.{filter_map}
use Rattle.std.specs.Option.{is_some, option_map}
use Rattle.std.specs.Prelude.{find}
use Rattle.smx_types.specs.declared.message.Message.{Message}
use Rattle.smx_model.specs.Configuration.{same_place}
use Rattle.smx_model.specs.Ordered.{AllLater}
use Rattle.smx_model.specs.Queues.{first_message}
use Rattle.smx_model.specs.Settling.{IsSettled, is_movable, next_place}
use Rattle.smx_model.specs.Waits.{places_in, reason_at}
use Rattle.smx_model.proofs.EachLemmas.{each_map}
use Rattle.smx_trace.proofs.QueueLemmas.{moves_by, reason_or_opens, settled_reason, wait_is}

-- the sameness of places has no direction
same_turned : (p q : Place) → same_place p q ≡ same_place q p
same_turned p q = grind (arith, nat_tests)

-- places that are the same as one another are the same as the same places
same_at : (p q r : Place) → same_place p q ≡ true → same_place r p ≡ same_place r q
same_at p q r h = grind (arith, nat_tests)

-- a place is the same as itself
same_self : (p : Place) → same_place p p ≡ true
same_self p = grind (arith, nat_tests)

-- at the same place there are the same messages
any_same : (p q : Place) (hs : List QueuedMessage) → same_place p q ≡ true
    → list_any (is_at p) hs ≡ list_any (is_at q) hs
any_same p q [] e = refl
any_same p q (h ∷ hs) e = rw (same_at p q h.place e, any_same p q hs e) refl

-- a place without messages is not among the places
not_listed : (p : Place) (hs : List QueuedMessage) → list_any (is_at p) hs ≡ false
    → AllByRecursion (λ q. same_place p q ≡ false) (places_in hs)
not_listed p [] e = tt
not_listed p (h ∷ hs) e =
    let parts : (is_at p h ≡ false) × (list_any (is_at p) hs ≡ false) =
    or_parts (is_at p h) (list_any (is_at p) hs) e in
    let rest = not_listed p hs parts.1 in
    elim (cases_Bool (list_any (is_at h.place) hs))
    [ inl t ↦ rw t rest | inr f ↦ rw f (same_turned p h.place ∙ parts.0, rest) ]

-- each place once
pub places_once : (hs : List QueuedMessage) → AllLater (λ p q. same_place p q ≡ false) (places_in hs)
places_once [] = tt
places_once (h ∷ hs) = let rest = places_once hs in elim (cases_Bool (list_any (is_at h.place) hs))
    [ inl t ↦ rw t rest | inr f ↦ rw f (not_listed h.place hs f, rest) ]

-- one more message at a place with later ones
same_as_later : (p : Place) (h : QueuedMessage) (hs : List QueuedMessage) → list_any (is_at h.place) hs ≡ true
    → list_any (is_at p) hs ≡ (is_at p h || list_any (is_at p) hs)
same_as_later p h hs k = elim (cases_Bool (is_at p h)) [
  | inl t ↦ rw t (any_same p h.place hs (same_turned p h.place ∙ t) ∙ k)
  | inr f ↦ rw f refl
]

-- a place is listed exactly if a message is there
listed_any : (hs : List QueuedMessage) (p : Place) → list_any (same_place p) (places_in hs) ≡ list_any (is_at p) hs
listed_any [] p = refl
listed_any (h ∷ hs) p =
    let rest = listed_any hs p in
    elim (cases_Bool (list_any (is_at h.place) hs)) [
      | inl t ↦ rw t (rest ∙ same_as_later p h hs t)
      | inr f ↦ rw f (ap (λ b. b || list_any (same_place p) (places_in hs)) (same_turned p h.place)
          ∙ ap (λ b. is_at p h || b) rest)
    ]

-- a search succeeds exactly if something passes its test
found_any : (t : QueuedMessage → Bool) (hs : List QueuedMessage)
    → is_some (option_map (λ h. h.message) (find t hs)) ≡ list_any t hs
found_any t [] = refl
found_any t (h ∷ hs) = elim (cases_Bool (t h)) [ inl u ↦ rw u refl | inr v ↦ rw v (found_any t hs) ]

-- a place is listed exactly if it has a first message
pub places_listed : (flow : List QueuedMessage) (p : Place)
    → list_any (same_place p) (places_in flow) ≡ is_some (first_message flow p)
places_listed flow p = listed_any flow p ∙ sym (found_any (is_at p) flow)

-- the first message has a reason exactly if it can't move
pub reason_or_moves : (drivers : List DriverSpec) (c : Configuration) (p : Place) (m : Message)
    → first_message c.flow p ≡ Some m → is_some (reason_at drivers c p m.addr) ≡ not (is_movable drivers c p)
reason_or_moves drivers c p m first = reason_or_opens drivers c p m.addr (next_place drivers c p m.addr)
    ∙ ap not (sym (moves_by drivers c p m first))

-- something or true
or_true : (b : Bool) → (b || true) ≡ true
or_true true = refl
or_true false = refl

-- each listed place has a message
has_message : (hs : List QueuedMessage) → AllByRecursion (λ p. list_any (is_at p) hs ≡ true) (places_in hs)
has_message [] = tt
has_message (h ∷ hs) =
    let rest = each_map (λ p. list_any (is_at p) hs ≡ true) (λ p. list_any (is_at p) (h ∷ hs) ≡ true) (places_in hs)
    (λ p k. rw k (or_true (is_at p h))) (has_message hs) in
    let here : list_any (is_at h.place) (h ∷ hs) ≡ true = rw (same_self h.place) refl in
    elim (cases_Bool (list_any (is_at h.place) hs)) [ inl t ↦ rw t rest | inr f ↦ rw f (here, rest) ]

-- a place with a first message waits, if no message can move
waits_there : (drivers : List DriverSpec) (c : Configuration) (p : Place) → IsSettled drivers c
    → list_any (is_at p) c.flow ≡ true → (w : Wait) × (wait_at drivers c p ≡ Some w) × (w.place ≡ p)
waits_there drivers c p settled there = by (first_message c.flow p) refl where
  by : (o : Option Message) → first_message c.flow p ≡ o
      → (w : Wait) × (wait_at drivers c p ≡ Some w) × (w.place ≡ p)
  by None e =
      let k : is_some (first_message c.flow p) ≡ true = found_any (is_at p) c.flow ∙ there in
      let no : false ≡ true = rw e at k in absurd (cc)
  by (Some m) e = let r = settled_reason drivers c p m settled e in
      (record { place = p; serial = m.serial; reason = r.0 }, wait_is drivers c p m r.0 e r.1, refl)

-- places that all wait are those of the waits
all_wait : (drivers : List DriverSpec) (c : Configuration) (ps : List Place) → IsSettled drivers c
    → AllByRecursion (λ p. list_any (is_at p) c.flow ≡ true) ps
    → map (λ w. w.place) (filter_map (wait_at drivers c) ps) ≡ ps
all_wait drivers c [] settled h = refl
all_wait drivers c (p ∷ ps) settled h =
    let (w, is, at) = waits_there drivers c p settled h.0 in
    rw is (ap (λ q. q ∷ map (λ v. v.place) (filter_map (wait_at drivers c) ps)) at
    ∙ ap (λ (qs : List Place). p ∷ qs) (all_wait drivers c ps settled h.1))

-- each queue of a settled configuration waits
pub settled_wait : (drivers : List DriverSpec) (c : Configuration) → IsSettled drivers c
    → map (λ w. w.place) (waits drivers c) ≡ places_in c.flow
settled_wait drivers c settled = all_wait drivers c (places_in c.flow) settled (has_message c.flow)
