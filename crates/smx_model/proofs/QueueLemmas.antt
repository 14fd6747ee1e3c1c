-- Changes of single queues and full marks, the least movable place, and the dropped serials.
use Rattle.smx_model.proofs.Common.{◌≡◌, ℕ, Bool, true, false, not, cond, eqb, List, [], ◌∷◌, ◌++◌, filter, find}
use Rattle.smx_model.proofs.Common.{Option, Some, None, refl, sym, ap, subst, inl, inr, slice_get, AllPairs}
use Rattle.smx_model.proofs.Common.{list_any, both_ways, cases_Bool, eq-eqb, eqb-true, false_from_ne_true, ne_eqb}
use Rattle.smx_model.proofs.Common.{DriverSpec, Message, Place, Configuration, QueuedMessage, queued_before, is_at}
use Rattle.smx_model.proofs.Common.{place_before, same_place, IsInOrder, IsLeastMovable, with_inserted, in_rising_order}
use Rattle.smx_model.proofs.Common.{without_first, first_message, with_mark, queue, serials_that_left, serials}
use Rattle.smx_model.proofs.Common.{is_movable, least_movable, AllByRecursion, AllLater, arith, rules, nat_tests}
use Rattle.std.proofs.Common.{drop}
use Rattle.smx_model.proofs.OrderLemmas.{queue_elsewhere, queue_placed, same_self, same_not_before}
use Rattle.smx_model.proofs.SettlingLemmas.{no_front, none_least, same_place_is, some_least}
use Rattle.smx_model.proofs.EachLemmas.{later_pairs}
use Rattle.smx_model.proofs.TestLemmas.{find_passes, any_of_placed}

-- equal places have the same equalities with a third
same_places : (p q r : Place) → same_place p q ≡ true → same_place p r ≡ same_place q r
same_places p q r h = ap (λ (x : Place). same_place x r) (same_place_is p q h)

-- equality of places is symmetric
same_turned : (p q : Place) → same_place p q ≡ true → same_place q p ≡ true
same_turned p q h = subst (λ (x : Place). same_place x p ≡ true) (same_place_is p q h) (same_self p)

-- inequality of places is symmetric
pub not_same_turned : (p q : Place) → same_place p q ≡ false → same_place q p ≡ false
not_same_turned p q h = false_from_ne_true _ (λ t. both_ways (same_place p q) h (same_turned q p t))

-- a message arrives

-- an arriving message goes to the end of the queue of its place, and each other queue is unchanged
pub arrived_queue : (flow : List QueuedMessage) (p q : Place) (m : Message) → IsInOrder flow
    → queue (with_inserted queued_before flow (record { place = p; message = m })) q
    ≡ cond (same_place p q) (queue flow q ++ m ∷ []) (queue flow q)
arrived_queue flow p q m o = elim (cases_Bool (same_place p q)) [
  | inl t ↦
      rw t (subst (λ (x : Place). queue (with_inserted queued_before flow (record { place = p; message = m })) x
      ≡ queue flow x ++ m ∷ []) (same_place_is p q t) (queue_placed flow (record { place = p; message = m }) o))
  | inr f ↦ rw f (queue_elsewhere flow (record { place = p; message = m }) q f)
]

-- the first message leaves

-- the first message leaves the queue of its place, and each other queue is unchanged
pub left_queue : (flow : List QueuedMessage) (p q : Place)
    → queue (without_first (is_at p) flow) q ≡ cond (same_place p q) (drop 1 (queue flow q)) (queue flow q)
left_queue [] p q = elim (cases_Bool (same_place p q)) [ inl t ↦ rw t refl | inr f ↦ rw f refl ]
left_queue (k ∷ ks) p q = grind (arith, nat_tests, same_places k.place p q, same_place_is p q, left_queue ks p q)

-- the first message at a place is the first one of its queue
pub front_is : (flow : List QueuedMessage) (p : Place) → first_message flow p ≡ slice_get (queue flow p) 0
front_is [] p = refl
front_is (k ∷ ks) p = elim (cases_Bool (is_at p k)) [ inl t ↦ rw t refl | inr f ↦ rw f (front_is ks p) ]

-- places are emptied

-- the queues of emptied places are empty, and each other queue is unchanged
pub emptied_queue : (flow : List QueuedMessage) (goes : Place → Bool) (q : Place)
    → queue (filter (λ h. not (goes h.place)) flow) q ≡ cond (goes q) [] (queue flow q)
emptied_queue [] goes q = elim (cases_Bool (goes q)) [ inl t ↦ rw t refl | inr f ↦ rw f refl ]
emptied_queue (k ∷ ks) goes q = grind (arith, same_place_is k.place q, emptied_queue ks goes q)

-- full marks

-- emptied places are not full, and each other place is as full as before
pub emptied_full : (ps : List Place) (goes : Place → Bool) (q : Place)
    → list_any (same_place q) (filter (λ p. not (goes p)) ps) ≡ cond (goes q) false (list_any (same_place q) ps)
emptied_full [] goes q = elim (cases_Bool (goes q)) [ inl t ↦ rw t refl | inr f ↦ rw f refl ]
emptied_full (r ∷ rs) goes q = grind (arith, emptied_full rs goes q, same_place_is q r)

-- setting or clearing the mark of a place decides whether it is full, and each other place is as full as before
pub marked_full : (p q : Place) (full : Bool) (ps : List Place)
    → list_any (same_place q) (with_mark p full ps) ≡ cond (same_place p q) full (list_any (same_place q) ps)
marked_full p q true ps = search (rules, any_of_placed (same_place q) place_before, emptied_full ps (same_place p) q)
marked_full p q false ps = emptied_full ps (same_place p) q

-- the least movable place

-- if no message has a place before that of a given one, no place before that place has a message
no_front_before : (k : QueuedMessage) (hs : List QueuedMessage) (q : Place)
    → AllByRecursion (λ j. queued_before j k ≡ false) hs
    → place_before q k.place ≡ true → first_message hs q ≡ None
no_front_before k [] q n h = refl
no_front_before k (j ∷ hs) q n h = grind (arith, same_place_is j.place q, no_front_before k hs q n.1 h)

-- if a message is the first of a flow in order whose place passes a test, no place with a message before its own passes
first_is_least : (t : Place → Bool) (hs : List QueuedMessage) (h : QueuedMessage) (q : Place) (m : Message)
    → IsInOrder hs → find (λ h. t h.place) hs ≡ Some h → place_before q h.place ≡ true → first_message hs q ≡ Some m
    → t q ≡ false
first_is_least t [] h q m o e b f = cc
first_is_least t (k ∷ hs) h q m o e b f =
    grind (arith, same_not_before q, same_place_is k.place q, no_front_before k hs q o.0, first_is_least t hs h q m o.1)

-- in a flow in order, the first movable place is the least one; without such a place the configuration is settled
pub least_is : (drivers : List DriverSpec) (c : Configuration) → IsInOrder c.flow
    → IsLeastMovable drivers c (least_movable drivers c)
least_is drivers c o = by (least_movable drivers c) refl where
  lesser : (h : QueuedMessage) → find (λ h. is_movable drivers c h.place) c.flow ≡ Some h → (q : Place)
      → place_before q h.place ≡ true → (m : Option Message) → first_message c.flow q ≡ m
      → is_movable drivers c q ≡ false
  lesser h e q b None f = rw f refl
  lesser h e q b (Some m) f = first_is_least (is_movable drivers c) c.flow h q m o e b f

  by : (r : Option Place) → least_movable drivers c ≡ r → IsLeastMovable drivers c r
  by None e = λ p. no_front drivers c p (first_message c.flow p) refl (none_least _ e)
  by (Some p) e = let s = some_least (find (λ h. is_movable drivers c h.place) c.flow) p e in (
    subst (λ (x : Place). is_movable drivers c x ≡ true) s.2
        (find_passes (λ h. is_movable drivers c h.place) c.flow s.0 s.1),
    λ q b. lesser s.0 s.1 q (subst (λ (x : Place). place_before q x ≡ true) (sym s.2) b) (first_message c.flow q) refl,
  )

-- the serials that are dropped

-- a serial that differs from all kept ones is not kept
not_kept : (n : ℕ) (keep : QueuedMessage → Bool) (hs : List QueuedMessage)
    → AllByRecursion (λ m. eqb n m ≡ false) (serials hs)
    → list_any (λ m. eqb n m) (serials (filter keep hs)) ≡ false
not_kept n keep [] h = refl
not_kept n keep (k ∷ ks) h = grind (arith, not_kept n keep ks h.1)

-- inequality of numbers is symmetric
turned_eqb : (m n : ℕ) → eqb m n ≡ false → eqb n m ≡ false
turned_eqb m n h = false_from_ne_true _ (λ t. both_ways (eqb m n) h (eq-eqb m n (sym (eqb-true n m t))))

-- a serial is kept exactly if its message is
kept_or_not : (keep : QueuedMessage → Bool) (hs : List QueuedMessage) → AllLater (λ m n. eqb m n ≡ false) (serials hs)
    → AllByRecursion (λ h. list_any (λ m. eqb h.message.serial m) (serials (filter keep hs)) ≡ keep h) hs
kept_or_not keep [] a = tt
kept_or_not keep (k ∷ ks) a = elim (cases_Bool (keep k)) [
  | inl t ↦ (rw (t, eq-eqb k.message.serial k.message.serial refl) refl, rest_kept t ks (kept_or_not keep ks a.1) a.0)
  | inr f ↦ (rw f (not_kept k.message.serial keep ks a.0), rest_not f ks (kept_or_not keep ks a.1))
] where
  rest_kept : keep k ≡ true → (hs : List QueuedMessage)
      → AllByRecursion (λ h. list_any (λ m. eqb h.message.serial m) (serials (filter keep ks)) ≡ keep h) hs
      → AllByRecursion (λ m. eqb k.message.serial m ≡ false) (serials hs)
      → AllByRecursion (λ h. list_any (λ m. eqb h.message.serial m) (serials (filter keep (k ∷ ks))) ≡ keep h) hs
  rest_kept t [] e n = tt
  rest_kept t (h ∷ hs) e n = (rw (t, turned_eqb k.message.serial h.message.serial n.0) e.0, rest_kept t hs e.1 n.1)

  rest_not : keep k ≡ false → (hs : List QueuedMessage)
      → AllByRecursion (λ h. list_any (λ m. eqb h.message.serial m) (serials (filter keep ks)) ≡ keep h) hs
      → AllByRecursion (λ h. list_any (λ m. eqb h.message.serial m) (serials (filter keep (k ∷ ks))) ≡ keep h) hs
  rest_not f [] e = tt
  rest_not f (h ∷ hs) e = (rw f e.0, rest_not f hs e.1)

-- if the new serials are those of the messages that are kept, the old serials that are not among them are those of
-- the other messages
those_gone : (keep : QueuedMessage → Bool) (new : List ℕ) (hs : List QueuedMessage)
    → AllByRecursion (λ h. list_any (λ m. eqb h.message.serial m) new ≡ keep h) hs
    → filter (λ n. not (list_any (λ m. eqb n m) new)) (serials hs) ≡ serials (filter (λ h. not (keep h)) hs)
those_gone keep new [] h = refl
those_gone keep new (k ∷ ks) h = grind (arith, those_gone keep new ks h.1)

-- the serials that leave a filtered flow are those of the messages that don't pass, rising
pub gone_is : (flow : List QueuedMessage) (keep : QueuedMessage → Bool) → AllPairs (λ m n. m ≡ n → ⊥) (serials flow)
    → serials_that_left flow (filter keep flow) ≡ in_rising_order (serials (filter (λ h. not (keep h)) flow))
gone_is flow keep apart =
    ap in_rising_order (those_gone keep (serials (filter keep flow)) flow (kept_or_not keep flow
    (later_pairs _ (serials flow) (λ i j d lt within. ne_eqb _ _ (apart i j d lt within)))))
