-- Settling ends: each move lowers a rank.
use Rattle.smx_model.proofs.Common.{◌≡◌, ℕ, zero, suc, ◌+◌, ◌*◌, ◌<◌, ◌≤◌, Bool, true, false, ◌&&◌, cond, eqb, List, []}
use Rattle.smx_model.proofs.Common.{◌∷◌, length, find, Option, Some, None, refl, sym, ◌∙◌, subst, arith, inl, inr}
use Rattle.smx_model.proofs.Common.{is_some, option_map, cases_Bool, cases_eq, eqb-true, and_parts, false≢true}
use Rattle.smx_model.proofs.Common.{false_from_ne_true, AllByRecursion, Binding, DriverSpec, Link, Message, Place}
use Rattle.smx_model.proofs.Common.{Route, Side, StreamId, Configuration, QueuedMessage, is_at, queued_before}
use Rattle.smx_model.proofs.Common.{same_place, same_stream, same_side, with_inserted, without_first}
use Rattle.smx_model.proofs.Common.{HasNoCycle, reaches, first_message, is_full, after_settling}
use Rattle.smx_model.proofs.Common.{after_settling_within, least_movable, after_move, next_open_place, is_movable}
use Rattle.smx_model.proofs.Common.{next_place, place_below, place_above, IsSettled, AreLinksSound, is_mux}
use Rattle.smx_types.specs.declared.stream.Side.TheVariants as side
use Rattle.smx_model.specs.Settling.{◌>>=◌}
use Rattle.smx_model.proofs.SettledLemmas.{moved_by}
use Rattle.smx_model.proofs.LookupLemmas.{live_is_side}
use Rattle.smx_model.proofs.PathLemmas.{reaches_path, reaches_trans, reaches_link}
use Rattle.smx_model.proofs.RangeLemmas.{links_below, AreNamed}
use Rattle.smx_model.proofs.RouteLemmas.{AreRouted, routes_lead, routed_moved}
use Rattle.smx_model.proofs.EachLemmas.{each_find}
use Rattle.smx_model.proofs.TestLemmas.{find_passes}

-- the number of numbers below n that pass
abbrev pub count : (ℕ → Bool) → ℕ → ℕ
count f zero = 0
count f (suc n) = cond (f n) 1 0 + count f n

-- at most n of the numbers below n pass
pub count_le : (f : ℕ → Bool) (n : ℕ) → count f n ≤ n
count_le f zero = omega arith
count_le f (suc n) = grind (arith, count_le f n)

-- if all numbers that pass one test pass another, at most as many numbers below n pass the first as the second
count_more : (f g : ℕ → Bool) (n : ℕ) → ((x : ℕ) → f x ≡ true → g x ≡ true) → count f n ≤ count g n
count_more f g zero h = omega arith
count_more f g (suc n) h = grind (arith, h n, count_more f g n h)

-- if all numbers that pass one test pass another, and one number below n passes only the second, fewer numbers below
-- n pass the first
count_less : (f g : ℕ → Bool) (n b : ℕ) → ((x : ℕ) → f x ≡ true → g x ≡ true) → b < n → f b ≡ false → g b ≡ true
    → count f n < count g n
count_less f g zero b h lt u v = absurd (omega arith)
count_less f g (suc n) b h lt u v = elim (cases_eq n b) [
  | inl e ↦ rw (e) (rw (u, v) (omega (arith, count_more f g b h)))
  | inr ne ↦ let i = count_less f g n b h (omega (arith, ne)) u v in elim (cases_Bool (f n)) [
    | inl t ↦ rw (t, h n t) (omega (arith, i))
    | inr w ↦ elim (cases_Bool (g n)) [ inl z ↦ rw (w, z) (omega (arith, i)) | inr z ↦ rw (w, z) (omega (arith, i)) ]
  ]
]

-- the number of the n drivers that a side of a driver's stream may lead to
abbrev rank_by : List Link → ℕ → ℕ → Side → ℕ
rank_by links n d side.Write = count (λ x. reaches links d x) n
rank_by links n d side.Read = count (λ x. reaches links x d) n

-- the number of the n drivers that a place may lead to
abbrev rank : List Link → ℕ → Place → ℕ
rank links n p = rank_by links n p.stream.driver p.side

-- a side of a driver's stream may lead to at most n of n drivers
rank_le : (links : List Link) (n d : ℕ) (s : Side) → rank_by links n d s ≤ n
rank_le links n d side.Write = count_le _ n
rank_le links n d side.Read = count_le _ n

-- without a cycle fewer drivers are reached from a driver than from one that reaches it
down_less : (links : List Link) (n a b : ℕ) → HasNoCycle links → reaches links a b ≡ true → b < n
    → count (λ x. reaches links b x) n < count (λ x. reaches links a x) n
down_less links n a b none r lt = count_less (λ x. reaches links b x) (λ x. reaches links a x) n b
    (λ x h. reaches_trans links a b x r h) lt (false_from_ne_true _ (λ h. none b (reaches_path links b b h))) r

-- without a cycle fewer drivers reach a driver than reach one that it reaches
pub up_less : (links : List Link) (n a b : ℕ) → HasNoCycle links → reaches links a b ≡ true → a < n
    → count (λ x. reaches links x a) n < count (λ x. reaches links x b) n
up_less links n a b none r lt = count_less (λ x. reaches links x a) (λ x. reaches links x b) n a
    (λ x h. reaches_trans links x a b h r) lt (false_from_ne_true _ (λ h. none a (reaches_path links a a h))) r

-- the drivers of each link have numbers below n
abbrev AreBelow : ℕ → List Link → Type 0
AreBelow n links = AllByRecursion (λ l. (l.ctl.driver < n) × (l.lower.driver < n)) links

-- the requirements of settling: links without a cycle, whose drivers are in range and whose ids rise, and routes
-- that name them
record CanSettle (drivers : List DriverSpec) (c : Configuration) : Type 0 where
  no_cycle : HasNoCycle c.links
  below : AreBelow (length drivers) c.links
  routed : AreRouted drivers c

-- if two steps give a value, the first gave a value, and the second gave the result from it
pub bound : {A B : Type 0} (o : Option A) (f : A → Option B) (y : B) → (o >>= f) ≡ Some y
    → (x : A) × (o ≡ Some x) × (f x ≡ Some y)
bound None f y e = cc
bound (Some x) f y e = (x, refl, e)

-- the place below is the write side of the lower stream of the link that the driver's route for the address names
pub below_link : (links : List Link) (routes : List Route) (hungs : List StreamId) (d addr : ℕ) (q : Place)
    → place_below links routes hungs d addr ≡ Some q
    → (r : Route) × (find (λ r. eqb r.driver d && eqb r.addr addr) routes ≡ Some r) × (l : Link)
    × (find (λ l. eqb l.id r.id) links ≡ Some l) × (record { stream = l.lower; side = side.Write } ≡ q)
below_link links routes hungs d addr q e = grind (arith, bound, live_is_side hungs)

-- the place above is the read side of the stream that is bound to the address on the upper driver of the link above
pub above_binding : (links : List Link) (binds : List Binding) (s : StreamId) (addr : ℕ) (q : Place)
    → place_above links binds s addr ≡ Some q
    → (l : Link) × (find (λ l. same_stream l.lower s) links ≡ Some l) × (b : Binding)
    × (find (λ b. eqb b.driver l.ctl.driver && eqb b.addr addr) binds ≡ Some b)
    × (record { stream = record { driver = b.driver; minor = b.minor }; side = side.Read } ≡ q)
above_binding links binds s addr q e = grind (arith, bound)

-- without a cycle the place below may lead to fewer drivers than the write side that leads to it
down_falls : (links : List Link) (routes : List Route) (hungs : List StreamId) (n d addr : ℕ) (q : Place)
    → HasNoCycle links → AreBelow n links → AllByRecursion (λ r. AllByRecursion (λ l. l.id ≡ r.id
    → l.ctl.driver ≡ r.driver) links) routes
    → place_below links routes hungs d addr ≡ Some q → rank links n q < rank_by links n d side.Write
down_falls links routes hungs n d addr q none below leads e = via (below_link links routes hungs d addr q e) where
  via : (w : (r : Route) × (find (λ r. eqb r.driver d && eqb r.addr addr) routes ≡ Some r) × (l : Link)
      × (find (λ l. eqb l.id r.id) links ≡ Some l) × (record { stream = l.lower; side = side.Write } ≡ q))
      → rank links n q < rank_by links n d side.Write
  via (r, f, l, g, is) =
      let same : r.driver ≡ d = eqb-true r.driver d (and_parts _ _ (find_passes _ routes r f)).0 in
      let up : l.ctl.driver ≡ r.driver = each_find _ _ links l g (each_find _ _ routes r f leads)
      (eqb-true l.id r.id (find_passes _ links l g)) in
      let r1 : reaches links d l.lower.driver ≡ true = subst (λ (x : ℕ). reaches links x l.lower.driver ≡ true)
      (up ∙ same) (reaches_link links _ l g) in
      subst (λ (x : Place). rank links n x < rank_by links n d side.Write) is
      (down_less links n d l.lower.driver none r1 (each_find _ _ links l g below).1)

-- without a cycle the place above may lead to fewer drivers than the read side that leads to it
up_falls : (links : List Link) (binds : List Binding) (n addr : ℕ) (s : StreamId) (q : Place) → HasNoCycle links
    → AreBelow n links
    → place_above links binds s addr ≡ Some q → rank links n q < rank_by links n s.driver side.Read
up_falls links binds n addr s q none below e = via (above_binding links binds s addr q e) where
  via : (w : (l : Link) × (find (λ l. same_stream l.lower s) links ≡ Some l) × (b : Binding)
      × (find (λ b. eqb b.driver l.ctl.driver && eqb b.addr addr) binds ≡ Some b)
      × (record { stream = record { driver = b.driver; minor = b.minor }; side = side.Read } ≡ q))
      → rank links n q < rank_by links n s.driver side.Read
  via (l, f, b, g, is) =
      let up : b.driver ≡ l.ctl.driver = eqb-true b.driver l.ctl.driver (and_parts _ _ (find_passes _ binds b g)).0 in
      let low : l.lower.driver ≡ s.driver = eqb-true l.lower.driver s.driver
      (and_parts _ _ (find_passes _ links l f)).0 in
      let r1 : reaches links b.driver s.driver ≡ true = subst (λ (x : ℕ). reaches links x s.driver ≡ true) (sym up)
      (subst (λ (x : ℕ). reaches links l.ctl.driver x ≡ true) low (reaches_link links _ l f)) in
      let lt : b.driver < n = subst (λ (x : ℕ). x < n) (sym up) (each_find _ _ links l f below).0 in
      subst (λ (x : Place). rank links n x < rank_by links n s.driver side.Read) is
      (up_less links n b.driver s.driver none r1 lt)

-- without a cycle the next place may lead to fewer drivers than the place that leads to it
next_falls : (drivers : List DriverSpec) (c : Configuration) (s : StreamId) (addr : ℕ) (side_ : Side) (q : Place)
    → CanSettle drivers c → next_place drivers c (record { stream = s; side = side_ }) addr ≡ Some q
    → rank c.links (length drivers) q < rank_by c.links (length drivers) s.driver side_
next_falls drivers c s addr side.Write q h e = elim (cases_Bool (is_mux drivers s.driver)) [
  | inl t ↦ down_falls c.links c.routes c.hungs (length drivers) s.driver addr q h.no_cycle h.below
      (routes_lead drivers c h.routed) (rw t at e)
  | inr f ↦ let k : None ≡ Some q = rw f at e in cc
]
next_falls drivers c s addr side.Read q h e = up_falls c.links c.binds (length drivers) addr s q h.no_cycle h.below e

-- a place that a first message may go on to is the next place for its address, and not full
pub open_next : (drivers : List DriverSpec) (c : Configuration) (p q : Place) → next_open_place drivers c p ≡ Some q
    → (m : Message) × (first_message c.flow p ≡ Some m) × (next_place drivers c p m.addr ≡ Some q)
    × (is_full c q ≡ false)
open_next drivers c p q e = grind (arith, bound)

-- the sum of the weights of the places of all messages
abbrev weight : (Place → ℕ) → List QueuedMessage → ℕ
weight f [] = 0
weight f (h ∷ hs) = f h.place + weight f hs

-- if no place weighs more than n, a flow weighs at most n times the number of its messages
weight_le : (f : Place → ℕ) (n : ℕ) (hs : List QueuedMessage) → ((p : Place) → f p ≤ n) → weight f hs ≤ length hs * n
weight_le f n [] h = omega arith
weight_le f n (k ∷ hs) h = grind (arith, weight_le f n hs h, h k.place)

-- one more message makes a flow heavier by the weight of its place
weight_placed : (f : Place → ℕ) (hs : List QueuedMessage) (h : QueuedMessage)
    → weight f (with_inserted queued_before hs h) ≡ f h.place + weight f hs
weight_placed f [] h = refl
weight_placed f (k ∷ hs) h = grind (arith, weight_placed f hs h)

-- sides that pass the test for equality are equal
same_side_is : (s t : Side) → same_side s t ≡ true → s ≡ t
same_side_is side.Write side.Write h = refl
same_side_is side.Write side.Read h = absurd (false≢true h)
same_side_is side.Read side.Write h = absurd (false≢true h)
same_side_is side.Read side.Read h = refl

-- the place of a driver's minor and a side
abbrev at_place : ℕ → ℕ → Side → Place
at_place d m s = record { stream = record { driver = d; minor = m }; side = s }

-- places with the same driver, minor and side are equal
made : (a b : ℕ) (s : Side) (c d : ℕ) (t : Side) → a ≡ c → b ≡ d → s ≡ t → at_place a b s ≡ at_place c d t
made a b s c d t e f g = grind arith

-- places that pass the test for equality are equal
pub same_place_is : (p q : Place) → same_place p q ≡ true → p ≡ q
same_place_is p q h = grind (arith, made, same_side_is)

-- without the first message of a place a flow is lighter by the weight of that place
weight_front : (f : Place → ℕ) (hs : List QueuedMessage) (p : Place) (m : Message) → first_message hs p ≡ Some m
    → weight f hs ≡ f p + weight f (without_first (is_at p) hs)
weight_front f [] p m e = cc
weight_front f (h ∷ hs) p m e = grind (arith, same_place_is h.place p, weight_front f hs p m)

-- the move of a first message makes the flow lighter
moved_weight : (drivers : List DriverSpec) (c : Configuration) (p : Place) → CanSettle drivers c → (q : Place)
    → next_open_place drivers c p ≡ Some q
    → weight (rank c.links (length drivers)) (after_move drivers c p).flow
    < weight (rank c.links (length drivers)) c.flow
moved_weight drivers c p h q e = grind (arith, open_next, next_falls, weight_front, weight_placed)

-- if the place of no message passes a test, no place with a first message does
none_of : (t : Place → Bool) (hs : List QueuedMessage) (p : Place) (m : Message) → find (λ h. t h.place) hs ≡ None
    → first_message hs p ≡ Some m → t p ≡ false
none_of t [] p m e f = cc
none_of t (h ∷ hs) p m e f = grind (arith, same_place_is h.place p, none_of t hs p m)

-- if no message of the flow is at a movable place, no place is movable
pub no_front : (drivers : List DriverSpec) (c : Configuration) (p : Place) (o : Option Message)
    → first_message c.flow p ≡ o → find (λ h. is_movable drivers c h.place) c.flow ≡ None
    → is_movable drivers c p ≡ false
no_front drivers c p None e none = rw e refl
no_front drivers c p (Some m) e none = none_of (is_movable drivers c) c.flow p m none e

-- if the message that was searched for has no place, no message was found
pub none_least : (o : Option QueuedMessage) → option_map (λ h. h.place) o ≡ None → o ≡ None
none_least None e = refl
none_least (Some h) e = cc

-- the place of the message that was searched for is that of the message that was found
pub some_least : (o : Option QueuedMessage) (p : Place) → option_map (λ h. h.place) o ≡ Some p
    → (h : QueuedMessage) × (o ≡ Some h) × (h.place ≡ p)
some_least None p e = cc
some_least (Some h) p e = (h, refl, cc)

-- a place that is there is some place
movable_way : (o : Option Place) → is_some o ≡ true → (q : Place) × (o ≡ Some q)
movable_way None e = absurd (false≢true e)
movable_way (Some q) e = (q, refl)

-- the first message of the least movable place has an open next place
least_way : (drivers : List DriverSpec) (c : Configuration) (p : Place) → least_movable drivers c ≡ Some p
    → (q : Place) × (next_open_place drivers c p ≡ Some q)
least_way drivers c p e = grind (arith, some_least, movable_way (next_open_place drivers c p), find_passes)

-- a move leaves the links as they are
pub moved_links : (drivers : List DriverSpec) (c : Configuration) (p : Place) → (after_move drivers c p).links ≡ c.links
moved_links drivers c p = moved_by (λ d. d.links ≡ c.links) drivers c p refl (λ q m e. refl)

-- a move preserves the requirements of settling
can_move : (drivers : List DriverSpec) (c : Configuration) (p : Place) → CanSettle drivers c
    → CanSettle drivers (after_move drivers c p)
can_move drivers c p h = record {
  no_cycle = subst HasNoCycle (sym (moved_links drivers c p)) h.no_cycle;
  below = subst (AreBelow (length drivers)) (sym (moved_links drivers c p)) h.below;
  routed = routed_moved drivers c p h.routed;
}

-- the weight of a configuration, by its own links
abbrev weight_of : List DriverSpec → Configuration → ℕ
weight_of drivers c = weight (rank c.links (length drivers)) c.flow

-- the move of the least movable place makes the configuration lighter
less_weight : (drivers : List DriverSpec) (c : Configuration) (p : Place) → CanSettle drivers c
    → least_movable drivers c ≡ Some p → weight_of drivers (after_move drivers c p) < weight_of drivers c
less_weight drivers c p h e = grind (arith, least_way, moved_links, moved_weight)

-- a configuration that weighs at most k is settled after k moves
settles : (drivers : List DriverSpec) (k : ℕ) (c : Configuration) → CanSettle drivers c → weight_of drivers c ≤ k
    → IsSettled drivers (after_settling_within drivers k c)
settles drivers zero c h le = by (least_movable drivers c) refl where
  by : (o : Option Place) → least_movable drivers c ≡ o → IsSettled drivers c
  by None e = λ p. no_front drivers c p (first_message c.flow p) refl (none_least _ e)
  by (Some p) e = absurd (omega (arith, less_weight drivers c p h e))
settles drivers (suc k) c h le = by
    (λ p fewer. settles drivers k (after_move drivers c p) (can_move drivers c p h) fewer)
    (least_movable drivers c) refl where
      by : ((p : Place) → weight_of drivers (after_move drivers c p) ≤ k
          → IsSettled drivers (after_settling_within drivers k (after_move drivers c p)))
          → (o : Option Place) → least_movable drivers c ≡ o
          → IsSettled drivers
          (elim o as (λ _. Configuration) [
            | None ↦ c
            | Some p ↦
                after_settling_within drivers k (after_move drivers c p)
          ])
      by rest None e = λ p. no_front drivers c p (first_message c.flow p) refl (none_least _ e)
      by rest (Some p) e = rest p (omega (arith, less_weight drivers c p h e))

-- as many moves as messages times drivers settle a configuration with sound links and routes and known streams
pub settled_is : (drivers : List DriverSpec) (c : Configuration) → AreLinksSound c.links → AreNamed drivers c
    → AreRouted drivers c → IsSettled drivers (after_settling drivers c)
settled_is drivers c sound named routed = settles drivers (length c.flow * length drivers) c
    (record { no_cycle = sound.no_cycle; below = links_below drivers c.links named.links; routed = routed })
    (weight_le (rank c.links (length drivers)) (length drivers) c.flow
    (λ p. rank_le c.links (length drivers) p.stream.driver p.side))
