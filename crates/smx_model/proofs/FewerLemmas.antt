-- With fewer links, routes, bindings and messages, and more hung-up streams, no place is turned.
use Rattle.smx_model.proofs.Common.{◌≡◌, ℕ, Bool, true, false, ◌&&◌, not, eqb, List, filter, find, Option, Some, None}
use Rattle.smx_model.proofs.Common.{refl, ap, ◌∙◌, inl, inr, rules, ◌<◌, length, DriverSpec, Binding, Link, Route}
use Rattle.smx_model.proofs.Common.{Message, Place, Side, StreamId, Configuration, QueuedMessage, same_stream}
use Rattle.smx_model.proofs.Common.{first_message, without_queues_at, without_links, without_dead_streams, after_sweep}
use Rattle.smx_model.proofs.Common.{live_write_side, is_persistent, exists, AreLinksSound, next_of, nowhere, TurnsOnly}
use Rattle.smx_model.proofs.Common.{is_hung, AllByRecursion, AllLater, arith}
use Rattle.smx_types.specs.declared.stream.Side.TheVariants as side
use Rattle.smx_model.proofs.EachLemmas.{later_filter, each_filter}
use Rattle.smx_model.proofs.TestLemmas.{any_filter}
use Rattle.smx_model.proofs.QueueLemmas.{emptied_queue, front_is}
use Rattle.smx_model.proofs.WaitingLemmas.{next_by}
use Rattle.smx_model.proofs.SoundLemmas.{sound_filter}
use Rattle.smx_model.proofs.StandingLemmas.{swept_is}
use Rattle.smx_model.proofs.SweptLemmas.{AreKeepingLowers, lower_exists}
use Rattle.smx_model.proofs.FindLemmas.{Finds, finds_by, finds_kept, same_finds, no_other_number, no_other_pair}
use Rattle.smx_model.proofs.TurningLemmas.{bound_side, down_by, lower_side, up_by, stays_by, same_stream_is, turns_then}

-- ---- fewer links, routes, bindings and messages, and more hung-up streams

-- each key finds what it found before, or nothing; the lower stream of a link that is found is hung up if it was
pub record Fewer (c d : Configuration) : Type 0 where
  pub routes : (driver addr : ℕ) → Finds (find (λ r. eqb r.driver driver && eqb r.addr addr) c.routes)
      (find (λ r. eqb r.driver driver && eqb r.addr addr) d.routes)
  pub ids : (id : ℕ) → Finds (find (λ l. eqb l.id id) c.links) (find (λ l. eqb l.id id) d.links)
  pub lowers : (s : StreamId)
      → Finds (find (λ l. same_stream l.lower s) c.links) (find (λ l. same_stream l.lower s) d.links)
  pub binds : (driver addr : ℕ) → Finds (find (λ b. eqb b.driver driver && eqb b.addr addr) c.binds)
      (find (λ b. eqb b.driver driver && eqb b.addr addr) d.binds)
  pub hungs : (id : ℕ) (l : Link) → find (λ l. eqb l.id id) d.links ≡ Some l → is_hung c.hungs l.lower ≡ true
      → is_hung d.hungs l.lower ≡ true

-- the write side of a stream is the same as before, or none; a stream that was hung up stays so
live_finds : (old new : List StreamId) (s : StreamId) → (is_hung old s ≡ true → is_hung new s ≡ true)
    → Finds (live_write_side old s) (live_write_side new s)
live_finds old new s f = grind arith

-- if each key is found as before or not at all, a route leads down as before, or nowhere
down_finds : (c d : Configuration) (o n : Option Route) → Fewer c d → Finds o n
    → Finds (down_by c.links c.hungs o) (down_by d.links d.hungs n)
down_finds c d o n h (inr e) = rw e (inr refl)
down_finds c d o n h (inl e) = rw e (by o) where
  over : (id : ℕ) (o n : Option Link) → find (λ l. eqb l.id id) d.links ≡ n → Finds o n
      → Finds (lower_side c.hungs o) (lower_side d.hungs n)
  over id o n e (inr z) = rw z (inr refl)
  over id None n e (inl z) = rw z (inl refl)
  over id (Some l) n e (inl z) = rw z (live_finds c.hungs d.hungs l.lower (h.hungs id l (e ∙ z)))

  by : (o : Option Route) → Finds (down_by c.links c.hungs o) (down_by d.links d.hungs o)
  by None = inl refl
  by (Some r) = over r.id (find (λ l. eqb l.id r.id) c.links) (find (λ l. eqb l.id r.id) d.links) refl (h.ids r.id)

-- if each key is found as before or not at all, a link leads up as before, or nowhere
up_finds : (c d : Configuration) (addr : ℕ) (o n : Option Link) → Fewer c d → Finds o n
    → Finds (up_by c.binds addr o) (up_by d.binds addr n)
up_finds c d addr o n h (inr e) = rw e (inr refl)
up_finds c d addr o n h (inl e) = rw e (by o) where
  by : (o : Option Link) → Finds (up_by c.binds addr o) (up_by d.binds addr o)
  by None = inl refl
  by (Some l) = finds_by bound_side _ _ refl (h.binds l.ctl.driver addr)

-- if each key is found as before or not at all, the next place by a side is as before, or none
next_finds : (drivers : List DriverSpec) (c d : Configuration) (s : StreamId) (addr : ℕ) (x : Side) → Fewer c d
    → Finds (next_by drivers c s addr x) (next_by drivers d s addr x)
next_finds drivers c d s addr side.Write h =
    grind (arith, down_finds c d _ _ h (h.routes s.driver addr), h.routes s.driver addr)
next_finds drivers c d s addr side.Read h = up_finds c d addr _ _ h (h.lowers s)

-- if each key and a message are found as before or not at all, the message goes next as before, or nowhere
next_of_finds : (drivers : List DriverSpec) (c d : Configuration) (p : Place) (o n : Option Message) → Fewer c d
    → Finds o n → Finds (next_of drivers c p o) (next_of drivers d p n)
next_of_finds drivers c d p o n h (inr e) = rw e (inr refl)
next_of_finds drivers c d p o n h (inl e) = rw e (by o) where
  by : (o : Option Message) → Finds (next_of drivers c p o) (next_of drivers d p o)
  by None = inl refl
  by (Some m) = stays_by drivers c d p m.addr (next_finds drivers c d p.stream m.addr p.side h)

-- a change turns no place if each key and each first message is found as before or not at all
pub fewer_turns : (drivers : List DriverSpec) (c d : Configuration) → Fewer c d
    → ((r : Place) → Finds (first_message c.flow r) (first_message d.flow r)) → TurnsOnly drivers c d nowhere
fewer_turns drivers c d h f r n = next_of_finds drivers c d r (first_message c.flow r) (first_message d.flow r) h (f r)

-- each key occurs once
pub record IsKeyed (c : Configuration) : Type 0 where
  pub routes : AllLater (λ r s. (eqb r.driver s.driver && eqb r.addr s.addr) ≡ false) c.routes
  pub ids : AllLater (λ l k. eqb l.id k.id ≡ false) c.links
  pub lowers : AllLater (λ l k. same_stream l.lower k.lower ≡ false) c.links
  pub binds : AllLater (λ b e. (eqb b.driver e.driver && eqb b.addr e.addr) ≡ false) c.binds

-- among filtered routes the one for a driver and an address is found as before, or none
pub routes_find : (keep : Route → Bool) (c : Configuration) (driver addr : ℕ) → IsKeyed c
    → Finds (find (λ r. eqb r.driver driver && eqb r.addr addr) c.routes)
    (find (λ r. eqb r.driver driver && eqb r.addr addr) (filter keep c.routes))
routes_find keep c driver addr h = grind (arith, finds_kept, no_other_pair)

-- among filtered links the one with an id is found as before, or none
ids_find : (keep : Link → Bool) (c : Configuration) (id : ℕ) → IsKeyed c
    → Finds (find (λ l. eqb l.id id) c.links) (find (λ l. eqb l.id id) (filter keep c.links))
ids_find keep c id h = finds_kept _ _ keep c.links (λ x y t r. no_other_number x.id y.id id t r) h.ids

-- among filtered links the one above a stream is found as before, or none
lowers_find : (keep : Link → Bool) (c : Configuration) (s : StreamId) → IsKeyed c
    → Finds (find (λ l. same_stream l.lower s) c.links) (find (λ l. same_stream l.lower s) (filter keep c.links))
lowers_find keep c s h = search (rules, finds_kept, no_other_pair)

-- among filtered bindings the one for a driver and an address is found as before, or none
pub binds_find : (keep : Binding → Bool) (c : Configuration) (driver addr : ℕ) → IsKeyed c
    → Finds (find (λ b. eqb b.driver driver && eqb b.addr addr) c.binds)
    (find (λ b. eqb b.driver driver && eqb b.addr addr) (filter keep c.binds))
binds_find keep c driver addr h = grind (arith, finds_kept, no_other_pair)

-- after places are emptied each place has its first message as before, or none
pub first_emptied : (flow : List QueuedMessage) (goes : Place → Bool) (r : Place)
    → Finds (first_message flow r) (first_message (filter (λ h. not (goes h.place)) flow) r)
first_emptied flow goes r = grind (arith, emptied_queue flow goes r, front_is, front_is flow r)

-- emptying places turns no place
pub turns_emptied : (drivers : List DriverSpec) (c : Configuration) (goes : Place → Bool)
    → TurnsOnly drivers c (without_queues_at c goes) nowhere
turns_emptied drivers c goes = grind (arith, fewer_turns, same_finds, first_emptied)

-- removing links, with their routes and their lower streams' read sides, turns no place
pub turns_removed : (drivers : List DriverSpec) (c : Configuration) (goes : Link → Bool) → IsKeyed c
    → TurnsOnly drivers c (without_links c goes) nowhere
turns_removed drivers c goes h = fewer_turns drivers c (without_links c goes)
    (search (routes_find, ids_find, lowers_find, same_finds, rules)) (first_emptied c.flow _)

-- removing everything that belongs to streams that don't exist turns no place, if no link leads to such a stream
pub turns_dead : (drivers : List DriverSpec) (c : Configuration) → IsKeyed c
    → ((test : Link → Bool) (l : Link) → find test c.links ≡ Some l → exists drivers c l.lower ≡ true)
    → TurnsOnly drivers c (without_dead_streams drivers c) nowhere
turns_dead drivers c h lowers = fewer_turns drivers c (without_dead_streams drivers c)
    (record {
      routes = λ d a. inl refl;
      ids = λ i. inl refl;
      lowers = λ s. inl refl;
      binds = λ d a. binds_find _ c d a h;
      hungs = λ i l e k. stays l (lowers (λ l. eqb l.id i) l e) k;
    }) (first_emptied c.flow _) where
      stays : (l : Link) → exists drivers c l.lower ≡ true → is_hung c.hungs l.lower ≡ true
          → is_hung (filter (λ s. exists drivers c s) c.hungs) l.lower ≡ true
      stays l e k = any_filter (λ t. same_stream t l.lower) (λ s. exists drivers c s) c.hungs
          (λ t s. ap (exists drivers c) (same_stream_is t l.lower s) ∙ e) ∙ k

-- after links are removed, each key still occurs once
pub keyed_removed : (c : Configuration) (goes : Link → Bool) → IsKeyed c → IsKeyed (without_links c goes)
keyed_removed c goes h = grind (arith, later_filter)

-- the links are sound, and their upper drivers are in range
pub record AreRooted (drivers : List DriverSpec) (links : List Link) : Type 0 where
  pub sound : AreLinksSound links
  pub below : AllByRecursion (λ l. l.ctl.driver < length drivers) links

-- sound links whose upper drivers are in range stay so after a filter
pub rooted_filter : (drivers : List DriverSpec) (links : List Link) (test : Link → Bool) → AreRooted drivers links
    → AreRooted drivers (filter test links)
rooted_filter drivers links test h = grind (arith, sound_filter test links h.sound, each_filter _ test links h.below)

-- a sweep turns no place
pub turns_swept : (drivers : List DriverSpec) (c : Configuration) → IsKeyed c → AreRooted drivers c.links
    → TurnsOnly drivers c (after_sweep drivers c) nowhere
turns_swept drivers c h r = turns_then drivers c (without_links c loose) (after_sweep drivers c) nowhere
    (turns_removed drivers c loose h)
    (turns_dead drivers (without_links c loose) (keyed_removed c loose h)
    (λ test l e. lower_exists drivers (without_links c loose) test l keeps e)) where
      loose : Link → Bool
      loose l = not (is_persistent l) && not (exists drivers c l.ctl)

      rooted : AreRooted drivers (without_links c loose).links
      rooted = rooted_filter drivers c.links (λ l. not (loose l)) r

      keeps : AreKeepingLowers drivers (without_links c loose)
      keeps = record { no_cycle = rooted.sound.no_cycle; below = rooted.below; alive = (swept_is drivers c).links }
