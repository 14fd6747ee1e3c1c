-- The knowledge that a seat gains by each step.
use Rattle.std.proofs.Common.{◌≡◌, ◌≢◌, ⊎_elim, ℕ, ◌+◌, ◌%◌, List, [], ◌∷◌, Bool, true, false, Some, None}
use Rattle.std.proofs.Common.{refl, sym, ap, ap₂, ◌∙◌, subst, arith, ◌<◌, ◌≤◌, true≢false}
use mathlib.Core.Option as maybe
use mathlib.Core.Option.{none, some, some-injective}
use lib.ListN.{get_elem?}
use Rattle.atomic_table.specs.Table.{Final, Seen, State, step, rest}
use Rattle.smx_types.specs.declared.command.Entry.{Entry}
use Rattle.smx_types.specs.declared.driver.DriverSpec.{DriverSpec}
use Rattle.smx_shared.specs.Fronts.{front_of}
use Rattle.smx_shared.specs.Recorded.{Recorded, IsSoundSystem}
use Rattle.smx_shared.specs.Seats.{entries_of, AreMetBy, GoesOnNamed, IsBeginningOf, HasMetAll}
use Rattle.smx_shared.specs.SeatViews.{Mine, after_step, Shows, Looked, Taken}
use Rattle.smx_shared.specs.SeatViews.{known_of, system_of, IsAtRest, RestsAfter, HasTurn, HasGrown, FoundWord, AddsFor}
use Rattle.smx_shared.specs.TurnRule.{Slot, Turn, free, held, bit_of, home_of, system_with, IsNamed, TurnRule}
use Rattle.smx_shared.specs.declared.seat_view.SeatView.{SeatView}
use Rattle.smx_shared.proofs.OwnEntryLemmas.{begins_trans}
use Rattle.smx_shared.proofs.FrontWordLemmas.{held_odd, free_even, front_and_bit}

-- ---- growing

-- seeing more is transitive
pub grown_trans : (u v w : SeatView) → HasGrown u v → HasGrown v w → HasGrown u w
grown_trans u v w p q = grind (arith, begins_trans u.seen v.seen w.seen p.seen q.seen)

-- growing by a step that showed the seat a history
grown_by : (v : SeatView) (h : List Entry) (n : ℕ) (on : Bool) (own : List Entry) → Shows v h
    → HasGrown v (after_step v h n on own)
grown_by v h n on own s = grind arith

-- ---- a load

-- what a load shows a seat at rest
pub looked : (m m' : Mine) (n : ℕ) → IsAtRest m → Looked (step 0 0 0 0 none) m n m'
    → RestsAfter m.0 m' × FoundWord m.0 m'.0 n
looked m m' n r t = subst (λ (k : Mine). RestsAfter m.0 k × FoundWord m.0 k.0 n) (sym t.4) (
  ((r.0, refl, r.2), grown_by m.0 t.0 n false m.0.own t.2, record { sound = t.2.sound; own = t.2.own }),
  record { looks = refl; last = refl; own = refl; front = front_and_bit m.0.drivers n t.0 t.1 t.3 },
)

-- ---- the turn

-- the turn was free, and now this seat has it
pub taken_free : (m m' : Mine) (n : ℕ) → IsAtRest m → Taken (step 0 0 1 0 none) m n m' → n % 2 ≡ 0 →
    HasTurn m' (Some (system_of m'.0)) × HasGrown m.0 m'.0 × (m'.0.own ≡ m.0.own) × (m'.0.looks ≡ m.0.looks + 1)
taken_free m m' n r t even = ⊎_elim
    (λ (x : (n ≡ front_of m.0.drivers t.0 + 1)
    × (m' ≡ (after_step m.0 t.0 n false m.0.own, m.1))).
    absurd (let odd = held_odd m.0.drivers n t.0 x.0 in omega arith))
    (λ (x : (n ≡ front_of m.0.drivers t.0)
    × (m' ≡ (after_step m.0 t.0 n true m.0.own, (0, Some (system_with m.0.drivers m.0.limit t.0)) ∷ m.1))).
    subst (λ (k : Mine). HasTurn k (Some (system_of k.0)) × HasGrown m.0 k.0 × (k.0.own ≡ m.0.own)
    × (k.0.looks ≡ m.0.looks + 1)) (sym x.1) (
      record {
        turn = refl;
        whole = r.2;
        has = ap (λ (l : List (ℕ × Slot)). (0, Some (system_with m.0.drivers m.0.limit t.0)) ∷ l) r.0;
        informed = record { sound = t.1.sound; own = t.1.own };
      },
      grown_by m.0 t.0 n true m.0.own t.1,
      refl,
      refl,
    ))
    t.2

-- the turn was held, as the word shows
pub taken_held : (m m' : Mine) (n : ℕ) → IsAtRest m → Taken (step 0 0 1 0 none) m n m' → n % 2 ≢ 0 →
    RestsAfter m.0 m' × FoundWord m.0 m'.0 n × (n % 2 ≡ 1)
taken_held m m' n r t odd = ⊎_elim
    (λ (x : (n ≡ front_of m.0.drivers t.0 + 1) × (m' ≡ (after_step m.0 t.0 n false m.0.own, m.1))).
    let one : n % 2 ≡ 1 = held_odd m.0.drivers n t.0 x.0 in
    subst (λ (k : Mine). RestsAfter m.0 k × FoundWord m.0 k.0 n × (n % 2 ≡ 1)) (sym x.1) (
      ((r.0, refl, r.2), grown_by m.0 t.0 n false m.0.own t.1, record { sound = t.1.sound; own = t.1.own }),
      record { looks = refl; last = refl; own = refl; front = front_and_bit m.0.drivers n t.0 (held 0) x.0 },
      one,
    ))
    (λ (x : (n ≡ front_of m.0.drivers t.0)
    × (m' ≡ (after_step m.0 t.0 n true m.0.own, (0, Some (system_with m.0.drivers m.0.limit t.0)) ∷ m.1))).
    absurd (odd (free_even m.0.drivers n t.0 x.0)))
    t.2

-- ---- out of the slot and back

-- a system is determined by its drivers, its limit and its history
same_system : (s : Recorded) (drivers : List DriverSpec) (limit : ℕ) → s.drivers ≡ drivers → s.limit ≡ limit
    → s ≡ system_with drivers limit s.history
same_system s drivers limit d l = ap₂ (λ (ds : List DriverSpec) (k : ℕ). system_with ds k s.history) d l

-- the slot of a seat that has the turn is the first that is out with it
pub has_slot : (m : Mine) (slot : Slot) → HasTurn m slot → m.1 ≡ (0, slot) ∷ rest m.1
has_slot m slot h = h.has ∙ ap (λ (l : List (ℕ × Slot)). (0, slot) ∷ rest l) (sym h.has)

-- a seat that is about to give the turn back: `m` has become `m1`, with this system in the slot
pub record IsReady (m m1 : Mine) (s : Recorded) (n : ℕ) : Type 0 where
  pub view : m1.0 ≡ m.0
  pub has : HasTurn m1 (Some (system_with m1.0.drivers m1.0.limit s.history))
  pub named : m1.0.named ≡ true
  pub more : AddsFor m1.0.process m1.0.seen s.history
  pub sound : IsSoundSystem (system_with m1.0.drivers m1.0.limit s.history)
  pub front : n ≡ front_of m1.0.drivers s.history

-- a seat with the turn can give it back with a sound system in the slot, if only its process has added to the history
pub ready : (m m1 : Mine) (s : Recorded) (n : ℕ) → HasTurn m None → m.0.named ≡ true → s.drivers ≡ m.0.drivers
    → s.limit ≡ m.0.limit → AddsFor m.0.process m.0.seen s.history
    → IsSoundSystem s → n ≡ front_of s.drivers s.history → m1 ≡ (m.0, (0, Some s) ∷ rest m.1) → IsReady m m1 s n
ready m m1 s n h named drivers limit more sound front is =
    let none_left : rest m.1 ≡ [] = ap rest h.has in
    let whole = same_system s m.0.drivers m.0.limit drivers limit in
    let same : m1 ≡ (m.0, (0, Some (system_with m.0.drivers m.0.limit s.history)) ∷ []) = is
    ∙ ap₂ (λ (l : List (ℕ × Slot)) (x : Recorded). (m.0, (0, Some x) ∷ l)) none_left whole in
    subst (λ (k : Mine). IsReady m k s n) (sym same) record {
      view = refl;
      has = record { turn = h.turn; whole = h.whole; has = refl; informed = h.informed };
      named = named;
      more = more;
      sound = subst IsSoundSystem whole sound;
      front = front ∙ ap (λ (ds : List DriverSpec). front_of ds s.history) drivers;
    }

-- ---- the end

-- nobody has the turn once a seat has met all others
nobody_left : (d : List DriverSpec) (l : ℕ) (start : List Entry) (count id : ℕ) (v : SeatView)
    (s : State Slot SeatView) (r : TurnRule d l start count s) → get_elem? s.views id ≡ some v → IsNamed v
    → v.turn ≡ false → HasMetAll count (known_of v) v.met → (t : Turn) → r.turn ≡ t → t ≡ free
nobody_left d l start count id v s r at named idle all free is = refl
nobody_left d l start count id v s r at named idle all (held j) is =
    let h = r.holder j is in let u = h.0 in let other = r.each j u h.1 in
    let named_u : IsNamed u = (other.turn h.2).2 in
    let below : u.process < count = let lt : u.process < r.names = (other.own named_u.0 named_u.1).0 in
    let few : r.names ≤ count = r.few in omega arith in
    let same : u.process ≡ v.process = all u.process below (r.met_apart id j v u at h.1 named_u) in
    let place : j ≡ id = r.apart j id u v h.1 at named_u named same in
    let view : u ≡ v = some-injective u v (sym h.1 ∙ ap (get_elem? s.views) place ∙ at) in
    absurd (true≢false (sym h.2 ∙ ap (λ (z : SeatView). z.turn) view ∙ idle))

-- at the end the word is a front with the turn bit, and if the turn is free, the slot has the system
pub closes : (d : List DriverSpec) (start : List Entry) (count l id : ℕ) (v : SeatView) (words : List ℕ)
    (slots : List Slot) (n : ℕ) (x : Slot) → Final (Seen (TurnRule d l start count) id v) words slots → v.spent ≡ false
    → get_elem? words 0 ≡ some n → get_elem? slots 0 ≡ some x
    → (h : List Entry) × IsSoundSystem (system_with v.drivers v.limit h) × IsBeginningOf v.seen h
    × (v.named ≡ true → v.own ≡ entries_of v.process h)
    × AreMetBy (system_with v.drivers v.limit h) v.met × (n ≡ front_of v.drivers h + n % 2)
    × (n % 2 ≡ 0 → x ≡ Some (system_with v.drivers v.limit h))
    × GoesOnNamed count start h × (v.drivers ≡ d) × (v.limit ≡ l)
    × (v.named ≡ true → v.turn ≡ false → HasMetAll count (known_of v) v.met → n % 2 ≡ 0)
closes d start count l id v words slots n x f whole word slot =
    let s = f.0 in let r = f.1.0 in let fits = r.each id v f.1.1 in let c = fits.same whole in
    let found : n ≡ front_of d r.history + bit_of r.turn = some-injective n (front_of d r.history + bit_of r.turn)
    (sym word ∙ ap (λ (ws : List ℕ). get_elem? ws 0) (sym f.2 ∙ r.words)) in
    let same : system_with d l r.history ≡ system_with v.drivers v.limit r.history = ap₂
    (λ (y : List DriverSpec) (z : ℕ). system_with y z r.history) (sym c.0) (sym c.1) in (
      r.history,
      subst IsSoundSystem same r.sound,
      fits.seen,
      (λ named. (fits.own whole named).1),
      subst (λ (y : Recorded). AreMetBy y v.met) same fits.met,
      front_and_bit d n r.history r.turn found ∙ ap (λ (y : List DriverSpec). front_of y r.history + n % 2) (sym c.0),
      (λ even.
          let t : r.turn ≡ free = is_free r.turn r.history even found in
          let home : get_elem? s.homes 0
          ≡ some (some (Some (system_with d l r.history))) = ap (λ (hs : List (maybe.Option Slot)). get_elem? hs 0)
          (r.home ∙ ap (λ (t : Turn). home_of (system_with d l r.history) t ∷ []) t) in
          some-injective x (Some (system_with d l r.history)) (sym slot ∙ f.4 0 (Some (system_with d l r.history)) home)
          ∙ ap (λ (y : Recorded). Some y) same),
      r.begun,
      c.0,
      c.1,
      (λ named idle all.
          let t : r.turn ≡ free = nobody_left d l start count id v s r f.1.1 (whole, named) idle all r.turn refl in
          free_even d n r.history (found ∙ ap (λ (t : Turn). front_of d r.history + bit_of t) t ∙ (omega arith))),
    )
  where
    is_free : (t : Turn) (h : List Entry) → n % 2 ≡ 0 → n ≡ front_of d h + bit_of t → t ≡ free
    is_free free h even e = refl
    is_free (held j) h even e = absurd (let odd = held_odd d n h e in omega arith)
