-- Each kind of step on the first word keeps the rule of the turn.
use Rattle.std.proofs.Common.{◌≡◌, ◌≢◌, inl, inr, ⊎_elim, ℕ, ◌+◌, ◌<◌, ◌≤◌, List, [], ◌∷◌}
use Rattle.std.proofs.Common.{set, Bool, true, false, true≢false, Some, refl, sym, ap, ap₂, ◌∙◌, subst, arith}
use Rattle.std.specs.Prelude.{slice_index, bit_or}
use mathlib.Core.Option as maybe
use mathlib.Core.Option.{none, some}
use lib.ListN.{get_elem?}
use Rattle.atomic_table.specs.Table.{State, Act, step, keeps, takes, gives, Valid, carried_after, homes_after, Allows}
use Rattle.atomic_table.proofs.Lists.{at_set}
use Rattle.smx_types.specs.declared.command.Entry.{Entry}
use Rattle.smx_types.specs.declared.driver.DriverSpec.{DriverSpec}
use Rattle.smx_shared.specs.Fronts.{front_of}
use Rattle.smx_shared.specs.Recorded.{Recorded, IsSoundSystem}
use Rattle.smx_shared.specs.Seats.{entries_of, AreMetBy, GoesOnNamed}
use Rattle.smx_shared.specs.SeatViews.{Mine, after_step, Shows, Looked, Taken, Published, history_in, HasTurn, AddsFor}
use Rattle.smx_shared.specs.TurnRule.{Slot, Turn, free, held, bit_of, home_of, system_with, Fits, IsNamed, TurnRule}
use Rattle.smx_shared.specs.declared.seat_view.SeatView.{SeatView}
use Rattle.smx_shared.proofs.OwnEntryLemmas.{begins_trans, begins_itself, goes_on_trans, goes_on_itself}
use Rattle.smx_shared.proofs.OwnEntryLemmas.{adds_named, goes_on_begins, others_stay}
use Rattle.smx_shared.proofs.MetSeatLemmas.{met_apart_kept, met_stays}
use Rattle.smx_shared.proofs.SeatListLemmas.{apart_kept, HasHolder, holder_stays, holder_now, held_same}
use Rattle.smx_shared.proofs.FrontWordLemmas.{or_free, or_held}

-- the words, the slot and all seats of a shared system
abbrev Table : Type 0
Table = State Slot SeatView

-- no seat holds a turn that is free
pub not_free : (j : ℕ) → free ≡ held j → ⊥
not_free j e = cc

-- a test that fails does not hold
pub off : false ≡ true → ⊥
off e = true≢false (sym e)

-- the first word
word_is : (d : List DriverSpec) (start : List Entry) (count l : ℕ) (s : Table) (r : TurnRule d l start count s)
    → slice_index s.words 0 ≡ front_of d r.history + bit_of r.turn
word_is d start count l s r = ap (λ (ws : List ℕ). slice_index ws 0) r.words

-- ---- steps on the first word

-- the rule after a step of seat `id` on the first word
moved : (d : List DriverSpec) (start : List Entry) (count l id : ℕ) (s : Table) (r : TurnRule d l start count s)
    (v w : SeatView) (h : List Entry) (t : Turn) (n : ℕ) (homes : List (maybe.Option Slot))
    → get_elem? s.views id ≡ some v → n ≡ front_of d h + bit_of t → IsSoundSystem (system_with d l h)
    → GoesOnNamed count start h → homes ≡ home_of (system_with d l h) t ∷ []
    → ((j : ℕ) (u : SeatView) → j ≢ id → get_elem? s.views j ≡ some u → Fits d l h t r.names r.namer j u)
    → Fits d l h t r.names r.namer id w
    → HasHolder t (set s.views id w) → (IsNamed w → IsNamed v) → w.process ≡ v.process → w.met ≡ v.met
    → TurnRule d l start count record { words = set s.words 0 n; homes = homes; views = set s.views id w }
moved d start count l id s r v w h t n homes at is sound begun home others mine holder named process met = record {
  history = h;
  names = r.names;
  namer = r.namer;
  turn = t;
  sound = sound;
  begun = begun;
  few = r.few;
  words = ap (λ (ws : List ℕ). set ws 0 n) r.words ∙ ap (λ (k : ℕ). k ∷ r.names ∷ []) is;
  home = home;
  each = λ j u e. ⊎_elim
      (λ (x : (j ≡ id) × (w ≡ u)). subst (λ (y : ℕ × SeatView). Fits d l h t r.names r.namer y.0 y.1)
      (λ i. (sym x.0 i, x.1 i)) mine)
      (λ (x : (j ≢ id) × (get_elem? s.views j ≡ some u)). others j u x.0 x.1)
      (at_set s.views id j w u e);
  holder = holder;
  apart = apart_kept s.views id v w r.apart at named process;
  met_apart = met_apart_kept s.views id v w r.met_apart at named process met;
}

-- another seat, if the history has grown by entries that are not its own
stays : (d : List DriverSpec) (l : ℕ) (h h' : List Entry) (t t' : Turn) (n m j : ℕ) (u : SeatView) → GoesOnNamed n h h'
    → (IsNamed u → entries_of u.process h ≡ entries_of u.process h')
    → (u.turn ≡ true → (t' ≡ held j) × (h ≡ h'))
    → (AreMetBy (system_with d l h) u.met → AreMetBy (system_with d l h') u.met) → Fits d l h t n m j u
    → Fits d l h' t' n m j u
stays d l h h' t t' n m j u more own turn met f = record {
  same = f.same;
  seen = begins_trans u.seen h h' f.seen (goes_on_begins n h h' more);
  met = met f.met;
  met_named = f.met_named;
  turn = λ on. let g = turn on in (g.0, (f.turn on).1 ∙ g.1, (f.turn on).2);
  later = λ whole. goes_on_trans n u.seen h h' (f.later whole) more;
  own = λ whole named. ((f.own whole named).0, (f.own whole named).1 ∙ own (whole, named));
  right = f.right;
}

-- what the rule shows to a seat
shows : (d : List DriverSpec) (l : ℕ) (h : List Entry) (t : Turn) (n m j : ℕ) (v : SeatView) → v.spent ≡ false
    → Fits d l h t n m j v → IsSoundSystem (system_with d l h) → Shows v h
shows d l h t n m j v whole f sound = let c = f.same whole in record {
  grown = f.seen;
  sound = subst IsSoundSystem (ap₂ (λ (ds : List DriverSpec) (k : ℕ). system_with ds k h) (sym c.0) (sym c.1)) sound;
  met = subst (λ (s : Recorded). AreMetBy s v.met)
      (ap₂ (λ (ds : List DriverSpec) (k : ℕ). system_with ds k h) (sym c.0) (sym c.1)) f.met;
  own = λ named. (f.own whole named).1;
}

-- the seat itself, after a step that showed it the history
seated : (d : List DriverSpec) (l : ℕ) (h : List Entry) (t t' : Turn) (names namer j : ℕ) (v : SeatView) (n : ℕ)
    (on : Bool) → Fits d l h t names namer j v → (on ≡ true → (t' ≡ held j) × IsNamed v)
    → Fits d l h t' names namer j (after_step v h n on v.own)
seated d l h t t' names namer j v n on f turn = grind (arith, begins_itself h, goes_on_itself names h)

-- a load, by a seat without the turn
pub looks : (d : List DriverSpec) (start : List Entry) (count l slots id : ℕ) (me : Mine) → me.0.spent ≡ false
    → me.0.turn ≡ false → Allows (TurnRule d l start count) slots id me 0 (λ n. n) (Looked (step slots 0 0 0 none) me)
looks d start count l slots id me whole idle s r wide at small =
    let n : ℕ = slice_index s.words 0 in let f = r.each id me.0 at in let c = f.same whole in
    let w = after_step me.0 r.history n false me.0.own in (
      w,
      keeps,
      tt,
      moved d start count l id s r me.0 w r.history r.turn n s.homes at (word_is d start count l s r) r.sound r.begun
          r.home (λ j u _ e. r.each j u e)
          (seated d l r.history r.turn r.turn r.names r.namer id me.0 n false f (λ e. absurd (off e)))
          (holder_stays s.views r.turn id me.0 w at idle r.holder) (λ i. i) refl refl,
      (
        r.history,
        r.turn,
        shows d l r.history r.turn r.names r.namer id me.0 whole f r.sound,
        word_is d start count l s r ∙ ap (λ (ds : List DriverSpec). front_of ds r.history + bit_of r.turn) (sym c.0),
        refl,
      ),
    )

-- what a step of seat `id` on the first word owes, if the word becomes `n`
abbrev Goes : (d : List DriverSpec) (start : List Entry) (count l id : ℕ) → Table → Mine → ℕ → (Mine → Type 0) → Type 0
Goes d start count l id s me n told =
    (w : SeatView) × (a : Act Slot) × Valid s.homes me.1 a
    × TurnRule d l start count record {
      words = set s.words 0 n;
      homes = homes_after s.homes me.1 a;
      views = set s.views id w;
    }
    × told (w, carried_after me.1 a)

-- the turn bit is set, whether the turn was free or held
takes_by : (d : List DriverSpec) (start : List Entry) (count l id : ℕ) (me : Mine) (s : Table)
    (r : TurnRule d l start count s) (t : Turn) → r.turn ≡ t → IsNamed me.0 → me.0.turn ≡ false
    → get_elem? s.views id ≡ some me.0
    → (n : ℕ) → n ≡ front_of d r.history + bit_of t
    → Goes d start count l id s me (bit_or n 1) (Taken (step 0 0 1 0 none) me n)
takes_by d start count l id me s r free is named idle at n found =
    let whole = named.0 in let f = r.each id me.0 at in let c = f.same whole in
    let w = after_step me.0 r.history n true me.0.own in
    let home : s.homes ≡ some (Some (system_with d l r.history)) ∷ [] = r.home
    ∙ ap (λ (t : Turn). home_of (system_with d l r.history) t ∷ []) is in
    let zero : front_of d r.history + 0 ≡ front_of d r.history = omega arith in
    let even : n ≡ front_of d r.history = found ∙ zero in (
      w,
      takes 0 (Some (system_with d l r.history)),
      ap (λ (hs : List (maybe.Option Slot)). get_elem? hs 0) home,
      moved d start count l id s r me.0 w r.history (held id) (bit_or n 1) (set s.homes 0 none) at
          (ap (λ (k : ℕ). bit_or k 1) even ∙ or_free d r.history) r.sound r.begun
          (ap (λ (hs : List (maybe.Option Slot)). set hs 0 none) home)
          (λ j u _ e. stays d l r.history r.history r.turn (held id) r.names r.namer j u
          (goes_on_itself r.names r.history) (λ _. refl)
          (λ on. absurd (not_free j (sym is ∙ ((r.each j u e).turn on).0))) (λ x. x) (r.each j u e))
          (seated d l r.history r.turn (held id) r.names r.namer id me.0 n true f
          (λ _. (refl, named)))
          (holder_now s.views id me.0 w at refl) (λ i. i) refl refl,
      (
        r.history,
        shows d l r.history r.turn r.names r.namer id me.0 whole f r.sound,
        inr (
          even ∙ ap (λ (ds : List DriverSpec). front_of ds r.history) (sym c.0),
          ap₂ (λ (ds : List DriverSpec) (k : ℕ). (
            after_step me.0 r.history n true me.0.own,
            (0, Some (system_with ds k r.history)) ∷ me.1,
          )) (sym c.0) (sym c.1),
        ),
      ),
    )
takes_by d start count l id me s r (held k) is named idle at n found =
    let whole = named.0 in let f = r.each id me.0 at in let c = f.same whole in
    let w = after_step me.0 r.history n false me.0.own in (
      w,
      keeps,
      tt,
      moved d start count l id s r me.0 w r.history r.turn (bit_or n 1) s.homes at
          (ap (λ (x : ℕ). bit_or x 1) found ∙ or_held d r.history ∙ ap (λ (t : Turn). front_of d r.history + bit_of t)
          (sym is)) r.sound r.begun r.home (λ j u _ e. r.each j u e)
          (seated d l r.history r.turn r.turn r.names r.namer id me.0 n false f (λ e. absurd (off e)))
          (holder_stays s.views r.turn id me.0 w at idle r.holder) (λ i. i) refl refl,
      (
        r.history,
        shows d l r.history r.turn r.names r.namer id me.0 whole f r.sound,
        inl (found ∙ ap (λ (ds : List DriverSpec). front_of ds r.history + 1) (sym c.0), refl),
      ),
    )

-- the turn bit is set by a named seat without the turn
pub takes_turn : (d : List DriverSpec) (start : List Entry) (count l slots id : ℕ) (me : Mine) → IsNamed me.0
    → me.0.turn ≡ false → Allows (TurnRule d l start count) slots id me 0 (λ n. bit_or n 1)
    (Taken (step slots 0 1 0 none) me)
takes_turn d start count l slots id me named idle s r wide at small =
    takes_by d start count l id me s r r.turn refl named idle at (slice_index s.words 0) (word_is d start count l s r)

-- the holder stores the front of the system in its slot, and the slot goes home
pub publishes : (d : List DriverSpec) (start : List Entry) (count l slots id n : ℕ) (me : Mine) (h : List Entry)
    → HasTurn me (Some (system_with me.0.drivers me.0.limit h)) → me.0.named ≡ true → AddsFor me.0.process me.0.seen h
    → IsSoundSystem (system_with me.0.drivers me.0.limit h) → n ≡ front_of me.0.drivers h
    → Allows (TurnRule d l start count) slots id me 0 (λ _. n) (λ _. Published (step slots 0 n 0 none) me n)
publishes d start count l slots id n me h has named more sound front_is s r wide at small =
    let f = r.each id me.0 at in let c = f.same has.whole in let t = f.turn has.turn in
    let mine = f.own has.whole named in
    let w = after_step me.0 (history_in me.1) n false (entries_of me.0.process (history_in me.1)) in
    let entries : history_in me.1 ≡ h = ap history_in has.has in
    let slot : me.1 ≡ (0, Some (system_with d l h)) ∷ [] = has.has
    ∙ ap₂ (λ (ds : List DriverSpec) (k : ℕ). (0, Some (system_with ds k h)) ∷ []) c.0 c.1 in
    let now : AddsFor me.0.process r.history h = subst (λ (old : List Entry). AddsFor me.0.process old h) t.1 more in
    let longer : GoesOnNamed r.names r.history h = adds_named me.0.process r.names r.history h now mine.0 in
    let home : s.homes ≡ none ∷ [] = r.home ∙ ap (λ (t : Turn). home_of (system_with d l r.history) t ∷ []) t.0 in
    let zero : front_of d h + 0 ≡ front_of d h = omega arith in (
      w,
      gives,
      tt,
      moved d start count l id s r me.0 w h free n (homes_after s.homes me.1 gives) at
          (front_is ∙ ap (λ (ds : List DriverSpec). front_of ds h) c.0 ∙ sym zero)
          (subst IsSoundSystem (ap₂ (λ (ds : List DriverSpec) (k : ℕ). system_with ds k h) c.0 c.1) sound)
          (goes_on_trans count start r.history h r.begun (adds_named me.0.process count r.history h now
          (let below : me.0.process < r.names = mine.0 in let few : r.names ≤ count = r.few in omega arith)))
          (ap₂ (λ (hs : List (maybe.Option Slot)) (c : List (ℕ × Slot)). homes_after hs c gives) home slot)
          (λ j u other e. stays d l r.history h r.turn free r.names r.namer j u longer
          (λ is_named. others_stay me.0.process u.process r.history h now
          (λ same. other (r.apart j id u me.0 e at is_named (has.whole, named) same)))
          (λ up. absurd (other (held_same j id (sym ((r.each j u e).turn up).0 ∙ t.0))))
          (met_stays me.0.process d l r.history h u.met now (r.met_apart j id u me.0 e at (has.whole, named)))
          (r.each j u e))
          (subst (λ (x : List Entry). Fits d l h free r.names r.namer id
          (after_step me.0 x n false (entries_of me.0.process x))) (sym entries)
          record {
            same = f.same;
            seen = begins_itself h;
            met = met_stays me.0.process d l r.history h me.0.met now
                (r.met_apart id id me.0 me.0 at at (has.whole, named)) f.met;
            met_named = f.met_named;
            turn = λ e. absurd (off e);
            later = λ _. goes_on_itself r.names h;
            own = λ _ _. (mine.0, refl);
            right = f.right;
          })
          (λ j e. absurd (not_free j e)) (λ i. i) refl refl,
      (subst (AddsFor me.0.process me.0.seen) (sym entries) more, refl),
    )
