-- Names, new seats and meetings keep the rule of the turn, and it holds at the beginning.
use Rattle.std.proofs.Common.{◌≡◌, ◌≢◌, ⊎_elim, ℕ, zero, suc, ◌+◌, ◌%◌, ◌^◌, ◌<◌, List, [], ◌∷◌, length}
use Rattle.std.proofs.Common.{set, Bool, true, false, true≢false, Some, refl, sym, ap, ◌∙◌, subst, arith, cond}
use Rattle.std.specs.Prelude.{slice_index}
use Rattle.std.proofs.Math.Nat.{mod-eq_of_lt}
use mathlib.Core.Option.{none, some, some-injective, some-ne-none}
use lib.ListN.{get_elem?}
use Rattle.atomic_table.specs.Table.{opening, step, keeps, Allows, Splits, Joins}
use Rattle.atomic_table.proofs.Lists.{at_set, at_longer}
use Rattle.smx_types.specs.declared.command.Entry.{Entry}
use Rattle.smx_types.specs.declared.driver.DriverSpec.{DriverSpec}
use Rattle.smx_shared.specs.Fronts.{front_of}
use Rattle.smx_shared.specs.Recorded.{Recorded, IsSoundSystem}
use Rattle.smx_shared.specs.Seats.{IsMetBy}
use Rattle.smx_shared.specs.SeatViews.{Mine, first_view, spent_view, view_beside, without_right, after_meeting}
use Rattle.smx_shared.specs.SeatViews.{with_next_name, TookName}
use Rattle.smx_shared.specs.TurnRule.{Turn, free, bit_of, system_with, Fits, IsNamed, TurnRule}
use Rattle.smx_shared.specs.declared.seat_view.MetSeat.{MetSeat}
use Rattle.smx_shared.specs.declared.seat_view.SeatView.{SeatView}
use Rattle.smx_shared.proofs.OwnEntryLemmas.{begins_itself, goes_on_itself, goes_on_more, entries_early}
use Rattle.smx_shared.proofs.MetSeatLemmas.{met_named_more, not_met_next}
use Rattle.smx_shared.proofs.MetSeatLemmas.{met_apart_set, met_apart_kept, met_apart_end, met_apart_meeting}
use Rattle.smx_shared.proofs.SeatListLemmas.{apart_set, apart_kept, at_end, apart_end, holder_stays, holder_same}
use Rattle.smx_shared.proofs.EachLemmas.{all_append}
use Rattle.smx_shared.proofs.StepLemmas.{not_free, off}

-- ---- names, new seats, meetings

-- a seat with the right to the next name takes it
pub calls : (d : List DriverSpec) (start : List Entry) (count l slots id : ℕ) (me : Mine) → me.0.spent ≡ false
    → me.0.turn ≡ false → me.0.may_name ≡ true → me.0.next < 64 → me.0.next < count
    → Allows (TurnRule d l start count) slots id me 1 (λ n. (n + 1) % 2 ^ 64) (TookName (step slots 1 1 0 none) me)
calls d start count l slots id me whole idle right small_name one_of s r wide at small =
    let n : ℕ = slice_index s.words 1 in let v = me.0 in let f = r.each id v at in let g = f.right right in
    let found : n ≡ r.names = ap (λ (ws : List ℕ). slice_index ws 1) r.words in
    let next : v.next ≡ r.names = g.1 in
    let more : (n + 1) % 2 ^ 64 ≡ r.names + 1 = ap (λ (k : ℕ). (k + 1) % 2 ^ 64) found
    ∙ small_one r.names (subst (λ (k : ℕ). k < 64) next small_name) in
    let w = with_next_name v in (
      w,
      keeps,
      tt,
      record {
        history = r.history;
        names = r.names + 1;
        namer = r.namer;
        turn = r.turn;
        sound = r.sound;
        begun = r.begun;
        few = (let below : r.names < count = subst (λ (k : ℕ). k < count) next one_of in omega arith);
        words = ap (λ (ws : List ℕ). set ws 1 ((n + 1) % 2 ^ 64)) r.words
            ∙ ap (λ (k : ℕ). (front_of d r.history + bit_of r.turn) ∷ k ∷ []) more;
        home = r.home;
        each = λ j u e. ⊎_elim
            (λ (x : (j ≡ id) × (w ≡ u)).
            subst (λ (y : ℕ × SeatView). Fits d l r.history r.turn (r.names + 1) r.namer y.0 y.1)
            (λ i. (sym x.0 i, x.1 i)) record {
              same = f.same;
              seen = f.seen;
              met = f.met;
              met_named = met_named_more r.names v.met f.met_named;
              turn = λ on. absurd (true≢false (sym on ∙ idle));
              later = λ whole. goes_on_more r.names v.seen r.history (f.later whole);
              own = λ whole _. (
                (let is : v.next ≡ r.names = next in omega arith),
                entries_early r.names v.next v.seen r.history (f.later whole)
                    (let is : v.next ≡ r.names = next in omega arith),
              );
              right = λ _. (g.0, ap (λ (k : ℕ). k + 1) next, whole);
            })
            (λ (x : (j ≢ id) × (get_elem? s.views j ≡ some u)). let h = r.each j u x.1 in record {
              same = h.same;
              seen = h.seen;
              met = h.met;
              met_named = met_named_more r.names u.met h.met_named;
              turn = h.turn;
              later = λ whole. goes_on_more r.names u.seen r.history (h.later whole);
              own = λ whole named. let o = h.own whole named in
                  ((let lt : u.process < r.names = o.0 in omega arith), o.1);
              right = λ up. absurd (x.0 (sym (h.right up).0 ∙ g.0));
            })
            (at_set s.views id j w u e);
        holder = holder_stays s.views r.turn id v w at idle r.holder;
        apart = apart_set s.views id w r.apart (λ j u other e named _ same. let lt : u.process
            < r.names = ((r.each j u e).own named.0 named.1).0 in let is : u.process ≡ r.names = same ∙ next in
            absurd (omega arith));
        met_apart = met_apart_set s.views id w r.met_apart (λ j u other e named. r.met_apart id j v u at e named)
            (λ j u other e named. not_met_next r.names v.next u.met next (r.each j u e).met_named)
            (λ named. not_met_next r.names v.next v.met next f.met_named);
      },
      (found ∙ sym next, refl),
    )
  where
    small_one : (k : ℕ) → k < 64 → (k + 1) % 2 ^ 64 ≡ k + 1
    small_one k h = mod-eq_of_lt (omega arith)

-- a seat makes another one, and gives it the right to the next name
pub deals : (d : List DriverSpec) (start : List Entry) (count l id : ℕ) (v : SeatView)
    → Splits (TurnRule d l start count) id v (without_right v) (view_beside v)
deals d start count l id v s r at = let f = r.each id v at in let views = set s.views id (without_right v) in record {
  history = r.history;
  names = r.names;
  namer = cond v.may_name (length views) r.namer;
  turn = r.turn;
  sound = r.sound;
  begun = r.begun;
  few = r.few;
  words = r.words;
  home = r.home;
  each = λ j u e. ⊎_elim
      (λ (x : (j ≢ length views) × (get_elem? views j ≡ some u)). ⊎_elim
      (λ (y : (j ≡ id) × (without_right v ≡ u)).
      subst (λ (z : ℕ × SeatView). Fits d l r.history r.turn r.names (cond v.may_name (length views) r.namer) z.0 z.1)
      (λ i. (sym y.0 i, y.1 i))
      record {
        same = f.same;
        seen = f.seen;
        met = f.met;
        met_named = f.met_named;
        turn = f.turn;
        later = f.later;
        own = f.own;
        right = λ up. absurd (off up);
      })
      (λ (y : (j ≢ id) × (get_elem? s.views j ≡ some u)). let h = r.each j u y.1 in record {
        same = h.same;
        seen = h.seen;
        met = h.met;
        met_named = h.met_named;
        turn = h.turn;
        later = h.later;
        own = h.own;
        right = λ up. let g = h.right up in
            (keeps_right v.may_name (length views) r.namer j (λ mine. y.0 (sym g.0 ∙ (f.right mine).0)) g.0, g.1, g.2);
      })
      (at_set s.views id j (without_right v) u x.1))
      (λ (x : (j ≡ length views) × (view_beside v ≡ u)).
      subst (Fits d l r.history r.turn r.names (cond v.may_name (length views) r.namer) j) x.1 record {
        same = f.same;
        seen = f.seen;
        met = tt;
        met_named = tt;
        turn = λ e. absurd (off e);
        later = f.later;
        own = λ _ e. absurd (off e);
        right = λ up. let g = f.right up in (ap (λ (c : Bool). cond c (length views) r.namer) up ∙ sym x.0, g.1, g.2);
      })
      (at_end views (view_beside v) u j e);
  holder = λ j is. let h = holder_same s.views r.turn id v (without_right v) at refl r.holder j is in
      (h.0, at_longer views (view_beside v ∷ []) j h.0 h.1, h.2);
  apart = apart_end views (view_beside v) (apart_kept s.views id v (without_right v) r.apart at (λ i. i) refl) refl;
  met_apart =
      met_apart_end views (view_beside v)
      (met_apart_kept s.views id v (without_right v) r.met_apart at (λ i. i) refl refl) refl refl;
}
  where
    keeps_right : (c : Bool) (n m j : ℕ) → (c ≡ true → ⊥) → m ≡ j → cond c n m ≡ j
    keeps_right true n m j not is = absurd (not refl)
    keeps_right false n m j not is = is

-- a seat takes in what another one has seen, which is then spent
pub meets : (d : List DriverSpec) (start : List Entry) (count l id other : ℕ) (v w : SeatView) → w.turn ≡ false
    → IsNamed w → Joins (TurnRule d l start count) id v other w (after_meeting v w) spent_view
meets d start count l id other v w idle named s r at apart there =
    let f = r.each id v at in let views = set s.views id (after_meeting v w) in
    let was : get_elem? s.views other ≡ some w = ⊎_elim
    (λ (x : (other ≡ id) × (after_meeting v w ≡ w)). absurd (apart x.0))
    (λ (x : (other ≢ id) × (get_elem? s.views other ≡ some w)). x.1)
    (at_set s.views id other (after_meeting v w) w there) in
    let g : Fits d l r.history r.turn r.names r.namer other w = r.each other w was in record {
      history = r.history;
      names = r.names;
      namer = r.namer;
      turn = r.turn;
      sound = r.sound;
      begun = r.begun;
      few = r.few;
      words = r.words;
      home = r.home;
      each = λ j u e. ⊎_elim
          (λ (x : (j ≡ other) × (spent_view ≡ u)). subst (Fits d l r.history r.turn r.names r.namer j) x.1
          (blank r.history r.turn r.names r.namer j))
          (λ (x : (j ≢ other) × (get_elem? views j ≡ some u)). ⊎_elim
          (λ (y : (j ≡ id) × (after_meeting v w ≡ u)).
          subst (λ (z : ℕ × SeatView). Fits d l r.history r.turn r.names r.namer z.0 z.1) (λ i. (sym y.0 i, y.1 i))
          (joined r.history r.turn r.names r.namer f g))
          (λ (y : (j ≢ id) × (get_elem? s.views j ≡ some u)). r.each j u y.1)
          (at_set s.views id j (after_meeting v w) u x.1))
          (at_set views other j spent_view u e);
      holder = holder_stays views r.turn other w spent_view there idle
          (holder_same s.views r.turn id v (after_meeting v w) at refl r.holder);
      apart = apart_set views other spent_view (apart_kept s.views id v (after_meeting v w) r.apart at (λ i. i) refl)
          (λ j u _ _ _ named _. true≢false named.0);
      met_apart = met_apart_meeting s.views id other v w r.apart r.met_apart at apart was named;
    }
  where
    blank : (h : List Entry) (t : Turn) (n m j : ℕ) → Fits d l h t n m j spent_view
    blank h t n m j = record {
      same = λ e. absurd (true≢false e);
      seen = (h, refl);
      met = tt;
      met_named = tt;
      turn = λ e. absurd (off e);
      later = λ e. absurd (true≢false e);
      own = λ e _. absurd (true≢false e);
      right = λ e. absurd (off e);
    }

    joined : (h : List Entry) (t : Turn) (n m : ℕ) → Fits d l h t n m id v → Fits d l h t n m other w
        → Fits d l h t n m id (after_meeting v w)
    joined h t n m f g = record {
      same = f.same;
      seen = f.seen;
      met = (
        record {
          drivers = (g.same named.0).0;
          limit = (g.same named.0).1;
          seen = g.seen;
          exact = sym (g.own named.0 named.1).1;
        },
        all_append (IsMetBy (system_with d l h)) w.met v.met g.met f.met,
      );
      met_named = (
        (g.own named.0 named.1).0,
        all_append (λ (m : MetSeat). m.process < n) w.met v.met g.met_named f.met_named,
      );
      turn = f.turn;
      later = f.later;
      own = f.own;
      right = f.right;
    }

-- ---- the beginning

-- the new table, with the system at home in it
pub opens : (s : Recorded) (count n : ℕ) → n ≡ front_of s.drivers s.history → IsSoundSystem s
    → TurnRule s.drivers s.limit s.history count (opening (n ∷ 0 ∷ []) (Some s ∷ []) (first_view s))
opens s count n is sound =
    let zero : front_of s.drivers s.history + 0 ≡ front_of s.drivers s.history = omega arith in record {
      history = s.history;
      names = 0;
      namer = 0;
      turn = free;
      sound = sound;
      begun = goes_on_itself count s.history;
      few = omega arith;
      words = ap (λ (k : ℕ). k ∷ 0 ∷ []) (is ∙ sym zero);
      home = refl;
      each = first;
      holder = λ j e. absurd (not_free j e);
      apart = λ i j v w e _ named _ _. absurd (unnamed_yet i v e named.1);
      met_apart = λ i j v w _ e named. absurd (unnamed_yet j w e named.1);
    }
  where
    first : (j : ℕ) (v : SeatView) → get_elem? (first_view s ∷ []) j ≡ some v
        → Fits s.drivers s.limit s.history free 0 0 j v
    first zero v e = subst (Fits s.drivers s.limit s.history free 0 0 0) (some-injective (first_view s) v e) record {
      same = λ _. (refl, refl);
      seen = begins_itself s.history;
      met = tt;
      met_named = tt;
      turn = λ e. absurd (off e);
      later = λ _. goes_on_itself 0 s.history;
      own = λ _ e. absurd (off e);
      right = λ _. (refl, refl, refl);
    }
    first (suc j) v e = absurd (some-ne-none v (sym e))

    unnamed_yet : (j : ℕ) (v : SeatView) → get_elem? (first_view s ∷ []) j ≡ some v → v.named ≡ true → ⊥
    unnamed_yet zero v e named = off (ap (λ (z : SeatView). z.named) (some-injective (first_view s) v e) ∙ named)
    unnamed_yet (suc j) v e named = some-ne-none v (sym e)
