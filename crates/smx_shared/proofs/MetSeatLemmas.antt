-- Seats that were met, and then given up.
use Rattle.std.proofs.Common.{◌≡◌, ◌≢◌, ⊎_elim, ℕ, ◌+◌, List, [], ◌∷◌, ◌++◌, length, set, false, true≢false, sym}
use Rattle.std.proofs.Common.{ap, ◌∙◌, subst, arith}
use mathlib.Core.Option.{some}
use lib.ListN.{get_elem?}
use Rattle.atomic_table.proofs.Lists.{at_set}
use Rattle.smx_types.specs.declared.command.Entry.{Entry}
use Rattle.smx_types.specs.declared.driver.DriverSpec.{DriverSpec}
use Rattle.smx_shared.specs.Seats.{AreMetBy, IsNotMet}
use Rattle.smx_shared.specs.SeatViews.{after_meeting, spent_view, AddsFor}
use Rattle.smx_shared.specs.TurnRule.{system_with, AreMetBelow, AreMetApart, AreNamedApart, IsNamed}
use Rattle.smx_shared.specs.declared.seat_view.MetSeat.{MetSeat}
use Rattle.smx_shared.specs.declared.seat_view.SeatView.{SeatView}
use Rattle.smx_shared.proofs.EachLemmas.{all_append, all_weaker}
use Rattle.smx_shared.proofs.OwnEntryLemmas.{adds_begins, begins_trans, others_stay}
use Rattle.smx_shared.proofs.SeatListLemmas.{at_end}

-- ---- lists of them

-- processes of met seats that are below a name are below the next name
pub met_named_more : (n : ℕ) (xs : List MetSeat) → AreMetBelow n xs → AreMetBelow (n + 1) xs
met_named_more n xs below = grind (arith, all_weaker)

-- if the processes of all met seats are below a name, none of them has that name
pub not_met_next : (n p : ℕ) (xs : List MetSeat) → p ≡ n → AreMetBelow n xs → IsNotMet p xs
not_met_next n p xs is below = grind (arith, all_weaker)

-- the entries of their processes are unchanged if another process adds one
pub met_stays : (p : ℕ) (d : List DriverSpec) (l : ℕ) (h h' : List Entry) (xs : List MetSeat) → AddsFor p h h'
    → IsNotMet p xs → AreMetBy (system_with d l h) xs → AreMetBy (system_with d l h') xs
met_stays p d l h h' [] a apart met = tt
met_stays p d l h h' (x ∷ xs) a apart met =
    grind (
      arith,
      begins_trans x.seen h h' met.0.seen (adds_begins p h h' a),
      adds_begins p h h' a,
      others_stay p x.process h h' a apart.0,
      met_stays p d l h h' xs a apart.1 met.1,
    )

-- ---- no named seat has a process of a met seat

-- if one seat changes
pub met_apart_set : (views : List SeatView) (id : ℕ) (w : SeatView) → AreMetApart views
    → ((j : ℕ) (u : SeatView) → j ≢ id → get_elem? views j ≡ some u → IsNamed u → IsNotMet u.process w.met)
    → ((j : ℕ) (u : SeatView) → j ≢ id → get_elem? views j ≡ some u → IsNamed w → IsNotMet w.process u.met)
    → (IsNamed w → IsNotMet w.process w.met) → AreMetApart (set views id w)
met_apart_set views id w apart by_others of_others own i j u v at_i at_j named =
    ⊎_elim
    (λ (x : (i ≡ id) × (w ≡ u)). ⊎_elim
    (λ (y : (j ≡ id) × (w ≡ v)). subst (λ (z : SeatView × SeatView). IsNotMet z.1.process z.0.met) (λ k. (x.1 k, y.1 k))
    (own (subst IsNamed (sym y.1) named)))
    (λ (y : (j ≢ id) × (get_elem? views j ≡ some v)).
    subst (λ (z : SeatView). IsNotMet v.process z.met) x.1 (by_others j v y.0 y.1 named))
    (at_set views id j w v at_j))
    (λ (x : (i ≢ id) × (get_elem? views i ≡ some u)). ⊎_elim
    (λ (y : (j ≡ id) × (w ≡ v)). subst (λ (z : SeatView). IsNotMet z.process u.met) y.1
    (of_others i u x.0 x.1 (subst IsNamed (sym y.1) named)))
    (λ (y : (j ≢ id) × (get_elem? views j ≡ some v)). apart i j u v x.1 y.1 named)
    (at_set views id j w v at_j))
    (at_set views id i w u at_i)

-- if it keeps its name and has met no other
pub met_apart_kept : (views : List SeatView) (id : ℕ) (v w : SeatView) → AreMetApart views → get_elem? views id ≡ some v
    → (IsNamed w → IsNamed v) → w.process ≡ v.process → w.met ≡ v.met → AreMetApart (set views id w)
met_apart_kept views id v w apart at named process met = grind (arith, met_apart_set, apart id, apart id id v v at at)

-- if a seat is new
pub met_apart_end : (views : List SeatView) (w : SeatView) → AreMetApart views → w.named ≡ false → w.met ≡ []
    → AreMetApart (views ++ w ∷ [])
met_apart_end views w apart unnamed none i j u v at_i at_j named =
    ⊎_elim
    (λ (y : (j ≢ length views) × (get_elem? views j ≡ some v)). ⊎_elim
    (λ (x : (i ≢ length views) × (get_elem? views i ≡ some u)). apart i j u v x.1 y.1 named)
    (λ (x : (i ≡ length views) × (w ≡ u)). subst (λ (z : SeatView). IsNotMet v.process z.met) x.1
    (subst (IsNotMet v.process) (sym none) tt))
    (at_end views w u i at_i))
    (λ (y : (j ≡ length views) × (w ≡ v)).
    absurd (true≢false (sym named.1 ∙ ap (λ (z : SeatView). z.named) (sym y.1) ∙ unnamed)))
    (at_end views w v j at_j)

-- if a seat meets another one, which is then spent
pub met_apart_meeting : (views : List SeatView) (id other : ℕ) (v w : SeatView) → AreNamedApart views
    → AreMetApart views → get_elem? views id ≡ some v → other ≢ id → get_elem? views other ≡ some w → IsNamed w
    → AreMetApart (set (set views id (after_meeting v w)) other spent_view)
met_apart_meeting views id other v w apart met_apart at others there named_w i j u x at_i at_j named =
    let both = set views id (after_meeting v w) in
    let live : (j ≢ other) × (y : SeatView) × (get_elem? views j ≡ some y) × (y.process ≡ x.process)
    × IsNamed y = ⊎_elim
    (λ (a : (j ≡ other) × (spent_view ≡ x)). absurd (true≢false (ap (λ (z : SeatView). z.spent) a.1 ∙ named.0)))
    (λ (a : (j ≢ other) × (get_elem? both j ≡ some x)). ⊎_elim
    (λ (b : (j ≡ id) × (after_meeting v w ≡ x)). (
      a.0,
      v,
      ap (get_elem? views) b.0 ∙ at,
      ap (λ (z : SeatView). z.process) b.1,
      subst IsNamed (sym b.1) named,
    ))
    (λ (b : (j ≢ id) × (get_elem? views j ≡ some x)). (a.0, x, b.1, (λ k. x.process), named))
    (at_set views id j (after_meeting v w) x a.1))
    (at_set both other j spent_view x at_j) in
    let y = live.1 in
    let not_by : (k : ℕ) (z : SeatView) → get_elem? views k ≡ some z
    → IsNotMet x.process z.met =
    λ k z e. subst (λ (p : ℕ). IsNotMet p z.met) live.3 (met_apart k j z y e live.2 live.4) in
    ⊎_elim
    (λ (a : (i ≡ other) × (spent_view ≡ u)). subst (λ (z : SeatView). IsNotMet x.process z.met) a.1 tt)
    (λ (a : (i ≢ other) × (get_elem? both i ≡ some u)). ⊎_elim
    (λ (b : (i ≡ id) × (after_meeting v w ≡ u)). subst (λ (z : SeatView). IsNotMet x.process z.met) b.1 (
      (λ same. live.0 (apart j other y w live.2 there live.4 named_w (live.3 ∙ sym same))),
      all_append (λ (z : MetSeat). z.process ≢ x.process) w.met v.met (not_by other w there) (not_by id v at),
    ))
    (λ (b : (i ≢ id) × (get_elem? views i ≡ some u)). not_by i u b.1)
    (at_set views id i (after_meeting v w) u a.1))
    (at_set both other i spent_view u at_i)
