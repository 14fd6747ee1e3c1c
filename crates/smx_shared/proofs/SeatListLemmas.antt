-- The list of all seats, if one of them changes or is new.
use Rattle.std.proofs.Common.{◌≡◌, ◌≢◌, ◌⊎◌, inl, inr, ⊎_elim, ℕ, zero, suc, List, [], ◌∷◌, ◌++◌, length, set, true}
use Rattle.std.proofs.Common.{false, true≢false, refl, sym, ap, ◌∙◌, subst, arith}
use mathlib.Core.Option.{some, some-injective, some-ne-none}
use lib.ListN.{get_elem?}
use Rattle.atomic_table.proofs.Lists.{at_set, set_else}
use Rattle.smx_shared.specs.TurnRule.{Turn, held, IsNamed, AreNamedApart}
use Rattle.smx_shared.specs.declared.seat_view.SeatView.{SeatView}

-- ---- named seats stay apart

-- if one seat changes
pub apart_set : (views : List SeatView) (id : ℕ) (w : SeatView) → AreNamedApart views
    → ((j : ℕ) (u : SeatView) → j ≢ id → get_elem? views j ≡ some u → IsNamed u → IsNamed w → u.process ≡ w.process → ⊥)
    → AreNamedApart (set views id w)
apart_set views id w apart new i j u v at_i at_j named_u named_v same =
    ⊎_elim
    (λ (x : (i ≡ id) × (w ≡ u)). ⊎_elim
    (λ (y : (j ≡ id) × (w ≡ v)). x.0 ∙ sym y.0)
    (λ (y : (j ≢ id) × (get_elem? views j ≡ some v)).
    absurd (new j v y.0 y.1 named_v (subst IsNamed (sym x.1) named_u)
    (sym same ∙ ap (λ (z : SeatView). z.process) (sym x.1))))
    (at_set views id j w v at_j))
    (λ (x : (i ≢ id) × (get_elem? views i ≡ some u)). ⊎_elim
    (λ (y : (j ≡ id) × (w ≡ v)).
    absurd (new i u x.0 x.1 named_u (subst IsNamed (sym y.1) named_v)
    (same ∙ ap (λ (z : SeatView). z.process) (sym y.1))))
    (λ (y : (j ≢ id) × (get_elem? views j ≡ some v)). apart i j u v x.1 y.1 named_u named_v same)
    (at_set views id j w v at_j))
    (at_set views id i w u at_i)

-- if it keeps its name
pub apart_kept : (views : List SeatView) (id : ℕ) (v w : SeatView) → AreNamedApart views → get_elem? views id ≡ some v
    → (IsNamed w → IsNamed v) → w.process ≡ v.process → AreNamedApart (set views id w)
apart_kept views id v w apart at named same = grind (arith, apart_set views id w apart)

-- a new seat is at the end
pub at_end : (views : List SeatView) (w u : SeatView) (j : ℕ) → get_elem? (views ++ w ∷ []) j ≡ some u
    → ((j ≢ length views) × (get_elem? views j ≡ some u)) ⊎ ((j ≡ length views) × (w ≡ u))
at_end [] w u zero e = inr (refl, some-injective w u e)
at_end [] w u (suc j) e = absurd (some-ne-none u (sym e))
at_end (x ∷ xs) w u zero e = inl ((λ h. omega arith), e)
at_end (x ∷ xs) w u (suc j) e = grind (arith, at_end xs w u j e)

-- it has no name
pub apart_end : (views : List SeatView) (w : SeatView) → AreNamedApart views → w.named ≡ false
    → AreNamedApart (views ++ w ∷ [])
apart_end views w apart unnamed i j u v at_i at_j named_u named_v same =
    ⊎_elim
    (λ (x : (i ≢ length views) × (get_elem? views i ≡ some u)). ⊎_elim
    (λ (y : (j ≢ length views) × (get_elem? views j ≡ some v)). apart i j u v x.1 y.1 named_u named_v same)
    (λ (y : (j ≡ length views) × (w ≡ v)).
    absurd (true≢false (sym named_v.1 ∙ ap (λ (z : SeatView). z.named) (sym y.1) ∙ unnamed)))
    (at_end views w v j at_j))
    (λ (x : (i ≡ length views) × (w ≡ u)).
    absurd (true≢false (sym named_u.1 ∙ ap (λ (z : SeatView). z.named) (sym x.1) ∙ unnamed)))
    (at_end views w u i at_i)

-- ---- the seat that has the turn

-- it is in the list
abbrev pub HasHolder : Turn → List SeatView → Type 0
HasHolder t views = (j : ℕ) → t ≡ held j → (u : SeatView) × (get_elem? views j ≡ some u) × (u.turn ≡ true)

-- a seat is where it was put
here : (views : List SeatView) (id : ℕ) (v w : SeatView) → get_elem? views id ≡ some v
    → get_elem? (set views id w) id ≡ some w
here [] id v w e = absurd (some-ne-none v (sym e))
here (x ∷ xs) zero v w e = refl
here (x ∷ xs) (suc i) v w e = here xs i v w e

-- it is still there if another seat changes
pub holder_stays : (views : List SeatView) (t : Turn) (id : ℕ) (v w : SeatView) → get_elem? views id ≡ some v
    → v.turn ≡ false → HasHolder t views → HasHolder t (set views id w)
holder_stays views t id v w at off there j is = let h = there j is in
    let apart : j ≢ id = λ e. true≢false (sym h.2
    ∙ ap (λ (z : SeatView). z.turn) (some-injective h.0 v (sym h.1 ∙ ap (get_elem? views) e ∙ at)) ∙ off) in
    (h.0, set_else views id j w apart ∙ h.1, h.2)

-- if the changed seat keeps or lacks the turn as before, a seat that had the turn is still there and has it
same_turn : (views : List SeatView) (id k : ℕ) (v w u : SeatView) → get_elem? views id ≡ some v → w.turn ≡ v.turn
    → get_elem? views k ≡ some u → u.turn ≡ true
    → (x : SeatView) × (get_elem? (set views id w) k ≡ some x) × (x.turn ≡ true)
same_turn [] id k v w u at same e on = absurd (some-ne-none v (sym at))
same_turn (x ∷ xs) zero zero v w u at same e on = grind arith
same_turn (x ∷ xs) zero (suc k) v w u at same e on = (u, e, on)
same_turn (x ∷ xs) (suc i) zero v w u at same e on = (u, e, on)
same_turn (x ∷ xs) (suc i) (suc k) v w u at same e on = same_turn xs i k v w u at same e on

-- so the holder is still there
pub holder_same : (views : List SeatView) (t : Turn) (id : ℕ) (v w : SeatView) → get_elem? views id ≡ some v
    → w.turn ≡ v.turn → HasHolder t views → HasHolder t (set views id w)
holder_same views t id v w at same there j is = let h = there j is in same_turn views id j v w h.0 at same h.1 h.2

-- only one seat holds the turn
pub held_same : (j k : ℕ) → held j ≡ held k → j ≡ k
held_same j k e = cc

-- the changed seat has the turn now
pub holder_now : (views : List SeatView) (id : ℕ) (v w : SeatView) → get_elem? views id ≡ some v → w.turn ≡ true
    → HasHolder (held id) (set views id w)
holder_now views id v w at on j is = grind (arith, held_same id j is, here views id v w at)
