-- Consequences of the rule of the turn for the first word, and for the seat that has the turn.
use Rattle.std.proofs.Common.{◌≡◌, ℕ, ◌+◌, ◌%◌, List, [], ◌∷◌, true, Some, refl, ap, ◌∙◌, arith}
use mathlib.Core.Option.{none, some}
use lib.ListN.{get_elem?}
use Rattle.atomic_table.specs.Table.{State}
use Rattle.smx_types.specs.declared.command.Entry.{Entry}
use Rattle.smx_types.specs.declared.driver.DriverSpec.{DriverSpec}
use Rattle.smx_shared.specs.Fronts.{front_of}
use Rattle.smx_shared.specs.Recorded.{Recorded, IsSoundSystem}
use Rattle.smx_shared.specs.TurnRule.{Slot, Turn, TurnRule, free, held, bit_of, home_of, system_with}
use Rattle.smx_shared.specs.declared.seat_view.SeatView.{SeatView}
use Rattle.smx_shared.proofs.SeatListLemmas.{held_same}
use Rattle.smx_shared.proofs.FrontWordLemmas.{front_even, held_odd}

-- the first word is the front of the one history, with what the turn adds
word_is : (d : List DriverSpec) (l : ℕ) (start : List Entry) (count n : ℕ) (s : State Slot SeatView)
    (r : TurnRule d l start count s) → get_elem? s.words 0 ≡ some n → n ≡ front_of d r.history + bit_of r.turn
word_is d l start count n s r word = grind arith

-- an odd word shows a turn that is held
held_of : (t : Turn) (d : List DriverSpec) (h : List Entry) (n : ℕ) → n ≡ front_of d h + bit_of t → n % 2 ≡ 1
    → (j : ℕ) × (t ≡ held j)
held_of free d h n is odd = grind (arith, front_even d h)
held_of (held j) d h n is odd = (j, refl)

-- an even word shows a turn that is free
free_of : (t : Turn) (d : List DriverSpec) (h : List Entry) (n : ℕ) → n ≡ front_of d h + bit_of t → n % 2 ≡ 0 → t ≡ free
free_of free d h n is even = refl
free_of (held j) d h n is even = absurd (let odd = held_odd d n h is in omega arith)

-- then the system is at home
pub home_at : (d : List DriverSpec) (l : ℕ) (start : List Entry) (count n : ℕ) (s : State Slot SeatView)
    → TurnRule d l start count s → get_elem? s.words 0 ≡ some n → n % 2 ≡ 0
    → (x : Recorded) × (s.homes ≡ some (Some x) ∷ []) × (n ≡ front_of x.drivers x.history) × IsSoundSystem x
home_at d l start count n s r word even =
    grind (arith, word_is d l start count n s r word, free_of r.turn d r.history n)

-- otherwise it is out
pub out_at : (d : List DriverSpec) (l : ℕ) (start : List Entry) (count n : ℕ) (s : State Slot SeatView)
    → TurnRule d l start count s → get_elem? s.words 0 ≡ some n → n % 2 ≡ 1 → s.homes ≡ none ∷ []
out_at d l start count n s r word odd =
    let holder = held_of r.turn d r.history n (word_is d l start count n s r word) odd in
    r.home ∙ ap (λ (t : Turn). home_of (system_with d l r.history) t ∷ []) holder.1

-- if the word has the turn bit, a seat has the turn
pub held_by : (d : List DriverSpec) (l : ℕ) (start : List Entry) (count n : ℕ) (s : State Slot SeatView)
    → TurnRule d l start count s → get_elem? s.words 0 ≡ some n → n % 2 ≡ 1
    → (j : ℕ) × (v : SeatView) × (get_elem? s.views j ≡ some v) × (v.turn ≡ true)
held_by d l start count n s r word odd =
    let holder = held_of r.turn d r.history n (word_is d l start count n s r word) odd in
    let seat = r.holder holder.0 holder.1 in
    (holder.0, seat.0, seat.1, seat.2)

-- if a seat has the turn, the word has the turn bit
pub shown_by : (d : List DriverSpec) (l : ℕ) (start : List Entry) (count n j : ℕ) (v : SeatView)
    (s : State Slot SeatView) → TurnRule d l start count s → get_elem? s.words 0 ≡ some n → get_elem? s.views j ≡ some v
    → v.turn ≡ true → n % 2 ≡ 1
shown_by d l start count n j v s r word at on = grind (arith, r.each j v at, held_odd, word_is)

-- no two seats have the turn
pub one_holder : (d : List DriverSpec) (l : ℕ) (start : List Entry) (count i j : ℕ) (v w : SeatView)
    (s : State Slot SeatView) → TurnRule d l start count s → get_elem? s.views i ≡ some v → get_elem? s.views j ≡ some w
    → v.turn ≡ true → w.turn ≡ true → i ≡ j
one_holder d l start count i j v w s r at there on too = grind (arith, held_same, r.each i v at, r.each j w there)
