-- Rings after two nodes swapped the nodes after them.
use Rattle.std.proofs.Common.{◌≡◌, ◌≢◌, ℕ, zero, suc, ◌+◌, ◌-◌, ◌*◌, ◌<◌, ◌≤◌, List, length, set, get_or, refl, sym, ap}
use Rattle.std.proofs.Common.{◌∙◌, arith, inl, inr, cond, eqb, [], ◌∷◌, ◌++◌, replicate}
use Rattle.std.specs.Prelude.{◌^◌, ◌==◌, ◌⊎◌, not, count_by}
use Rattle.std.specs.List.{range_with_len, swap}
use Rattle.std.proofs.lemmas.Bool.{cases_eq, cases_lt, eq-eqb, le-ltb, lt-ltb, ne_eqb}
use Rattle.std.proofs.lemmas.List.{get_or-set_other, get_or-set_same, get_or_default, get_or_past, length-set}
use Rattle.std.proofs.lemmas.List.{get_or-replicate, length-replicate, set-set}
use Rattle.std.proofs.lemmas.List.FromFn.{get_or-range_with_len, length-range_with_len}
use Rattle.std.proofs.lemmas.List.Edits.{Swapped, length-swap, swapped_from_swap}
use Rattle.std.proofs.lemmas.List.Sums.{sum_by-set}
use Rattle.smx_queues.specs.Rings.{AreRings, LeadsBack, RingTable, at, ring_at}

-- ---- lists that lead back to one another

-- a node comes after only one node
pub only_one : (many : ℕ) (xs ys : List ℕ) (i j : ℕ) → LeadsBack many xs ys → i < many → j < many → at xs i ≡ at xs j
    → i ≡ j
only_one many xs ys i j leads lt_i lt_j e = sym (leads i lt_i).1 ∙ (ap (at ys) e ∙ (leads j lt_j).1)

-- if two nodes swap the nodes after them, and these swap the nodes before them, each node still leads to one that leads
-- back
swap_leads : (many : ℕ) (xs ys xs' ys' : List ℕ) (a b : ℕ) → LeadsBack many xs ys → a < many → b < many
    → Swapped (at xs) (at xs') a b → Swapped (at ys) (at ys') (at xs a) (at xs b) → LeadsBack many xs' ys'
swap_leads many xs ys xs' ys' a b leads lt_a lt_b s t i lt = elim (cases_eq i a) [
  | inl is ↦ rw (is, s.0) ((leads b lt_b).0, t.1 ∙ (leads a lt_a).1)
  | inr not_a ↦ elim (cases_eq i b) [
    | inl is ↦ rw (is, s.1) ((leads a lt_a).0, t.0 ∙ (leads b lt_b).1)
    | inr not_b ↦ rw (s.2 i not_a not_b) (
      (leads i lt).0,
      t.2 (at xs i) (λ e. not_a (only_one many xs ys i a leads lt lt_a e))
          (λ e. not_b (only_one many xs ys i b leads lt lt_b e)) ∙ (leads i lt).1,
    )
  ]
]

-- ---- the ring of a node

-- a number is in the ring of its owner
pub ring_number : (count : ℕ) (owners : List ℕ) (i : ℕ) → i < count → ring_at count owners i ≡ at owners i
ring_number count owners i lt = rw (lt-ltb i count lt) refl

-- a node after the numbers is the beginning of a ring, and is in it
pub ring_past : (count : ℕ) (owners : List ℕ) (i : ℕ) → count ≤ i → ring_at count owners i ≡ suc (i - count)
ring_past count owners i past = rw (le-ltb i count past) refl

-- a change of one owner keeps the rings of the other nodes
ring_other : (count : ℕ) (owners : List ℕ) (p v i : ℕ) → i ≢ p
    → ring_at count (set owners p v) i ≡ ring_at count owners i
ring_other count owners p v i ne = rw (get_or-set_other owners p i v 0 ne) refl

-- the ring that begins at a node
ring_head : (count : ℕ) (owners : List ℕ) (q : ℕ) → ring_at count owners (count + q) ≡ suc q
ring_head count owners q = ring_past count owners (count + q) (omega arith) ∙ ap suc (omega arith)

module _ (count : ℕ) (owners next previous : List ℕ) (h : AreRings count owners next previous) where
  -- after a node of the ring of q comes the beginning of the ring, or a number in it
  pub comes : (i q : ℕ) → i < count + count → ring_at count owners i ≡ suc q
      → (at next i ≡ count + q) ⊎ ((at next i < count) × (ring_at count owners (at next i) ≡ suc q))
  comes i q lt own =
      let same = h.same i lt ∙ own in
      elim (cases_lt (at next i) count) [
        | inl less ↦ inr (less, same)
        | inr past ↦ inl (omega (arith, past, ring_past count owners (at next i) past, same))
      ]

  -- if the beginning of a ring leads to itself, no number is in the ring
  pub none_in : (q : ℕ) → q < count → at next (count + q) ≡ count + q → (p : ℕ) → p < count → at owners p ≡ suc q → ⊥
  none_in q lt empty p below own =
      by (suc (h.rank p)) p (omega arith) below (ring_number count owners p below ∙ own) where
        by : (n p : ℕ) → h.rank p < n → p < count → ring_at count owners p ≡ suc q → ⊥
        by zero p less below own = omega arith
        by (suc n) p less below own = elim (comes p q (omega arith) own) [
          | inl head ↦
              let e : p ≡ count + q = only_one (count + count) next previous p (count + q) h.forth (omega arith)
              (omega arith) (head ∙ sym empty) in
              omega (arith, below, e)
          | inr later ↦
              let fall = h.falls p (omega arith) later.0 (λ e. omega (arith, e, own)) in
              by n (at next p) (omega (arith, less, fall)) later.0 later.1
        ]

  -- if the beginning of a ring leads to another node, that is a number in the ring
  pub first_in : (q : ℕ) → q < count → at next (count + q) ≢ count + q
      → (at next (count + q) < count) × (at owners (at next (count + q)) ≡ suc q)
  first_in q lt some = elim (comes (count + q) q (omega arith) (ring_head count owners q)) [
    | inl head ↦ absurd (some head)
    | inr first ↦ (first.0, sym (ring_number count owners _ first.0) ∙ first.1)
  ]

-- ---- two nodes swap the nodes after them

-- what has to hold of the two nodes if number p gets another owner, and swaps with node y
record CanSwap (count : ℕ) (owners next previous : List ℕ) (h : AreRings count owners next previous) (p v y : ℕ)
    (rank : ℕ → ℕ) : Type 0 where
  below : p < count
  within : y < count + count
  others : (i : ℕ) → i < count + count → i ≢ p → i ≢ y → at next i ≢ p
  same_p : ring_at count (set owners p v) (at next y) ≡ v
  same_y : ring_at count (set owners p v) (at next p) ≡ ring_at count (set owners p v) y
  alone_p : v ≡ 0 → at next y ≡ p
  alone_y : y < count → at owners y ≡ 0 → y ≢ p → at next p ≡ y
  falls_p : at next y < count → v ≢ 0 → rank (at next y) < rank p
  falls_y : at next p < count → y ≢ p → ring_at count owners y ≢ 0 → rank (at next p) < rank y
  falls : (i j : ℕ) → i ≢ p → j ≢ p → h.rank i < h.rank j → rank i < rank j

-- then the rings are linked
swapped : (count : ℕ) (owners next previous : List ℕ) (h : AreRings count owners next previous) (p v y : ℕ)
    (rank : ℕ → ℕ) → CanSwap count owners next previous h p v y rank
    → AreRings count (set owners p v) (swap next p y) (swap previous (at next p) (at next y))
swapped count owners next previous h p v y rank k = record {
  small = h.small;
  many = length-set owners p v ∙ h.many;
  many_next = length-swap next p y ∙ h.many_next;
  many_previous = length-swap previous (at next p) (at next y) ∙ h.many_previous;
  forth = swap_leads (count + count) next previous _ _ p y h.forth lt k.within s t;
  back = swap_leads (count + count) previous next _ _ (at next p) (at next y) h.back (h.forth p lt).0
      (h.forth y k.within).0 t (rw ((h.forth p lt).1, (h.forth y k.within).1) s);
  alone = λ i below free. elim (cases_eq i p) [
    | inl is ↦ rw (is, s.0) (k.alone_p (sym here ∙ rw is at free))
    | inr not_p ↦
        let was = sym (get_or-set_other owners p i v 0 not_p) ∙ free in
        elim (cases_eq i y) [
          | inl is ↦ rw (is, s.1) (k.alone_y (rw is at below) (rw is at was) (rw is at not_p))
          | inr not_y ↦ s.2 i not_p not_y ∙ h.alone i below was
        ]
  ];
  same = λ i lt_i. elim (cases_eq i p) [
    | inl is ↦ rw (is, s.0) (k.same_p ∙ sym owned)
    | inr not_p ↦ elim (cases_eq i y) [
      | inl is ↦ rw (is, s.1) k.same_y
      | inr not_y ↦ rw (s.2 i not_p not_y) (ring_other count owners p v (at next i) (k.others i lt_i not_p not_y)
          ∙ (h.same i lt_i ∙ sym (ring_other count owners p v i not_p)))
    ]
  ];
  rank = rank;
  falls = λ i lt_i less some. elim (cases_eq i p) [
    | inl is ↦ rw (is, s.0) (k.falls_p (rw (is, s.0) at less)
        (λ e. some (ap (ring_at count (set owners p v)) is ∙ (owned ∙ e))))
    | inr not_p ↦
        let was : ring_at count owners i ≢ 0 = λ e. some (ring_other count owners p v i not_p ∙ e) in
        elim (cases_eq i y) [
          | inl is ↦ rw (is, s.1) (k.falls_y (rw (is, s.1) at less) (rw is at not_p) (rw is at was))
          | inr not_y ↦ rw (s.2 i not_p not_y) (k.falls (at next i) i (k.others i lt_i not_p not_y) not_p
              (h.falls i lt_i (rw (s.2 i not_p not_y) at less) was))
        ]
  ];
} where
  lt : p < count + count
  lt = omega (arith, k.below)

  s : Swapped (at next) (at (swap next p y)) p y
  s = swapped_from_swap next _ p y 0 (omega (arith, h.many_next, lt)) (omega (arith, h.many_next, k.within)) refl

  t : Swapped (at previous) (at (swap previous (at next p) (at next y))) (at next p) (at next y)
  t = swapped_from_swap previous _ (at next p) (at next y) 0 (omega (arith, h.many_previous, (h.forth p lt).0))
      (omega (arith, h.many_previous, (h.forth y k.within).0)) refl

  here : at (set owners p v) p ≡ v
  here = get_or-set_same owners p v 0 (omega (arith, h.many, k.below))

  owned : ring_at count (set owners p v) p ≡ v
  owned = ring_number count (set owners p v) p k.below ∙ here

-- if a number that was in no ring swaps with the beginning of a ring, the rings are linked
pub inserted : (count : ℕ) (owners next previous : List ℕ) → AreRings count owners next previous → (p q : ℕ) → p < count
    → q < count → at owners p ≡ 0
    → AreRings count (set owners p (suc q)) (swap next p (count + q)) (swap previous p (at next (count + q)))
inserted count owners next previous h p q lt_p lt_q none =
    rw self at (swapped count owners next previous h p (suc q) head rank (record {
      below = lt_p;
      within = omega arith;
      others = λ i lt not_p _ e. not_p (one i p lt (omega arith) (e ∙ sym self));
      same_p = other f not_f ∙ (h.same head (omega arith) ∙ ring_head count owners q);
      same_y = ap (ring_at count (set owners p (suc q))) self
          ∙ (ring_number count _ p lt_p ∙ (get_or-set_same owners p (suc q) 0 (omega (arith, h.many, lt_p))
          ∙ sym (other head not_head ∙ ring_head count owners q)));
      alone_p = λ e. absurd (omega (arith, e));
      alone_y = λ lt. absurd (omega (arith, lt));
      falls_p = λ less _.
          let fall = h.falls head (omega arith) less some in rw (rank_p, rank_other f not_f) (omega (arith, fall));
      falls_y = λ _ _ _. rw (self, rank_p, rank_other head not_head) (omega arith);
      falls = λ i j not_i not_j less. rw (rank_other i not_i, rank_other j not_j) (omega (arith, less));
    }))
  where
    head : ℕ
    head = count + q

    f : ℕ
    f = at next head

    rank : ℕ → ℕ
    rank i = cond (eqb i p) (2 * h.rank head) (2 * h.rank i + 1)

    rank_p : rank p ≡ 2 * h.rank head
    rank_p = rw (eq-eqb p p refl) refl

    rank_other : (i : ℕ) → i ≢ p → rank i ≡ 2 * h.rank i + 1
    rank_other i ne = rw (ne_eqb i p ne) refl

    self : at next p ≡ p
    self = h.alone p lt_p none

    one : (i j : ℕ) → i < count + count → j < count + count → at next i ≡ at next j → i ≡ j
    one i j lt_i lt_j e = only_one (count + count) next previous i j h.forth lt_i lt_j e

    not_head : head ≢ p
    not_head e = omega (arith, e, lt_p)

    not_f : f ≢ p
    not_f e = not_head (one head p (omega arith) (omega arith) (e ∙ sym self))

    other : (i : ℕ) → i ≢ p → ring_at count (set owners p (suc q)) i ≡ ring_at count owners i
    other i ne = ring_other count owners p (suc q) i ne

    some : ring_at count owners head ≢ 0
    some e = omega (arith, e, ring_head count owners q)

-- if a number of a ring swaps with the node before it, the rings are linked without the number
pub removed : (count : ℕ) (owners next previous : List ℕ) → AreRings count owners next previous → (p : ℕ) → p < count
    → at owners p ≢ 0
    → AreRings count (set owners p 0) (swap next p (at previous p)) (swap previous (at next p) p)
removed count owners next previous h p lt_p some =
    rw to_p at (swapped count owners next previous h p 0 a h.rank (record {
      below = lt_p;
      within = lt_a;
      others = λ i lt _ not_a e. not_a (one i a lt lt_a (e ∙ sym to_p));
      same_p = ap (ring_at count (set owners p 0)) to_p
          ∙ (ring_number count _ p lt_p ∙ get_or-set_same owners p 0 0 (omega (arith, h.many, lt_p)));
      same_y = other b not_b ∙ (h.same p (omega arith) ∙ (same_a ∙ sym (other a not_a)));
      alone_p = λ _. to_p;
      alone_y = λ lt free _. absurd (not_a (sym (h.alone a lt free) ∙ to_p));
      falls_p = λ _ e. absurd (e refl);
      falls_y = λ less _ own.
          let first = h.falls a lt_a (rw to_p lt_p) own in
          let second = h.falls p (omega arith) less owned in
          omega (arith, first, second, ap h.rank to_p);
      falls = λ i j _ _ less. less;
    }))
  where
    a : ℕ
    a = at previous p

    b : ℕ
    b = at next p

    lt_a : a < count + count
    lt_a = (h.back p (omega arith)).0

    to_p : at next a ≡ p
    to_p = (h.back p (omega arith)).1

    one : (i j : ℕ) → i < count + count → j < count + count → at next i ≡ at next j → i ≡ j
    one i j lt_i lt_j e = only_one (count + count) next previous i j h.forth lt_i lt_j e

    owned : ring_at count owners p ≢ 0
    owned e = some (sym (ring_number count owners p lt_p) ∙ e)

    not_b : b ≢ p
    not_b e = let fall = h.falls p (omega arith) (rw e lt_p) owned in omega (arith, fall, ap h.rank e)

    not_a : a ≢ p
    not_a e = not_b (ap (at next) (sym e) ∙ to_p)

    same_a : ring_at count owners p ≡ ring_at count owners a
    same_a = ap (ring_at count owners) (sym to_p) ∙ h.same a lt_a

    other : (i : ℕ) → i ≢ p → ring_at count (set owners p 0) i ≡ ring_at count owners i
    other i ne = ring_other count owners p 0 i ne

-- ---- what calls need

-- one more number at the end of a range
pub range_more : (a n m : ℕ) → m ≡ a + n → range_with_len a n ++ m ∷ [] ≡ range_with_len a (suc n)
range_more a zero m e = ap (λ (k : ℕ). k ∷ []) (omega (arith, e))
range_more a (suc n) m e = ap (λ (ks : List ℕ). a ∷ ks) (range_more (a + 1) n m (omega (arith, e)))

-- `count` numbers in no ring, and as many empty rings, are linked rings
pub at_first : (count : ℕ) → count < 2 ^ 63
    → AreRings count (replicate count 0) (range_with_len 0 (2 * count)) (range_with_len 0 (2 * count))
at_first count small = record {
  small = small;
  many = length-replicate count 0;
  many_next = length-range_with_len 0 (2 * count) ∙ omega arith;
  many_previous = length-range_with_len 0 (2 * count) ∙ omega arith;
  forth = back;
  back = back;
  alone = λ i lt free. each i (omega arith);
  same = λ i lt. ap (ring_at count (replicate count 0)) (each i lt);
  rank = λ i. 0;
  falls = λ i lt less some. absurd (some (
      let low : i < count = rw (each i lt) at less in
      ring_number count (replicate count 0) i low ∙ get_or-replicate count i 0 0 low
      ));
} where
  each : (i : ℕ) → i < count + count → at (range_with_len 0 (2 * count)) i ≡ i
  each i lt = get_or-range_with_len 0 (2 * count) i 0 (omega (arith, lt)) ∙ omega arith

  back : LeadsBack (count + count) (range_with_len 0 (2 * count)) (range_with_len 0 (2 * count))
  back i lt = rw (each i lt) (lt, each i lt)

-- the value that was read at a node is the one there
pub read_at : (xs : List ℕ) (i x : ℕ) → i < length xs → x ≡ get_or xs i x → x ≡ at xs i
read_at xs i x below read = read ∙ get_or_default xs i x 0 below

-- if the ring of a number is set twice, the second ring counts
pub entered : (old mid new : RingTable) (p n : ℕ) → mid ≡ record old { owners = set old.owners p 0 }
    → new ≡ record mid { owners = set mid.owners p n } → new ≡ record old { owners = set old.owners p n }
entered old mid new p n first second = grind (arith, set-set old.owners p 0 n)

-- if a number leaves its ring, fewer numbers are in rings
pub fewer_in : (owners : List ℕ) (p q : ℕ) → at owners p ≡ suc q
    → count_by (λ n. not (n == 0)) (set owners p 0) < count_by (λ n. not (n == 0)) owners
fewer_in owners p q its = grind (arith, sum_by-set, get_or_past owners p 0)
