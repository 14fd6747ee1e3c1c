-- The places that wait for a place that is no longer full, and the marks that a change keeps.
use Rattle.smx_config.proofs.Common.{◌≡◌, ℕ, suc, ◌<◌, Bool, true, false, List, length, Some, sym, ap, ◌∙◌, subst}
use Rattle.smx_config.proofs.Common.{arith, inl, inr, cases_Bool, false≢true, DriverSpec, Place, Configuration}
use Rattle.smx_config.proofs.Common.{same_place, is_full, next_of_first, BitTable, has_bit, at, place_is, AreKept}
use Rattle.smx_config.proofs.Common.{AreMarks, IsAt, IsMarkedWhere, IsWoken, IsFullAt, Marks}
use Rattle.std.proofs.Common.{not, set}
use Rattle.std.specs.Prelude.{◌≢◌, ◌⊎◌}
use Rattle.std.proofs.lemmas.Bool.{and_from, cases_eq, ne_eqb}
use Rattle.std.proofs.lemmas.List.{get_or-set_other, get_or-set_same, length-set}
use Rattle.std.proofs.lemmas.Option.{none-some}
use Rattle.smx_model.specs.FreedPlaces.{FreesOnly}
use Rattle.smx_model.specs.RunMarks.{TurnsOnly, either, nowhere}
use Rattle.smx_queues.specs.Bits.{has_bit_but}
use Rattle.smx_queues.specs.Rings.{RingTable}
use Rattle.smx_config.specs.Marking.{AreWaitersMarked, IsListed, IsNotedFor, IsReleased}
use Rattle.smx_config.specs.Wakes.{everywhere}
use Rattle.smx_config.proofs.NextMoveLemmas.{next_has_message, with_run}
use Rattle.smx_config.proofs.PlaceNumberLemmas.{one_number}

-- a test that is both true and false proves anything
never : {A : Type 0} (b : Bool) → b ≡ true → b ≡ false → A
never b t f = absurd (false≢true (sym f ∙ t))

-- ---- the waiters of one place

-- marks that have not changed are kept
pub all_kept : (m : Marks) → IsListed m → AreKept m m
all_kept m listed = record {
  kept = λ i h. h;
  waiting = λ i j noted. inr noted;
  few = λ i j noted. noted;
  listed = listed;
  over = λ count h. h;
}

-- these rings without a number
abbrev pub without_waiter : RingTable → ℕ → RingTable
without_waiter t n = record t { owners = set t.owners n 0 }

-- marks are still kept if one number no longer waits and has a run mark instead
pub one_taken : (old mid : Marks) (n : ℕ) (run : BitTable) → AreKept old mid → n < length mid.waits.owners
    → has_bit run n ≡ true → ((i : ℕ) → has_bit mid.run i ≡ true → has_bit run i ≡ true) → run.count ≡ mid.run.count
    → AreKept old (record { run = run; wanted = mid.wanted; waits = without_waiter mid.waits n })
one_taken old mid n run h below here kept same = record {
  kept = λ i m. kept i (h.kept i m);
  waiting = λ i j noted. elim (h.waiting i j noted) [
    | inl m ↦ inl (kept i m)
    | inr still ↦ elim (cases_eq n i) [
      | inl is ↦ inl (subst (λ (x : ℕ). has_bit run x ≡ true) is here)
      | inr other ↦ inr (still.0, elsewhere i other ∙ still.1)
    ]
  ];
  few = λ i j noted. h.few i j (before i j noted);
  listed = λ i j noted. h.listed i j (before i j noted);
  over = λ count f. let o = h.over count f in record {
    run = same ∙ o.run;
    wanted = o.wanted;
    waits = o.waits;
    many = omega (arith, o.many, length-set mid.waits.owners n 0);
  };
} where
  elsewhere : (i : ℕ) → n ≢ i → at (set mid.waits.owners n 0) i ≡ at mid.waits.owners i
  elsewhere i other = get_or-set_other mid.waits.owners n i 0 0 (λ e. other (sym e))

  before : (i j : ℕ) → (i < mid.waits.count) × (at (set mid.waits.owners n 0) i ≡ suc j) → IsNotedFor mid i j
  before i j noted = elim (cases_eq n i) [
    | inl is ↦
        let owner : at (set mid.waits.owners n 0) n ≡ suc j =
        subst (λ (x : ℕ). at (set mid.waits.owners n 0) x ≡ suc j) (sym is) noted.1 in
        absurd (omega (arith, get_or-set_same mid.waits.owners n 0 0 below, owner))
    | inr other ↦ (noted.0, sym (elsewhere i other) ∙ noted.1)
  ]

-- the marks with other wanted marks
abbrev pub with_wanted : Marks → BitTable → Marks
with_wanted m wanted = record { run = m.run; wanted = wanted; waits = m.waits }

-- a place is released if it is no longer wanted and the places that waited for it have run marks
pub released_one : (drivers : List DriverSpec) (c : Configuration) (n : ℕ) (p : Place) (old mid : Marks)
    (wanted : BitTable) → IsAt drivers n p → AreWaitersMarked n old mid
    → ((k : ℕ) → has_bit wanted k ≡ has_bit_but mid.wanted n k) → wanted.count ≡ mid.wanted.count
    → IsReleased drivers c (same_place p) old (with_wanted mid wanted)
released_one drivers c n p old mid wanted here h gone same = record {
  kept = record {
    kept = h.kept.kept;
    waiting = h.kept.waiting;
    few = h.kept.few;
    listed = λ i j noted. gone j ∙ and_from _ _ (h.kept.listed i j noted) (ap not (ne_eqb n j (λ is.
        h.none i (subst (IsNotedFor mid i) (sym is) noted))));
    over = λ count f. let o = h.kept.over count f in
        record { run = o.run; wanted = same ∙ o.wanted; waits = o.waits; many = o.many };
  };
  gone = λ i j q there noted f. absurd (h.none i
      (subst (IsNotedFor mid i) (sym (one_number drivers n j p q here there f)) noted));
}

-- a place that is full or not wanted needs no release
pub not_released : (drivers : List DriverSpec) (c : Configuration) (n : ℕ) (p : Place) (m : Marks) → IsAt drivers n p
    → IsListed m → (is_full c p ≡ true) ⊎ (has_bit m.wanted n ≡ false) → IsReleased drivers c (same_place p) m m
not_released drivers c n p m here listed h = grind (arith, all_kept m listed, place_is p, never, one_number drivers n)

-- ---- one place, and then another

-- two changes one after the other keep marks, if each does
pub kept_both : (old mid new : Marks) → AreKept old mid → AreKept mid new → AreKept old new
kept_both old mid new a b = record {
  kept = λ i h. b.kept i (a.kept i h);
  waiting = λ i j noted. elim (a.waiting i j noted) [
    | inl m ↦ inl (b.kept i m)
    | inr still ↦ b.waiting i j still
  ];
  few = λ i j noted. a.few i j (b.few i j noted);
  listed = b.listed;
  over = λ count h. b.over count (a.over count h);
}

-- two groups of places are released, if one is released after the other
pub released_both : (drivers : List DriverSpec) (c : Configuration) (these those : Place → Bool) (old mid new : Marks)
    → IsReleased drivers c these old mid → IsReleased drivers c those mid new
    → IsReleased drivers c (either these those) old new
released_both drivers c these those old mid new a b = record {
  kept = kept_both old mid new a.kept b.kept;
  gone = λ i j q there noted f. elim (cases_Bool (these q)) [
    | inl t ↦ a.gone i j q there (b.kept.few i j noted) t
    | inr n ↦ let second : those q ≡ true = rw n at f in b.gone i j q there noted second
  ];
}

-- if each wanted place that is left is full, all places are released
pub all_released : (drivers : List DriverSpec) (c : Configuration) (old new : Marks) → AreKept old new
    → ((n : ℕ) → has_bit new.wanted n ≡ true → IsFullAt drivers c n) → IsReleased drivers c everywhere old new
all_released drivers c old new kept full =
    record { kept = kept; gone = λ i j q there noted f. full j (kept.listed i j noted) q there }

-- ---- and then the turned places

-- if the freed places are released, and then the turned places get run marks, all of them are woken
pub woken : (drivers : List DriverSpec) (c : Configuration) (turned freed : Place → Bool) (old mid : Marks)
    (run : BitTable) → IsReleased drivers c freed old mid → IsMarkedWhere drivers c.flow turned mid.run run
    → IsWoken drivers c turned freed old (with_run mid run)
woken drivers c turned freed old mid run a b = record {
  released = record {
    kept = record {
      kept = λ i h. b.kept i (a.kept.kept i h);
      waiting = λ i j noted. elim (a.kept.waiting i j noted) [
        | inl m ↦ inl (b.kept i m)
        | inr still ↦ inr still
      ];
      few = a.kept.few;
      listed = a.kept.listed;
      over = λ count h. let o = a.kept.over count h in
          record { run = b.count ∙ o.run; wanted = o.wanted; waits = o.waits; many = o.many };
    };
    gone = a.gone;
  };
  turned_ones = λ i p there some t. b.marked i p there some t;
}

-- if no place is freed, all places that get run marks are woken
pub woken_turned : (drivers : List DriverSpec) (c : Configuration) (turned : Place → Bool) (m : Marks) (run : BitTable)
    → IsListed m → IsMarkedWhere drivers c.flow turned m.run run → IsWoken drivers c turned nowhere m (with_run m run)
woken_turned drivers c turned m run listed marked = woken drivers c turned nowhere m m run
    (record { kept = all_kept m listed; gone = λ i j q there noted f. absurd (false≢true f) }) marked

-- if no place is turned, all places that are released are woken
pub woken_freed : (drivers : List DriverSpec) (c : Configuration) (freed : Place → Bool) (old new : Marks)
    → IsReleased drivers c freed old new → IsWoken drivers c nowhere freed old new
woken_freed drivers c freed old new released =
    record { released = released; turned_ones = λ i p there some t. absurd (false≢true t) }

-- if no place is turned and none is freed, the marks stay
pub woken_none : (drivers : List DriverSpec) (c : Configuration) (m : Marks) → IsListed m
    → IsWoken drivers c nowhere nowhere m m
woken_none drivers c m listed = woken_freed drivers c nowhere m m
    (record { kept = all_kept m listed; gone = λ i j q there noted f. absurd (false≢true f) })

-- the three cases
pub ruleset cases_of_waking = (woken_turned, woken_freed, woken_none)

-- ---- what a change keeps

-- if a place was not turned, its first message has the same next place as before
went_there : (drivers : List DriverSpec) (old new : Configuration) (turned : Place → Bool) (p q : Place)
    → TurnsOnly drivers old new turned → turned p ≡ false → next_of_first drivers new p ≡ Some q
    → next_of_first drivers old p ≡ Some q
went_there drivers old new turned p q only f e = grind (arith, only p f, none-some q)

-- a change turns only places of the first group; it frees only places of the second, which are all in the third
pub record IsAmong (drivers : List DriverSpec) (old new : Configuration)
    (turned freed freed_too : Place → Bool) : Type 0 where
  pub frees : (p : Place) → freed p ≡ true → freed_too p ≡ true
  pub turns_only : TurnsOnly drivers old new turned
  pub frees_only : FreesOnly old new freed

-- the marks are right again if all places that a change may turn or free were woken
pub marks_after : (drivers : List DriverSpec) (old new : Configuration) (turned freed freed_too : Place → Bool)
    (m n : Marks) → AreMarks drivers old m → IsAmong drivers old new turned freed freed_too
    → IsWoken drivers new turned freed_too m n → AreMarks drivers new n
marks_after drivers old new turned freed freed_too m n marks among w = record {
  over = w.released.kept.over _ marks.over;
  held_up = λ i p q there none e. elim (cases_Bool (has_bit m.run i)) [
    | inl before ↦ never (has_bit n.run i) (w.released.kept.kept i before) none
    | inr clear ↦ elim (cases_Bool (turned p)) [
      | inl t ↦ never (has_bit n.run i) (w.turned_ones i p there (next_has_message drivers new p q e) t) none
      | inr f ↦
          let was = marks.held_up i p q there clear (went_there drivers old new turned p q among.turns_only f e) in
          elim (w.released.kept.waiting i was.1.number was.1.noted) [
            | inl marked ↦ never (has_bit n.run i) marked none
            | inr still ↦ (
              stays_full i was.1.number q was.1.there was.0 still,
              record { number = was.1.number; there = was.1.there; noted = still },
            )
          ]
    ]
  ];
  listed = w.released.kept.listed;
} where
  stays_full : (i j : ℕ) (q : Place) → IsAt drivers j q → is_full old q ≡ true → IsNotedFor n i j
      → is_full new q ≡ true
  stays_full i j q there was still = elim (cases_Bool (is_full new q)) [
    | inl t ↦ t
    | inr f ↦ w.released.gone i j q there still (among.frees q (among.frees_only q (and_from _ _ was (ap not f))))
  ]
