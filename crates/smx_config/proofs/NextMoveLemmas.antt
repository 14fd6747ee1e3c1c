-- The least number with a run mark, and the marks after its place turned out not to be movable.
use Rattle.smx_config.proofs.Common.{◌≡◌, ℕ, suc, ◌<◌, Bool, true, false, List, length, Option, Some, None, refl, sym}
use Rattle.smx_config.proofs.Common.{ap, ◌∙◌, subst, inl, inr, arith, cases_Bool, false≢true, same_Some, DriverSpec}
use Rattle.smx_config.proofs.Common.{Message, Place, Configuration, IsSound, IsKnown, first_message, is_full, next_of}
use Rattle.smx_config.proofs.Common.{next_of_first, next_open_place, none_is_least, BitTable, has_bit, places_of, at}
use Rattle.smx_config.proofs.Common.{Marks, AreMarks, IsAt}
use Rattle.std.proofs.Common.{cond, set}
use Rattle.std.specs.Prelude.{◌≢◌, IfNone}
use Rattle.std.specs.Option.{is_some}
use Rattle.std.proofs.lemmas.Bool.{cases_eq}
use Rattle.std.proofs.lemmas.List.{get_or-set_other, get_or-set_same, length-set}
use Rattle.std.proofs.lemmas.Option.{none-some}
use Rattle.smx_model.specs.Configuration.{empty, place_before}
use Rattle.smx_model.specs.RunMarks.{AreMarked}
use Rattle.smx_model.specs.Settling.{◌>>=◌, IsSettled, is_movable, least_movable}
use Rattle.smx_model.proofs.KnownPlaceLemmas.{held_known}
use Rattle.smx_model.proofs.LeastMarkedLemmas.{marked_is_least}
use Rattle.smx_queues.specs.Bits.{has_bit_but}
use Rattle.smx_queues.specs.Rings.{RingTable}
use Rattle.smx_queues.proofs.PlacesOfLemmas.{before_lower, known_number}
use Rattle.smx_config.specs.declared.settling.Move.{Move}
use Rattle.smx_config.specs.Marking.{AreFor, HasNoBit}
use Rattle.smx_config.specs.Moves.{IsLeastMove}
use Rattle.smx_config.specs.Wakes.{everywhere}
use Rattle.smx_config.proofs.PlaceNumberLemmas.{one_place}

-- a settled configuration has no least move
pub none_left : (drivers : List DriverSpec) (c : Configuration) (r : Option Move) (P : Type 0) → IsSettled drivers c
    → IsLeastMove drivers c r → IfNone r P → P
none_left drivers c None P s least none = none
none_left drivers c (Some m) P s least none = grind (arith, none_is_least drivers c s, none-some least.moves.from)

-- ---- the place to which a first message may move on

-- the place, unless it is full
abbrev if_open : Configuration → Option Place → Option Place
if_open c o = o >>= (λ q. cond (is_full c q) None (Some q))

-- a first message may move on to its next place, unless that is full
open_of_next : (drivers : List DriverSpec) (c : Configuration) (p : Place)
    → next_open_place drivers c p ≡ if_open c (next_of_first drivers c p)
open_of_next drivers c p = grind arith

-- the same, given the next place and whether it is full
by_full : (drivers : List DriverSpec) (c : Configuration) (p q : Place) (full : Bool)
    → next_of_first drivers c p ≡ Some q → is_full c q ≡ full → next_open_place drivers c p ≡ cond full None (Some q)
by_full drivers c p q full next is = grind (arith, open_of_next drivers c p, if_open c)

-- a first message whose next place isn't full may move on to it
pub moves_to : (drivers : List DriverSpec) (c : Configuration) (p q : Place) → next_of_first drivers c p ≡ Some q
    → is_full c q ≡ false → next_open_place drivers c p ≡ Some q
moves_to drivers c p q next vacant = by_full drivers c p q false next vacant

-- a place is movable if its first message may move on
pub movable_to : (drivers : List DriverSpec) (c : Configuration) (p q : Place) → next_open_place drivers c p ≡ Some q
    → is_movable drivers c p ≡ true
movable_to drivers c p q e = ap (λ (o : Option Place). is_some o) e

-- a place is not movable if its first message has no next place
stays_nowhere : (drivers : List DriverSpec) (c : Configuration) (p : Place) → next_of_first drivers c p ≡ None
    → is_movable drivers c p ≡ false
stays_nowhere drivers c p none = grind (arith, open_of_next drivers c p, if_open c)

-- a place is not movable if the next place of its first message is full
stays_behind : (drivers : List DriverSpec) (c : Configuration) (p q : Place) → next_of_first drivers c p ≡ Some q
    → is_full c q ≡ true → is_movable drivers c p ≡ false
stays_behind drivers c p q next full = grind (arith, by_full drivers c p q true next full)

-- if the first message of a place has a next place, the place has a message
pub next_has_message : (drivers : List DriverSpec) (c : Configuration) (p q : Place)
    → next_of_first drivers c p ≡ Some q → first_message c.flow p ≢ None
next_has_message drivers c p q e none = none-some q (sym (ap (next_of drivers c p) none) ∙ e)

-- a movable place is one that the drivers have
movable_known : (drivers : List DriverSpec) (c : Configuration) (p : Place) → IsSound drivers c
    → is_movable drivers c p ≡ true → IsKnown drivers p.stream
movable_known drivers c p sound moves = grind (arith, held_known drivers c p sound.known, stays_nowhere drivers c p)

-- each place that is not movable waits, if all places are wanted
all_wait : (drivers : List DriverSpec) (c : Configuration) → AreMarked drivers c (is_movable drivers c) everywhere
all_wait drivers c p stays = grind arith

-- ---- what the marks say

-- a place without a run mark is not movable
unmarked_stays : (drivers : List DriverSpec) (c : Configuration) (m : Marks) (i : ℕ) (p : Place) → AreMarks drivers c m
    → IsAt drivers i p → has_bit m.run i ≡ false → is_movable drivers c p ≡ false
unmarked_stays drivers c m i p h there clear = by (next_of_first drivers c p) refl where
  by : (o : Option Place) → next_of_first drivers c p ≡ o → is_movable drivers c p ≡ false
  by None e = stays_nowhere drivers c p e
  by (Some q) e = stays_behind drivers c p q e (h.held_up i p q there clear e).0

-- a movable place has a run mark
pub movable_marked : (drivers : List DriverSpec) (c : Configuration) (m : Marks) (i : ℕ) (p : Place)
    → AreMarks drivers c m → IsAt drivers i p → is_movable drivers c p ≡ true → has_bit m.run i ≡ true
movable_marked drivers c m i p h there moves = grind (arith, unmarked_stays drivers c m i p h there)

-- if there is no run mark, the configuration is settled
pub none_marked : (drivers : List DriverSpec) (c : Configuration) (m : Marks) → IsSound drivers c → AreMarks drivers c m
    → HasNoBit m.run → IsSettled drivers c
none_marked drivers c m sound h none p = grind (arith, known_number, movable_known, unmarked_stays)

-- if the place of the least number with a run mark is movable, it is the least movable place
pub least_is : (drivers : List DriverSpec) (c : Configuration) (m : Marks) (n : ℕ) (p : Place) → IsSound drivers c
    → AreMarks drivers c m → IsAt drivers n p → ((k : ℕ) → k < n → has_bit m.run k ≡ false)
    → is_movable drivers c p ≡ true → least_movable drivers c ≡ Some p
least_is drivers c m n p sound h there least moves = marked_is_least drivers c (is_movable drivers c) everywhere p
    sound.ordered.flow (all_wait drivers c) (record { marked = moves; none_before = before }) moves where
      before : (q : Place) → place_before q p ≡ true → is_movable drivers c q ≡ false
      before q b = elim (cases_Bool (is_movable drivers c q)) [
        | inl t ↦
            let k = known_number drivers q (movable_known drivers c q sound t) in
            unmarked_stays drivers c m k.0 q h k.1 (least k.0 (before_lower drivers k.0 n q p k.1 there b))
        | inr f ↦ f
      ]

-- if a test finds no first message, the option is empty
pub none_if_not_some : (o : Option Message) → false ≡ is_some o → None ≡ o
none_if_not_some None h = refl
none_if_not_some (Some m) h = absurd (false≢true h)

-- if nothing was found, a property that holds in that case holds
pub if_none : (r : Option ℕ) (P : Type 0) → is_some r ≡ false → IfNone r P → P
if_none None P none h = h
if_none (Some n) P none h = absurd (false≢true (sym none))

-- ---- a run mark is cleared

-- if the run mark of one number is cleared, each other number without a run mark had none before
still_run : (old new : BitTable) (n k : ℕ) → ((m : ℕ) → has_bit new m ≡ has_bit_but old n m) → n ≢ k
    → has_bit new k ≡ false → has_bit old k ≡ false
still_run old new n k gone other clear = grind (arith, gone k)

-- the marks with other run marks
abbrev pub with_run : Marks → BitTable → Marks
with_run m run = record { run = run; wanted = m.wanted; waits = m.waits }

-- a place needs no run mark if its first message has no next place
pub unmarked : (drivers : List DriverSpec) (c : Configuration) (n : ℕ) (p : Place) (m : Marks) (run : BitTable)
    → AreMarks drivers c m → IsAt drivers n p → next_of_first drivers c p ≡ None
    → ((k : ℕ) → has_bit run k ≡ has_bit_but m.run n k) → run.count ≡ m.run.count → AreMarks drivers c (with_run m run)
unmarked drivers c n p m run h here none gone same = record {
  over = record { run = same ∙ h.over.run; wanted = h.over.wanted; waits = h.over.waits; many = h.over.many };
  held_up = λ i r q there clear e. elim (cases_eq n i) [
    | inl is ↦ absurd (none-some q (sym none
        ∙ subst (λ (x : Place). next_of_first drivers c x ≡ Some q) (sym (one_place drivers n i p r here there is)) e))
    | inr other ↦
        let held = h.held_up i r q there (still_run m.run run n i gone other clear) e in (
          held.0,
          record { number = held.1.number; there = held.1.there; noted = held.1.noted },
        )
  ];
  listed = h.listed;
}

-- these rings, with one number moved to the ring of another
abbrev pub with_waiter : RingTable → ℕ → ℕ → RingTable
with_waiter t n j = record t { owners = set t.owners n (suc j) }

-- the run mark of number `n` is cleared, and number `j` is wanted; the other marks are kept
pub record IsHeldUp (n j : ℕ) (m : Marks) (run wanted : BitTable) : Type 0 where
  pub gone : (k : ℕ) → has_bit run k ≡ has_bit_but m.run n k
  pub wants : has_bit wanted j ≡ true
  pub kept : (k : ℕ) → has_bit m.wanted k ≡ true → has_bit wanted k ≡ true
  pub run_over : run.count ≡ m.run.count
  pub wanted_over : wanted.count ≡ m.wanted.count

-- the marks are still right if place `n` loses its run mark and then waits for the full next place of its first message
pub held_up : (drivers : List DriverSpec) (c : Configuration) (n j : ℕ) (p q : Place) (m : Marks)
    (run wanted : BitTable)
    → AreMarks drivers c m → IsAt drivers n p → IsAt drivers j q → n < length (places_of drivers)
    → next_of_first drivers c p ≡ Some q → is_full c q ≡ true
    → IsHeldUp n j m run wanted
    → AreMarks drivers c (record { run = run; wanted = wanted; waits = with_waiter m.waits n j })
held_up drivers c n j p q m run wanted h here to_at below next full k = record {
  over = record {
    run = k.run_over ∙ h.over.run;
    wanted = k.wanted_over ∙ h.over.wanted;
    waits = h.over.waits;
    many = omega (arith, h.over.many, length-set m.waits.owners n (suc j));
  };
  held_up = λ i r s there clear e. elim (cases_eq n i) [
    | inl is ↦
        let same : q ≡ s = same_Some q s (sym next
        ∙ subst (λ (x : Place). next_of_first drivers c x ≡ Some s)
        (sym (one_place drivers n i p r here there is)) e) in (
          subst (λ (x : Place). is_full c x ≡ true) same full,
          record {
            number = j;
            there = subst (IsAt drivers j) same to_at;
            noted = (
              omega (arith, below, is, h.over.waits),
              subst (λ (x : ℕ). at (set m.waits.owners n (suc j)) x ≡ suc j) is here_now,
            );
          },
        )
    | inr other ↦
        let held = h.held_up i r s there (still_run m.run run n i k.gone other clear) e in (
          held.0,
          record {
            number = held.1.number;
            there = held.1.there;
            noted = (held.1.noted.0, elsewhere i other ∙ held.1.noted.1);
          },
        )
  ];
  listed = λ i s noted. elim (cases_eq n i) [
    | inl is ↦
        let owner : at (set m.waits.owners n (suc j)) n ≡ suc s =
        subst (λ (x : ℕ). at (set m.waits.owners n (suc j)) x ≡ suc s) (sym is) noted.1 in
        let same : j ≡ s = omega (arith, here_now, owner) in
        subst (λ (x : ℕ). has_bit wanted x ≡ true) same k.wants
    | inr other ↦ k.kept s (h.listed i s (noted.0, sym (elsewhere i other) ∙ noted.1))
  ];
} where
  here_now : at (set m.waits.owners n (suc j)) n ≡ suc j
  here_now = get_or-set_same m.waits.owners n (suc j) 0 (omega (arith, below, h.over.many))

  elsewhere : (i : ℕ) → n ≢ i → at (set m.waits.owners n (suc j)) i ≡ at m.waits.owners i
  elsewhere i other = get_or-set_other m.waits.owners n i (suc j) 0 (λ e. other (sym e))

-- ---- at first

-- the empty configuration needs no marks, if no place waits
pub marks_at_first : (drivers : List DriverSpec) (m : Marks) → AreFor (length (places_of drivers)) m
    → ((n : ℕ) → n < length (places_of drivers) → at m.waits.owners n ≡ 0) → AreMarks drivers empty m
marks_at_first drivers m over none = grind (arith, held_up, none-some)
