-- Links by id.
use Rattle.smx_model.proofs.Common.{◌≡◌, ℕ, zero, suc, ◌+◌, ◌<◌, Bool, true, false, not, ◌||◌, eqb, List, [], ◌∷◌, ◌++◌}
use Rattle.smx_model.proofs.Common.{filter, find, get_or, length, take, Some, None, refl, ap, arith, inl, inr, nat_lt}
use Rattle.smx_model.proofs.Common.{All, cases_Bool, nat_tests, take_more, All-nil, same_Some, Link, ComesBefore}
use Rattle.smx_model.proofs.Common.{IsRising}
use Rattle.std.proofs.lemmas.List.Elements.{All-head, All-tail, All-cons}
use Rattle.smx_links.specs.LinkLists.{is_one_of}

-- the first link has the smaller id
abbrev before : Link → Link → Bool
before l k = nat_lt l.id k.id

-- if no link has the id, a filter by it removes nothing
pub none_goes : (ls : List Link) (id : ℕ) → find (λ l. eqb l.id id) ls ≡ None → filter (λ l. not (eqb l.id id)) ls ≡ ls
none_goes [] id h = refl
none_goes (l ∷ ls) id h = grind (arith, none_goes ls id)

-- later links have other ids
pub later_stay : (l : Link) (ls : List Link) (id : ℕ) → l.id ≡ id → ComesBefore before l ls
    → filter (λ l. not (eqb l.id id)) ls ≡ ls
later_stay l [] id e h = refl
later_stay l (k ∷ ls) id e h =
    let f : eqb k.id id ≡ false = grind (arith, nat_tests, h.0, e) in
    rw f (ap (λ x. k ∷ x) (later_stay l ls id e h.1))

-- a link found among later ones has another id
pub before_found : (test : Link → Bool) (k : Link) (ls : List Link) (l : Link) → ComesBefore before k ls
    → find test ls ≡ Some l → eqb k.id l.id ≡ false
before_found test k [] l h some = absurd cc
before_found test k (j ∷ ls) l h some = grind (arith, nat_tests, same_Some j l, before_found test k ls l h.1)

-- one more

-- if all ids are below a number, no link has that number as its id
pub below_none : (ls : List Link) (n : ℕ) → All (λ l. l.id < n) ls → find (λ l. eqb l.id n) ls ≡ None
below_none [] n h = refl
below_none (l ∷ ls) n h =
    let f : eqb l.id n ≡ false = grind (arith, nat_tests, All-head (λ (k : Link). k.id < n) l ls h) in
    rw f (below_none ls n (All-tail (λ (k : Link). k.id < n) l ls h))

-- a link before others has a smaller id than each of them
before_at : (l : Link) (ls : List Link) (i : ℕ) (d : Link) → ComesBefore before l ls → i < length ls
    → before l (get_or ls i d) ≡ true
before_at l [] i d h lt = absurd (omega arith)
before_at l (k ∷ ls) zero d h lt = h.0
before_at l (k ∷ ls) (suc i) d h lt = before_at l ls i d h.1 (omega arith)

-- if ids rise, the links before an index have smaller ids than the link there
pub earlier_below : (ls : List Link) (i : ℕ) (d : Link) → IsRising before ls → i < length ls
    → All (λ l. l.id < (get_or ls i d).id) (take i ls)
earlier_below [] i d rise lt = absurd (omega arith)
earlier_below (l ∷ ls) zero d rise lt = All-nil _
earlier_below (l ∷ ls) (suc i) d rise lt =
    let up : l.id < (get_or ls i d).id = grind (arith, nat_tests, before_at l ls i d rise.0 (omega arith)) in
    All-cons (λ (k : Link). k.id < (get_or ls i d).id) l (take i ls) up
    (earlier_below ls i d rise.1 (omega arith))

-- one id more

-- a link has one of some ids and one more exactly if it has one of the ids, or that one
pub one_of_more : (ids : List ℕ) (id : ℕ) (l : Link) → is_one_of (ids ++ id ∷ []) l ≡ (is_one_of ids l || eqb l.id id)
one_of_more [] id l = elim (cases_Bool (eqb l.id id)) [ inl t ↦ rw t refl | inr f ↦ rw f refl ]
one_of_more (x ∷ ids) id l = elim (cases_Bool (eqb l.id x)) [ inl t ↦ rw t refl | inr f ↦ rw f (one_of_more ids id l) ]

-- removing the links of some ids, then that of one more, removes those of all these ids
none_of_more : (ls : List Link) (ids : List ℕ) (id : ℕ)
    → filter (λ l. not (eqb l.id id)) (filter (λ l. not (is_one_of ids l)) ls)
    ≡ filter (λ l. not (is_one_of (ids ++ id ∷ []) l)) ls
none_of_more [] ids id = refl
none_of_more (l ∷ ls) ids id = grind (arith, one_of_more ids id l, none_of_more ls ids id)

-- removing the links of the first i ids, then that of the next id, removes those of the first i + 1
pub none_of_next : (ls : List Link) (ids : List ℕ) (i : ℕ) → i < length ids
    → filter (λ l. not (eqb l.id (get_or ids i 0))) (filter (λ l. not (is_one_of (take i ids) l)) ls)
    ≡ filter (λ l. not (is_one_of (take (i + 1) ids) l)) ls
none_of_next ls ids i lt = rw (take_more ids i 0 lt) (none_of_more ls (take i ids) (get_or ids i 0))

-- removing the links of no ids removes nothing
pub none_of_none : (ls : List Link) → filter (λ l. not (is_one_of [] l)) ls ≡ ls
none_of_none [] = refl
none_of_none (l ∷ ls) = ap (λ x. l ∷ x) (none_of_none ls)
