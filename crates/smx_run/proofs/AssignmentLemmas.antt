-- Assignments of workers, and the processes that have ended.
use Rattle.smx_run.proofs.Common.{◌≡◌, ◌≢◌, ℕ, suc, ◌+◌, ◌%◌, ◌<◌, List, [], ◌∷◌, ◌++◌, All, length, map}
use Rattle.smx_run.proofs.Common.{get_or, drop, arith, refl, ap, sym, subst, ◌∙◌, inl, inr, append_assoc, ◌==◌}
use Rattle.smx_run.proofs.Common.{range_with_len, nat_tests, append-nil, length-map, map-append, Command, Seated}
use Rattle.smx_run.proofs.Common.{assignment_of, Calls, calls_of, numbered}
use Rattle.std.proofs.Common.{set}
use Rattle.std.proofs.lemmas.List.FromFn.{length-range_with_len, length-map-range_with_len, map-range_with_len_more}
use Rattle.std.proofs.lemmas.List.FromFn.{get_or-map-range_with_len, fill_by_all}
use Rattle.std.proofs.lemmas.Bool.{cases_Bool}
use Rattle.std.proofs.lemmas.List.{map-set, get_or-map, get_or-set_same, get_or-set_other}
use Rattle.std.proofs.lemmas.List.Elements.{All-push, filter-append}
use Rattle.smx_run.specs.Assignments.{assignments_of}

-- two lists whose images agree still agree with one more item at the end of each
pub one_more : {A B C : Type 0} (f : A → C) (g : B → C) (xs more : List A) (ys : List B) (x : A) (y : B)
    → map f xs ≡ map g ys → f x ≡ g y → more ≡ xs ++ x ∷ [] → map f more ≡ map g (ys ++ y ∷ [])
one_more f g xs more ys x y before same added = grind (arith, map-append f xs (x ∷ []), map-append g ys (y ∷ []))

-- the image of a list with one more item at the end
pub pushed : {A B : Type 0} (f : A → B) (xs more : List A) (x : A) (ys : List B) (y : B) → more ≡ xs ++ x ∷ []
    → map f xs ≡ ys → f x ≡ y → map f more ≡ ys ++ y ∷ []
pushed f xs more x ys y added before here = rw added (map-append f xs (x ∷ []) ∙ rw (before, here) refl)

-- a fact of all items, and of one more at the end
pub all_more : {A : Type 0} (P : A → Type 0) (xs more : List A) (x : A) → All P xs → P x → more ≡ xs ++ x ∷ []
    → All P more
all_more P xs more x before here added = subst (All P) (sym added) (All-push P xs x before here)

-- every fact holds of all items of an empty list
pub all_of_none : {A : Type 0} (P : A → Type 0) (xs : List A) → xs ≡ [] → All P xs
all_of_none P [] none k d below = absurd (omega arith)
all_of_none P (x ∷ xs) none k d below = absurd cc

-- ---- assigned by number

-- one more empty assignment after the others
pub one_empty_more : (n : ℕ) → assignments_of (n + 1) [] ≡ assignments_of n [] ++ [] ∷ []
one_empty_more n = map-range_with_len_more {X = List Calls} (λ w. []) 0 n n (omega arith)

-- an assignment is what was assigned to its worker
pub assignment_at : (workers : ℕ) (all : List Calls) (k : ℕ) → k < workers
    → get_or (assignments_of workers all) k [] ≡ assignment_of workers all k
assignment_at workers all k below =
    get_or-map-range_with_len (assignment_of workers all) 0 workers k k [] below (omega arith)

-- assignments each of which is what was assigned to its worker
pub assignments_are : (workers : ℕ) (all : List Calls) (assignments : List (List Calls)) → length assignments ≡ workers
    → ((k : ℕ) → k < workers → get_or assignments k [] ≡ assignment_of workers all k)
    → assignments ≡ assignments_of workers all
assignments_are workers all assignments many each =
    fill_by_all (assignment_of workers all) assignments workers [] many each

-- one more process in the assignment of its worker, with the other assignments unchanged
pub put_more : {H : Type 0} (f : H → List Calls) (workers : ℕ) (assignments : List H) (at : ℕ) (new d : H) (one : Calls)
    → length assignments ≡ workers → at ≡ one.0 % workers → at < workers
    → f new ≡ f (get_or assignments at d) ++ one ∷ []
    → (k : ℕ) → k < workers → get_or (map f (set assignments at new)) k []
    ≡ get_or (map f assignments) k [] ++ assignment_of workers (one ∷ []) k
put_more f workers assignments at new d one many is inside more k below =
    rw (map-set f assignments at new) (elim (cases_Bool (one.0 % workers == k)) [
      | inl t ↦
          let here : at ≡ k = grind (arith, nat_tests) in
          let same : get_or (set (map f assignments) at (f new)) at []
          ≡ f new = get_or-set_same (map f assignments) at (f new) [] (omega (arith, length-map assignments f)) in
          let old : get_or (map f assignments) at [] ≡ f (get_or assignments at d) =
          get_or-map f assignments at d [] (omega arith) in
          rw (t, ← here, same, old) more
      | inr n ↦
          let other : k ≢ at = grind (arith, nat_tests) in
          rw (n, get_or-set_other (map f assignments) at k (f new) [] other)
          (sym (append-nil (get_or (map f assignments) k [])))
    ])

-- one more process in front
pub assignment_first : (workers : ℕ) (one : Calls) (all : List Calls) (k : ℕ)
    → assignment_of workers (one ∷ all) k ≡ assignment_of workers (one ∷ []) k ++ assignment_of workers all k
assignment_first workers one all k = filter-append (λ (c : Calls). c.0 % workers == k) (one ∷ []) all

-- the seat of the next process, and those after it
pub next_seat : (n : ℕ) (all seats : List Seated) (s : Seated) (programs later : List (List Command))
    (commands : List Command)
    → all ≡ s ∷ seats → programs ≡ commands ∷ later
    → map (λ (s : Seated). s.known.process) all ≡ range_with_len n (length programs)
    → (s.known.process ≡ n) × (map (λ (s : Seated). s.known.process) seats ≡ range_with_len (n + 1) (length later))
next_seat n all seats s programs later commands first next h = grind arith

-- what was assigned and what is still to be assigned, before a process and after it
pub assign_next : (workers n m p k : ℕ) (old new goal : List Calls) (commands : List Command)
    (programs later : List (List Command))
    → old ++ assignment_of workers (numbered n programs) k ≡ goal
    → new ≡ old ++ assignment_of workers ((p, calls_of p commands) ∷ []) k → p ≡ n → m ≡ n + 1
    → programs ≡ commands ∷ later
    → new ++ assignment_of workers (numbered m later) k ≡ goal
assign_next workers n m p k old new goal commands programs later before now who more next =
    let one : Calls = (n, calls_of n commands) in
    let first = assignment_first workers one (numbered (n + 1) later) k in
    let was : old ++ assignment_of workers (numbered n (commands ∷ later)) k ≡ goal = rw next at before in
    rw (now, who, more)
    (append_assoc old (assignment_of workers (one ∷ []) k) (assignment_of workers (numbered (n + 1) later) k)
    ∙ ap (λ (cs : List Calls). old ++ cs) (sym first) ∙ was)

-- nothing was assigned yet
pub none_assigned : (workers : ℕ) (assignments : List (List Calls)) → assignments ≡ assignments_of workers []
    → (k : ℕ) → k < workers
    → (goal : List Calls) → get_or assignments k [] ++ goal ≡ goal
none_assigned workers assignments none k below goal = rw (none, assignment_at workers [] k below) refl

-- nothing is left to assign
pub all_assigned : (workers n : ℕ) (assignments all : List Calls) (k : ℕ) (programs : List (List Command))
    → assignments ++ assignment_of workers (numbered n programs) k ≡ all → length programs ≡ 0 → assignments ≡ all
all_assigned workers n assignments all k [] h none = sym (append-nil assignments) ∙ h
all_assigned workers n assignments all k (commands ∷ programs) h none = absurd (omega arith)

-- there are as many programs left as seats
pub none_left : (n : ℕ) (seats : List Seated) (programs : List (List Command))
    → map (λ (s : Seated). s.known.process) seats ≡ range_with_len n (length programs) → length seats ≡ 0
    → length programs ≡ 0
none_left n seats programs h none = grind (arith, length-map, length-range_with_len)

-- ---- collected by number

-- the first item of a list, and the others
pub first_and_rest : {A B : Type 0} (f : A → B) (xs rest : List A) (x : A) → x ≡ get_or xs 0 x → rest ≡ drop 1 xs
    → length rest + 1 ≡ length xs → map f xs ≡ f x ∷ map f rest
first_and_rest f [] rest x first after many = absurd (omega arith)
first_and_rest f (y ∷ xs) rest x first after many = grind arith

-- the first item of one assignment is taken
pub take_from : {H : Type 0} (f : H → List Calls) (assignments : List H) (at : ℕ) (d new : H) (one : Calls)
    → at < length assignments → d ≡ get_or assignments at d → f d ≡ one ∷ f new
    → get_or (map f assignments) at [] ≡ one ∷ get_or (map f (set assignments at new)) at []
take_from f assignments at d new one within is first = grind (arith, map-set, get_or-set_same, length-map, get_or-map)

-- an assignment with calls
pub some_left : {H : Type 0} (f : H → List Calls) (assignments : List H) (at : ℕ) (d : H) (one : Calls)
    (others : List Calls) → at < length assignments → d ≡ get_or assignments at d
    → get_or (map f assignments) at [] ≡ one ∷ others → f d ≡ one ∷ others
some_left f assignments at d one others within is here = grind (arith, get_or-map)

-- a fact of all items of a list holds of its first item, and of the others
pub take_off : {A : Type 0} (P : A → Type 0) (all rest : List A) (x : A) → all ≡ x ∷ rest → All P all → P x × All P rest
take_off P all rest x is holds = let each : All P (x ∷ rest) = subst (All P) is holds in
    (each 0 x (omega arith), λ k d below. each (suc k) d (omega arith))

-- the first item of a list, followed by the others, is that list
pub first_then_rest : {A : Type 0} (xs rest : List A) (x : A) → x ≡ get_or xs 0 x → rest ≡ drop 1 xs
    → length rest + 1 ≡ length xs → xs ≡ x ∷ rest
first_then_rest [] rest x first after many = absurd (omega arith)
first_then_rest (y ∷ xs) rest x first after many = grind arith

-- the other assignments are unchanged
pub keep_others : {H : Type 0} (f : H → List Calls) (assignments : List H) (at : ℕ) (new : H) (k : ℕ) → k ≢ at
    → get_or (map f (set assignments at new)) k [] ≡ get_or (map f assignments) k []
keep_others f assignments at new k other = grind (arith, map-set, get_or-set_other)

-- the next process is first in the assignment of its worker
pub next_in_assignment : (workers p : ℕ) (programs later : List (List Command)) (commands : List Command)
    → programs ≡ commands ∷ later
    → assignment_of workers (numbered p programs) (p % workers)
    ≡ (p, calls_of p commands) ∷ assignment_of workers (numbered (p + 1) later) (p % workers)
next_in_assignment workers p programs later commands next = grind (arith, nat_tests)

-- it is in no other assignment
pub next_not_in : (workers p k : ℕ) (programs later : List (List Command)) (commands : List Command)
    → programs ≡ commands ∷ later → k ≢ p % workers
    → assignment_of workers (numbered p programs) k ≡ assignment_of workers (numbered (p + 1) later) k
next_not_in workers p k programs later commands next other = grind (arith, nat_tests)

-- the assignments after the next process is taken from them
pub take_next : (workers p m : ℕ) (programs later : List (List Command)) (commands : List Command)
    (old new : List (List Calls)) (one : Calls) → programs ≡ commands ∷ later → m ≡ p + 1
    → ((k : ℕ) → k < workers → get_or old k [] ≡ assignment_of workers (numbered p programs) k) → p % workers < workers
    → get_or old (p % workers) [] ≡ one ∷ get_or new (p % workers) []
    → ((k : ℕ) → k ≢ p % workers → get_or new k [] ≡ get_or old k [])
    → (one ≡ (p, calls_of p commands))
    × ((k : ℕ) → k < workers → get_or new k [] ≡ assignment_of workers (numbered m later) k)
take_next workers p m programs later commands old new one next more before within first others =
    grind (arith, before (p % workers) within, next_in_assignment, nat_tests, next_not_in)

-- what was called and what is still to be collected, before a process and after it
pub collect_next : (p m : ℕ) (old new goal : List Calls) (one : Calls) (programs later : List (List Command))
    (commands : List Command)
    → old ++ numbered p programs ≡ goal → new ≡ old ++ one ∷ [] → one ≡ (p, calls_of p commands) → m ≡ p + 1
    → programs ≡ commands ∷ later
    → new ++ numbered m later ≡ goal
collect_next p m old new goal one programs later commands before now is more next =
    let was : old ++ ((p, calls_of p commands) ∷ numbered (p + 1) later) ≡ goal = rw next at before in
    rw (now, is, more) (append_assoc old ((p, calls_of p commands) ∷ []) (numbered (p + 1) later) ∙ was)

-- there are as many assignments as workers
pub assignment_count : (workers : ℕ) (all : List Calls) (assignments : List (List Calls))
    → assignments ≡ assignments_of workers all
    → length assignments ≡ workers
assignment_count workers all assignments is = grind (arith, length-map-range_with_len)
