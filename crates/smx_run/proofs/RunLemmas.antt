-- The entries that the workers have made, and the entries that each of them has seen.
use Rattle.smx_run.proofs.Common.{◌≡◌, ◌≢◌, ℕ, suc, ◌+◌, ◌<◌, ◌≤◌, List, [], ◌∷◌, ◌++◌, All, length, map, get_or}
use Rattle.smx_run.proofs.Common.{refl, ap, sym, subst, ◌∙◌, arith, inl, inr, append_assoc, cases_lt, append-nil}
use Rattle.smx_run.proofs.Common.{map-append, Command, Entry, call_of, commands_of, HoldsPrograms, Recorded, Seated}
use Rattle.smx_run.proofs.Common.{SharedId, Front, AreFrontsFrom, called, known_at, IsFresh, IsBorneOutBy, Calls}
use Rattle.smx_run.proofs.Common.{calls_of, calls_from, numbered, EndedProgram}
use Rattle.std.proofs.Common.{zero}
use Rattle.std.proofs.lemmas.List.{get_or_past}
use Rattle.smx_types.specs.declared.driver.DriverSpec.{DriverSpec}
use Rattle.smx_shared.specs.Calls.{HasSeenMore, EndsAs}
use Rattle.smx_shared.specs.Fronts.{IsFrontOf}
use Rattle.smx_shared.specs.Seats.{Known, GoesOnNamed, IsBeginningOf, IsMetBy, AreMetBy, entries_of, first_seat}
use Rattle.smx_shared.specs.Seats.{met_seat}
use Rattle.smx_shared.specs.declared.seat_view.MetSeat.{MetSeat}
use Rattle.smx_run.specs.Fronts.{IsFrontAfter}
use Rattle.smx_run.specs.Assignments.{calls_in, EndsAt}
use Rattle.smx_shared.proofs.EachLemmas.{all_right}
use Rattle.smx_shared.proofs.OwnEntryLemmas.{begins_trans, entries_none}
use Rattle.smx_run.proofs.AssignmentLemmas.{take_off}
use Rattle.smx_run.proofs.ProgramOrderLemmas.{holds}

-- the commands of calls
abbrev pub commands_in : List (ℕ × Command) → List Command
commands_in calls = map (λ call. call.1) calls

-- the commands of entries
pub of_entries : (es : List Entry) → map (λ (e : Entry). e.command) es ≡ commands_in (calls_in es)
of_entries [] = refl
of_entries (e ∷ es) = ap (λ (cs : List Command). e.command ∷ cs) (of_entries es)

-- the commands of a program
pub of_program : (p : ℕ) (commands : List Command) → commands_in (calls_of p commands) ≡ commands
of_program p [] = refl
of_program p (c ∷ commands) = ap (λ (cs : List Command). c ∷ cs) (of_program p commands)

-- ---- seats at the start

-- they are those of the processes in order
pub first_processes : (name : SharedId) (s : Recorded) (ns : List ℕ)
    → map (λ (seat : Seated). seat.known.process) (map (first_seat name s) ns) ≡ ns
first_processes name s [] = refl
first_processes name s (n ∷ ns) = ap (λ (ks : List ℕ). n ∷ ks) (first_processes name s ns)

-- no call was made with them
pub first_fresh : (name : SharedId) (s : Recorded) (ns : List ℕ) → s.history ≡ []
    → All (IsFresh name) (map (first_seat name s) ns)
first_fresh name s [] none k d below = absurd (omega arith)
first_fresh name s (n ∷ ns) none zero d below = (refl, ap (entries_of n) none)
first_fresh name s (n ∷ ns) none (suc k) d below = first_fresh name s ns none k d (omega arith)

-- ---- a process that has ended

-- if a history has exactly these entries of a process, it has exactly these commands of it
commands_ended : (h : List Entry) (k : Known) (n : ℕ) (commands : List Command)
    → ◌≡◌ {A = Calls} (k.process, calls_in k.own) (n, calls_of n commands) → entries_of k.process h ≡ k.own
    → commands_of n h ≡ commands
commands_ended h k n commands is exact =
    let process : k.process ≡ n = ap (λ (c : Calls). c.0) is in
    let own : entries_of n h ≡ k.own = ap (λ (p : ℕ). entries_of p h) (sym process) ∙ exact in
    ap (map (λ (e : Entry). e.command)) own ∙ of_entries k.own ∙ ap (λ (c : Calls). commands_in c.1) is
    ∙ of_program n commands

-- if there are programs, some process has ended
pub some_ended : (ended : List (EndedProgram Seated)) (programs : List (List Command))
    → map (called known_at) ended ≡ numbered 0 programs → 1 ≤ length programs → ended ≢ []
some_ended ended [] is some none = omega arith
some_ended [] (commands ∷ programs) is some none = cc
some_ended (d ∷ ended) (commands ∷ programs) is some none = cc

-- ---- a meeting

-- the process is the same, knows as much as before, and has made nothing since
pub record StillKnows (old new : Known) : Type 0 where
  pub drivers : new.drivers ≡ old.drivers
  pub limit : new.limit ≡ old.limit
  pub process : new.process ≡ old.process
  pub own : new.own ≡ old.own
  pub seen : IsBeginningOf old.seen new.seen

-- a process that has seen more, and has made nothing, still knows as much as before
pub still_more : (a b c : Known) → StillKnows a b → HasSeenMore b c → c.own ≡ b.own → StillKnows a c
still_more a b c s more own = grind (arith, begins_trans a.seen b.seen c.seen s.seen more.seen)

-- the final system agrees with the seat that has met all others
pub bears_out_first : (a b : Known) (met : List MetSeat) (s : Recorded) → StillKnows a b → EndsAs b met s
    → IsMetBy s (met_seat a)
bears_out_first a b met s still ends = grind (arith, begins_trans a.seen b.seen s.history still.seen ends.seen)

-- it agrees with the seats that this seat met, the newest and the earlier ones
pub bears_out_next : (s : Recorded) (old new others : List MetSeat) (k : Known) → new ≡ met_seat k ∷ others ++ old
    → AreMetBy s new → IsMetBy s (met_seat k) × AreMetBy s old
bears_out_next s old new others k is met =
    let now : AreMetBy s (met_seat k ∷ others ++ old) = subst (AreMetBy s) is met in
    (now.0, all_right (IsMetBy s) others old now.1)

-- what was taken from a list and what is left, with one more taken
pub next_taken : {A : Type 0} (taken left rest all : List A) (x : A) → taken ++ left ≡ all → left ≡ x ∷ rest
    → (taken ++ x ∷ []) ++ rest ≡ all
next_taken {A = A} taken left rest all x was next =
    append_assoc taken (x ∷ []) rest ∙ ap (λ (l : List A). taken ++ l) (sym next) ∙ was

-- the same with nothing left
pub all_taken_off : {A : Type 0} (taken left all : List A) → taken ++ left ≡ all → length left ≡ 0 → taken ≡ all
all_taken_off taken [] all was none = sym (append-nil taken) ∙ was
all_taken_off taken (x ∷ left) all was none = absurd (omega arith)

-- the image of a list, with one more at the end
pub map_behind : {A B : Type 0} (f : A → B) (base xs more : List B) (ys : List A) (y : A) → xs ≡ base ++ map f ys
    → more ≡ xs ++ f y ∷ [] → more ≡ base ++ map f (ys ++ y ∷ [])
map_behind f base xs more ys y before added =
    added ∙ ap (λ l. l ++ f y ∷ []) before ∙ append_assoc base (map f ys) (f y ∷ [])
    ∙ ap (λ l. base ++ l) (sym (map-append f ys (y ∷ [])))

-- ---- the whole history

-- a history that agrees with all ended processes holds each program
holds_at : (s : Recorded) (k n p : ℕ) (ended : List (EndedProgram Seated)) (programs : List (List Command))
    → map (called known_at) ended ≡ numbered n programs → All (IsBorneOutBy s) ended → k < length programs
    → p ≡ k + n → commands_of p s.history ≡ get_or programs k []
holds_at s k n p ended [] is borne below at = absurd (omega arith)
holds_at s k n p [] (commands ∷ programs) is borne below at = absurd cc
holds_at s zero n p (d ∷ ended) (commands ∷ programs) is borne below at =
    let first : ◌≡◌ {A = Calls} (d.seat.known.process, calls_in d.seat.known.own) (n, calls_of n commands) = cc in
    let here : p ≡ n = omega arith in
    rw here (commands_ended s.history d.seat.known n commands first (borne 0 d (omega arith)).exact)
holds_at s (suc k) n p (d ∷ ended) (commands ∷ programs) is borne below at =
    let others : map (called known_at) ended ≡ numbered (n + 1) programs = cc in
    holds_at s k (n + 1) p ended programs others (take_off (IsBorneOutBy s) (d ∷ ended) ended d refl borne).1
    (omega arith) (omega arith)

-- a process past the last has no program
pub holds_all : (s : Recorded) (ended : List (EndedProgram Seated)) (programs : List (List Command))
    → map (called known_at) ended ≡ numbered 0 programs → All (IsBorneOutBy s) ended
    → GoesOnNamed (length programs) [] s.history → HoldsPrograms s.history programs
holds_all s ended programs is borne named p = elim (cases_lt p (length programs)) [
  | inl below ↦ holds_at s p 0 p ended programs is borne below (omega arith)
  | inr past ↦
      let none : entries_of p s.history ≡ [] = ap (entries_of p) (sym named.1)
      ∙ entries_none (length programs) p named.0 named.2 past in
      ap (map (λ (e : Entry). e.command)) none ∙ sym (get_or_past programs p [] past)
]

-- each front is that of a beginning of the history, after the program
pub fronts_all : (name : SharedId) (s : Recorded) (n : ℕ) (ended : List (EndedProgram Seated))
    (programs : List (List Command)) → map (called known_at) ended ≡ numbered n programs → All (EndsAt name) ended
    → All (IsBorneOutBy s) ended
    → AreFrontsFrom s.drivers s.history n programs (map (λ (d : EndedProgram Seated). d.front) ended)
fronts_all name s n [] [] is ends borne = tt
fronts_all name s n [] (commands ∷ programs) is ends borne = absurd cc
fronts_all name s n (d ∷ ended) [] is ends borne = absurd cc
fronts_all name s n (d ∷ ended) (commands ∷ programs) is ends borne =
    let first : ◌≡◌ {A = Calls} (d.seat.known.process, calls_in d.seat.known.own) (n, calls_of n commands) = cc in
    let others : map (called known_at) ended ≡ numbered (n + 1) programs = cc in
    let end = take_off (EndsAt name) (d ∷ ended) ended d refl ends in
    let out = take_off (IsBorneOutBy s) (d ∷ ended) ended d refl borne in (
      record {
        before = d.seat.known.seen;
        begins = out.0.seen;
        numbers =
            subst (λ (ds : List DriverSpec). IsFrontOf d.front ds d.seat.known.seen) out.0.drivers end.0.1.numbers;
        holds = commands_ended d.seat.known.seen d.seat.known n commands first (sym end.0.1.exact);
      },
      fronts_all name s (n + 1) ended programs others end.1 out.1,
    )

-- ---- a single worker

-- the calls of some programs and then others are the calls of the first ones, then those of the others
pub calls_apart : (n : ℕ) (programs later : List (List Command))
    → calls_from n (programs ++ later) ≡ calls_from n programs ++ calls_from (n + length programs) later
calls_apart n [] later = let here : n + 0 ≡ n = omega arith in rw here refl
calls_apart n (cs ∷ programs) later =
    let next : (n + 1) + length programs ≡ n + length (cs ∷ programs) = omega arith in
    ap (λ (l : List (ℕ × Command)). calls_of n cs ++ l)
    (calls_apart (n + 1) programs later ∙ ap (λ (m : ℕ). calls_from (n + 1) programs ++ calls_from m later) next)
    ∙ sym (append_assoc (calls_of n cs) (calls_from (n + 1) programs) (calls_from (n + length (cs ∷ programs)) later))

-- the calls of some programs and one more are those of the first ones, then those of the last
pub calls_more : (n m : ℕ) (programs : List (List Command)) (commands : List Command) → m ≡ n + length programs
    → calls_from n (programs ++ commands ∷ []) ≡ calls_from n programs ++ calls_of m commands
calls_more n m programs commands is =
    let last = append-nil (calls_of (n + length programs) commands) in
    rw is (calls_apart n programs (commands ∷ [])
    ∙ ap (λ (l : List (ℕ × Command)). calls_from n programs ++ l) last)

-- fronts stay fronts if the history goes on
fronts_stay : (drivers : List DriverSpec) (h h' : List Entry) (n : ℕ) (programs : List (List Command))
    (fronts : List Front) → IsBeginningOf h h' → AreFrontsFrom drivers h n programs fronts
    → AreFrontsFrom drivers h' n programs fronts
fronts_stay drivers h h' n [] [] more are = tt
fronts_stay drivers h h' n [] (f ∷ fronts) more are = are
fronts_stay drivers h h' n (c ∷ programs) [] more are = are
fronts_stay drivers h h' n (c ∷ programs) (f ∷ fronts) more are = (
  record {
    before = are.0.before;
    begins = begins_trans are.0.before h h' are.0.begins more;
    numbers = are.0.numbers;
    holds = are.0.holds;
  },
  fronts_stay drivers h h' (n + 1) programs fronts more are.1,
)

-- one more front comes after them
front_behind : (drivers : List DriverSpec) (h : List Entry) (n m : ℕ) (programs : List (List Command))
    (fronts : List Front) (commands : List Command) (front : Front) → m ≡ n + length programs
    → AreFrontsFrom drivers h n programs fronts → IsFrontAfter drivers h m commands front
    → AreFrontsFrom drivers h n (programs ++ commands ∷ []) (fronts ++ front ∷ [])
front_behind drivers h n m [] [] commands front is are last =
    let here : m ≡ n = omega arith in (subst (λ (k : ℕ). IsFrontAfter drivers h k commands front) here last, tt)
front_behind drivers h n m [] (f ∷ fronts) commands front is are last = absurd are
front_behind drivers h n m (c ∷ programs) [] commands front is are last = absurd are
front_behind drivers h n m (c ∷ programs) (f ∷ fronts) commands front is are last =
    (are.0, front_behind drivers h (n + 1) m programs fronts commands front (omega arith) are.1 last)

-- the program at the end of a list is the one that was put there
last_program : (programs : List (List Command)) (commands : List Command)
    → get_or (programs ++ commands ∷ []) (length programs) [] ≡ commands
last_program [] commands = refl
last_program (c ∷ programs) commands = last_program programs commands

-- one more program was run, and the front seen after it
pub front_next : (drivers : List DriverSpec) (h h' : List Entry) (programs : List (List Command)) (fronts : List Front)
    (commands : List Command) (front : Front) → IsBeginningOf h h'
    → map call_of h' ≡ calls_from 0 (programs ++ commands ∷ [])
    → IsFrontOf front drivers h' → AreFrontsFrom drivers h 0 programs fronts
    → AreFrontsFrom drivers h' 0 (programs ++ commands ∷ []) (fronts ++ front ∷ [])
front_next drivers h h' programs fronts commands front more calls numbers are =
    front_behind drivers h' 0 (length programs) programs fronts commands front (omega arith)
    (fronts_stay drivers h h' 0 programs fronts more are) record {
      before = h';
      begins = ([], append-nil h');
      numbers = numbers;
      holds = holds h' (programs ++ commands ∷ []) calls (length programs) ∙ last_program programs commands;
    }
