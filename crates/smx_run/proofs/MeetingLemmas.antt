-- The seats that a seat has met.
use Rattle.smx_run.proofs.Common.{◌≡◌, ℕ, ◌+◌, ◌<◌, ◌≤◌, List, [], ◌∷◌, ◌++◌, All, length, map, refl, ap, sym}
use Rattle.smx_run.proofs.Common.{subst, ◌∙◌, arith, inl, inr, cases_lt, Command, Seated, called, known_at}
use Rattle.smx_run.proofs.Common.{IsKnownTo, Calls, calls_of, numbered, EndedProgram}
use Rattle.smx_shared.specs.Seats.{Known, HasMetAll, IsNotMet, met_seat}
use Rattle.smx_shared.specs.declared.seat_view.MetSeat.{MetSeat}
use Rattle.smx_run.specs.Assignments.{calls_in}
use Rattle.smx_shared.proofs.EachLemmas.{all_right}
use Rattle.smx_run.proofs.AssignmentLemmas.{take_off}

-- after a meeting, a seat knows the one that it met
pub known_now : (new : Seated) (done : EndedProgram Seated) (more : List MetSeat)
    → new.met ≡ met_seat done.seat.known ∷ more → IsKnownTo new done
known_now new done more is apart = absurd ((subst (IsNotMet done.seat.known.process) is apart).0 refl)

-- and those that it knew before
pub known_still : (old new : Seated) (other : Known) (more : List MetSeat) (done : List (EndedProgram Seated))
    → new.met ≡ met_seat other ∷ more ++ old.met → new.known.process ≡ old.known.process → All (IsKnownTo old) done
    → All (IsKnownTo new) done
known_still old new other more done is same known k d below apart = grind (arith, known k d below, all_right)

-- a seat that knows those of all programs from number n on has no other than its own left to meet
known_from : (n : ℕ) (seat : Seated) (ended : List (EndedProgram Seated)) (programs : List (List Command))
    → map (called known_at) ended ≡ numbered n programs → All (IsKnownTo seat) ended → (p : ℕ) → n ≤ p
    → p < n + length programs → IsNotMet p seat.met → p ≡ seat.known.process
known_from n seat ended [] is known p from below apart = absurd (omega arith)
known_from n seat [] (commands ∷ programs) is known p from below apart = absurd cc
known_from n seat (d ∷ ended) (commands ∷ programs) is known p from below apart =
    let first : ◌≡◌ {A = Calls} (d.seat.known.process, calls_in d.seat.known.own) (n, calls_of n commands) = cc in
    let process : d.seat.known.process ≡ n = ap (λ (c : Calls). c.0) first in
    let others : map (called known_at) ended ≡ numbered (n + 1) programs = cc in
    let each = take_off (IsKnownTo seat) (d ∷ ended) ended d refl known in
    elim (cases_lt n p) [
      | inl later ↦
          known_from (n + 1) seat ended programs others each.1 p (omega arith) (omega arith) apart
      | inr now ↦
          let here : d.seat.known.process ≡ p = omega arith in
          sym here ∙ each.0 (subst (λ (q : ℕ). IsNotMet q seat.met) (sym here) apart)
    ]

-- so a seat that knows those of all programs has met all
pub all_known : (count : ℕ) (seat : Seated) (ended : List (EndedProgram Seated)) (programs : List (List Command))
    → count ≡ length programs → map (called known_at) ended ≡ numbered 0 programs → All (IsKnownTo seat) ended
    → HasMetAll count seat.known seat.met
all_known count seat ended programs many is known p below apart =
    known_from 0 seat ended programs is known p (omega arith) (omega arith) apart
