-- A history with the calls of the programs, process by process, holds the programs.
use Rattle.smx_run.proofs.Common.{◌≡◌, ℕ, suc, ◌+◌, ◌<◌, false, List, [], ◌∷◌, ◌++◌, map, get_or, refl, ◌∙◌}
use Rattle.smx_run.proofs.Common.{arith, ◌==◌, nat_tests, append-nil, Command, Entry, call_of, commands_of}
use Rattle.smx_run.proofs.Common.{HoldsPrograms, Recorded, IsSoundSystem, calls_of, calls_from}
use Rattle.std.proofs.Common.{zero, true, filter}
use Rattle.smx_model.specs.Histories.{after}
use Rattle.smx_model.proofs.DropLemmas.{few_drop}
use Rattle.smx_types.specs.ProgramLists.{ProgramLists}
use Rattle.smx_types.specs.declared.transcript.Transcript.{Transcript}
use Rattle.smx_model.specs.Headline.{IsReportOf}
use Rattle.smx_model.specs.Views.{view}

-- the commands of one process among some calls
abbrev picked : ℕ → List (ℕ × Command) → List Command
picked p asked = map (λ a. a.1) (filter (λ a. a.0 == p) asked)

-- the commands of a process in a history are those picked from its calls
picked_is : (p : ℕ) (es : List Entry) → commands_of p es ≡ picked p (map call_of es)
picked_is p [] = refl
picked_is p (e ∷ es) = grind (arith, picked_is p es)

-- picking from two lists of calls, one after the other, picks from each
picked_more : (p : ℕ) (xs ys : List (ℕ × Command)) → picked p (xs ++ ys) ≡ picked p xs ++ picked p ys
picked_more p [] ys = refl
picked_more p (x ∷ xs) ys = grind (arith, picked_more p xs ys)

-- picking from the calls of one process gives all its commands
picked_own : (p : ℕ) (cs : List Command) → picked p (calls_of p cs) ≡ cs
picked_own p [] = refl
picked_own p (c ∷ cs) = let same : (p == p) ≡ true = grind (arith, nat_tests) in rw (same, picked_own p cs) refl

-- picking from the calls of another process gives nothing
picked_other : (p n : ℕ) (cs : List Command) → (n == p) ≡ false → picked p (calls_of n cs) ≡ []
picked_other p n [] e = refl
picked_other p n (c ∷ cs) e = rw (e, picked_other p n cs e) refl

-- no later process is an earlier one
picked_past : (p n : ℕ) (programs : List (List Command)) → p < n → picked p (calls_from n programs) ≡ []
picked_past p n [] h = refl
picked_past p n (cs ∷ programs) h =
    grind (arith, nat_tests, picked_more, picked_other, picked_past p (n + 1) programs (omega arith))

-- picking for a process from the calls of all programs gives its program
picked_at : (k n : ℕ) (programs : List (List Command)) → picked (k + n) (calls_from n programs) ≡ get_or programs k []
picked_at k n [] = refl
picked_at zero n (cs ∷ programs) =
    let here : 0 + n ≡ n = omega arith in
    rw here (picked_more n (calls_of n cs) (calls_from (n + 1) programs)
    ∙ rw (picked_own n cs, picked_past n (n + 1) programs (omega arith)) (append-nil cs))
picked_at (suc k) n (cs ∷ programs) = grind (arith, nat_tests, picked_more, picked_other, picked_at k (n + 1) programs)

-- a history whose calls are those of all programs, one program after the other, holds the programs
pub holds : (es : List Entry) (programs : List (List Command)) → map call_of es ≡ calls_from 0 programs
    → HoldsPrograms es programs
holds es programs e p = grind (arith, picked_is p es, picked_at p 0 programs)

-- ---- the report of a system that holds the programs

-- the drivers and the history of such a system, with the view after it, are a report that is promised for the
-- programs
pub report_of : (programs : ProgramLists) (s : Recorded) (t : Transcript) → IsSoundSystem s → t.drivers ≡ s.drivers
    → t.entries ≡ s.history → t.view ≡ view s.drivers (after s.drivers s.history) → s.drivers ≡ programs.drivers
    → HoldsPrograms s.history programs.programs → IsReportOf programs t
report_of programs s t sound drivers entries shown same holds = record {
  drivers = drivers ∙ same;
  valid_drivers = rw (← same) sound.valid_drivers;
  legal = rw (← same, entries) sound.legal;
  holds = rw entries holds;
  shown = rw (← same, entries) shown;
  lawful = rw (← same, entries) sound.lawful;
  drops = rw entries (few_drop s.drivers s.history sound.legal);
}
