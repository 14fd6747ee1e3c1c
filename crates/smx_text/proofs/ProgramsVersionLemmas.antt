-- The programs that a version can express, as a whole and line by line.
use Rattle.smx_text.proofs.Common.{◌+◌, map, refl, arith, AllByRecursion, ProgramLists, most_drivers, Command}
use Rattle.smx_text.proofs.Common.{DriverSpec, Version, V1, V2, Line, program_lines}
use Rattle.std.proofs.Common.{◌≡◌, ℕ, ◌≤◌, false, List, [], ◌∷◌, ◌++◌, length}
use Rattle.std.specs.List.{list_any}
use Rattle.smx_types.specs.Versions.{is_hangup, least_of_programs}
use Rattle.smx_types.specs.declared.limits.TheConstants.{MAX_DRIVERS}
use Rattle.smx_text.specs.ProgramLines as line
use Rattle.smx_text.specs.ProgramsText.{FitsLine, IsAllowed}
use Rattle.smx_text.proofs.LeastVersionLemmas.{few_drivers, is_first, not_more}

-- ---- programs whose lines fit version 1 need no later version

-- if lines of commands followed by others fit version 1, no command is a hangup, and the others fit version 1
commands_fit : (cs : List Command) (rest : List Line)
    → AllByRecursion (FitsLine V1) (map line.Command cs ++ rest)
    → (list_any is_hangup cs ≡ false) × AllByRecursion (FitsLine V1) rest
commands_fit [] rest h = (refl, h)
commands_fit (c ∷ cs) rest h = let more = commands_fit cs rest h.1 in (rw (h.0.1, more.0) refl, more.1)

-- programs whose lines fit version 1 have no hangup
none_hangs_up : (n : ℕ) (ps : List (List Command)) → AllByRecursion (FitsLine V1) (program_lines n ps)
    → list_any (list_any is_hangup) ps ≡ false
none_hangs_up n [] h = refl
none_hangs_up n (p ∷ ps) h = grind (arith, commands_fit p (program_lines (n + 1) ps) h.1, none_hangs_up (n + 1) ps)

-- if lines of drivers followed by others fit version 1, the others fit version 1
others_fit : (ds : List DriverSpec) (rest : List Line) → AllByRecursion (FitsLine V1) (map line.Driver ds ++ rest)
    → AllByRecursion (FitsLine V1) rest
others_fit [] rest h = h
others_fit (d ∷ ds) rest h = others_fit ds rest h.1

-- programs that are allowed in version 1 need no later version
pub least_is_first : (v : ProgramLists) → IsAllowed V1 v → least_of_programs v.drivers v.programs ≡ V1
least_is_first v allowed = grind (arith, few_drivers, none_hangs_up, others_fit)

-- ---- the lines of programs that need no later version fit version 1

-- lines of commands without a hangup that fit version 2 fit version 1, if the same holds of the lines after them
first_commands : (cs : List Command) (rest : List Line) → list_any is_hangup cs ≡ false
    → AllByRecursion (FitsLine V2) (map line.Command cs ++ rest)
    → (AllByRecursion (FitsLine V2) rest → AllByRecursion (FitsLine V1) rest)
    → AllByRecursion (FitsLine V1) (map line.Command cs ++ rest)
first_commands [] rest none h more = more h
first_commands (c ∷ cs) rest none h more = grind (arith, first_commands cs rest)

-- lines of programs without a hangup that fit version 2 fit version 1
first_programs : (n : ℕ) (ps : List (List Command)) → list_any (list_any is_hangup) ps ≡ false
    → AllByRecursion (FitsLine V2) (program_lines n ps) → AllByRecursion (FitsLine V1) (program_lines n ps)
first_programs n [] none h = tt
first_programs n (p ∷ ps) none h = grind (arith, first_commands p (program_lines (n + 1) ps), first_programs (n + 1) ps)

-- lines of programs that fit version 2 fit any version not before the earliest one for the programs
pub programs_fit : (version : Version) (v : ProgramLists) → (version ≡ V1 → least_of_programs v.drivers v.programs ≡ V1)
    → AllByRecursion (FitsLine V2) (program_lines 0 v.programs)
    → AllByRecursion (FitsLine version) (program_lines 0 v.programs)
programs_fit V1 v told h = grind (arith, is_first _ (told refl), told refl, first_programs 0 v.programs)
programs_fit V2 v told h = h

-- programs that need no later version have at most as many drivers as this version allows
pub drivers_few : (version : Version) (v : ProgramLists) → (version ≡ V1 → least_of_programs v.drivers v.programs ≡ V1)
    → length v.drivers ≤ MAX_DRIVERS → length v.drivers ≤ most_drivers version
drivers_few V1 v told few = grind (arith, is_first _ (told refl), told refl, not_more v.drivers)
drivers_few V2 v told few = few
