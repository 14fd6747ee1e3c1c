-- How the lines of some programs grow by one line, or by the lines of one more program.
use Rattle.smx_text.proofs.Common.{suc, ◌+◌, ◌-◌, ◌<◌, get_or, map, sym, ap, ◌∙◌, append_assoc, arith, refl, set}
use Rattle.smx_text.proofs.Common.{append-nil, Command, DriverSpec, Line, program_lines}
use Rattle.std.proofs.Common.{◌≡◌, ℕ, List, [], ◌∷◌, ◌++◌, length, add-zero}
use Rattle.std.proofs.lemmas.List.{get_or_read, map_push}
use Rattle.smx_text.specs.ProgramLines as line

-- the lines of one more program follow those of the others: the line of its process, then its commands
pub lines_add : (n : ℕ) (ps : List (List Command)) (cs : List Command)
    → program_lines n (ps ++ cs ∷ []) ≡ program_lines n ps
    ++ line.Process (n + length ps) ∷ map line.Command cs
lines_add n [] cs = rw (append-nil, add-zero) refl
lines_add n (p ∷ ps) cs =
    let k : (n + 1) + length ps ≡ n + suc (length ps) = omega arith in
    rw (lines_add (n + 1) ps cs, k, append_assoc) refl

-- a new process without commands adds its line after the lines of the other programs
pub added_process : (ds : List DriverSpec) (ps : List (List Command)) (k : ℕ) → k ≡ length ps
    → map line.Driver ds ++ program_lines 0 (ps ++ [] ∷ []) ≡ (map line.Driver ds ++ program_lines 0 ps)
    ++ line.Process k ∷ []
added_process ds ps k e =
    rw (e, lines_add 0 ps [], append_assoc (map line.Driver ds))
    (ap (λ (m : ℕ). map line.Driver ds ++ (program_lines 0 ps ++ line.Process m ∷ [])) (omega arith))

-- a new command of the last program adds one line after the lines of all programs
pub lines_more : (n : ℕ) (ps : List (List Command)) (d : List Command) (c : Command) → 0 < length ps
    → program_lines n (set ps (length ps - 1) (get_or ps (length ps - 1) d ++ c ∷ []))
    ≡ program_lines n ps ++ line.Command c ∷ []
lines_more n [] d c h = absurd (omega arith)
lines_more n (p ∷ []) d c h = rw (map_push line.Command p c, append_assoc, append_assoc) refl
lines_more n (p ∷ q ∷ ps) d c h =
    let k : suc (suc (length ps)) - 1 ≡ suc (length ps) = omega arith in
    let j : suc (length ps) - 1 ≡ length ps = omega arith in
    let more = rw j at (lines_more (n + 1) (q ∷ ps) d c (omega arith)) in
    rw k (ap (λ (ls : List Line). line.Process n ∷ (map line.Command p ++ ls)) more
    ∙ ap (λ (ls : List Line). line.Process n ∷ ls)
    (sym (append_assoc (map line.Command p) (program_lines (n + 1) (q ∷ ps)) (line.Command c ∷ []))))

-- if a command is appended to the last program, the last program is its old commands and then this one
pub last_more : (ps : List (List Command)) (len : ℕ) (old new : List Command) (c : Command) → 0 < length ps
    → len ≡ length ps → old ≡ get_or ps (len - 1) old → new ≡ old ++ c ∷ []
    → set ps (len - 1) new ≡ set ps (length ps - 1) (get_or ps (length ps - 1) [] ++ c ∷ [])
last_more ps len old new c some is here more = grind (arith, get_or_read, set)
