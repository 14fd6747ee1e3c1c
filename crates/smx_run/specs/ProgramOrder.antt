-- The calls in the programs of all processes, process by process.
use Rattle.std.specs.Prelude.{◌≡◌, ℕ, ◌+◌, List, [], ◌∷◌, ◌++◌, map}
use Rattle.smx_types.specs.declared.command.Command.{Command}

-- a process, and calls of its own
abbrev pub Calls : Type 0
Calls = ℕ × List (ℕ × Command)

-- each command of one process, with the process
abbrev pub calls_of : ℕ → List Command → List (ℕ × Command)
calls_of process commands = map (λ command. (process, command)) commands

-- the calls of process `n`, then those of the next, and so on
abbrev pub calls_from : ℕ → List (List Command) → List (ℕ × Command)
calls_from n [] = []
calls_from n (commands ∷ programs) = map (λ command. (n, command)) commands ++ calls_from (n + 1) programs

-- these are the first of these calls, or all of them
abbrev pub BeginsCalls : List (ℕ × Command) → ℕ → List (List Command) → Type 0
BeginsCalls calls n programs = (left : List (ℕ × Command)) × (calls ++ left ≡ calls_from n programs)

-- process `n` with its calls, then the next with its own, and so on
abbrev pub numbered : ℕ → List (List Command) → List Calls
numbered n [] = []
numbered n (commands ∷ programs) = (n, calls_of n commands) ∷ numbered (n + 1) programs
