-- Runs of an example, at a door whose seats are those of one process.
use Rattle.std.specs.Prelude.{◌≡◌, ℕ, List, [], ◌∷◌, ◌++◌}
use Rattle.smx_types.specs.declared.command.Command.{Command}
use Rattle.smx_shared.specs.Seats.{Known}
use Rattle.smx_shared.specs.WorkedCalls.{exited, knows, opened}
use Rattle.smx_shared.specs.declared.front.Front.{Front}
use Rattle.smx_run.specs.Assignments.{HasEndedWith, IsToRunWith}
use Rattle.smx_run.specs.declared.worker.EndedProgram.{EndedProgram}
use Rattle.smx_run.specs.declared.worker.SeatedProgram.{SeatedProgram}

-- the commands are appended to those that were kept before
abbrev pub KeepsBehind : List Command → List Command → List Command → Type 0
KeepsBehind before commands after = after ≡ before ++ commands

-- process 1 has seen two entries, and made the second
abbrev pub second : Known
second = record (knows 1 1 9) { seen = opened ∷ exited ∷ []; own = exited ∷ [] }

-- a process that is to be run with this seat
abbrev pub to_run : Known → List Command → SeatedProgram Known
to_run seat program = record { seat = seat; program = program }

-- a process that has ended with this seat at this front
abbrev pub ended_at : Known → Front → EndedProgram Known
ended_at seat front = record { seat = seat; front = front }

-- any program is to be run with this seat of the first process
abbrev pub IsFirstToRun : Known → Type 0
IsFirstToRun seat = (program : List Command) → IsToRunWith (λ k. k.process ≡ 0) (λ k. k) (to_run seat program)

-- this process has ended with this seat at this front
abbrev pub HasEndedOf : ℕ → Known → Front → Type 0
HasEndedOf process seat front = HasEndedWith (λ k. k.process ≡ process) (λ k. k) (ended_at seat front)
