-- The effect of a command, before messages move on.
use Rattle.std.specs.Prelude.{◌≡◌, ℕ, Result, Ok, Err, IsOk}
use Rattle.smx_types.specs.declared.command.Command.{Command}
use Rattle.smx_types.specs.declared.reply.Reply.{Reply}
use Rattle.smx_model.specs.Commands.{outcome}
use Rattle.smx_model.specs.Outcomes.{Outcome}
use Rattle.smx_tables.specs.Machine.{Machine}
use Rattle.smx_tables.specs.declared.step_error.StepError.{StepError}
use Rattle.smx_tables.specs.declared.step_error.StepError.TheVariants as step_error

-- The command is accepted with this outcome. Or it is refused, or it would be accepted but memory ran out; then nothing
-- has changed.
abbrev pub HasOutcome : Machine → Machine → Outcome → Result Reply StepError → Type 0
HasOutcome old new o (Ok r) = (new.drivers ≡ old.drivers) × (o ≡ Ok (new.configuration, r))
HasOutcome old new o (Err (step_error.Refused f)) = (new ≡ old) × (o ≡ Err f)
HasOutcome old new o (Err step_error.NoMemory) = (new ≡ old) × IsOk o

-- the effect of the command is the outcome of the command table
abbrev pub Refines : Machine → Machine → ℕ → Command → Result Reply StepError → Type 0
Refines old new process command result =
    HasOutcome old new (outcome old.drivers old.configuration process command) result

-- the result of a command whose reply, if it is accepted, is written into a place
abbrev pub answer_of : Result (Unit {0}) StepError → Reply → Result Reply StepError
answer_of (Ok _) reply = Ok reply
answer_of (Err e) _ = Err e
