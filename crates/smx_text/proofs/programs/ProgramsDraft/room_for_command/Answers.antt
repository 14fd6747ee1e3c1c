use Rattle.std.proofs.Common.{rules}
use Rattle.smx_text.specs.ProgramLines as line
use Rattle.smx_text.proofs.MachineLemmas.{misplaced, too_many}
use Rattle.smx_text.proofs.ProgramsMachineLemmas.{stands}
use Rattle.smx_text.proofs.programs.ProgramsDraft.room_for_command.Goals as goal

pub returns-then-is_empty-clause-refused : goal.returns-then-is_empty-clause-refused
returns-then-is_empty-clause-refused c = λ x.
    misplaced (stands c.args.self.now) (line.Command x) (search rules)

pub returns-then-self-ge-MAX_COMMANDS-clause-refused : goal.returns-then-self-ge-MAX_COMMANDS-clause-refused
returns-then-self-ge-MAX_COMMANDS-clause-refused c = λ x.
    too_many (stands c.args.self.now) (line.Command x) (search rules) (search rules)
