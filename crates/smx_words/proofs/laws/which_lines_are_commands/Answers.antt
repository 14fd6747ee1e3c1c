use Rattle.std.proofs.Common.{refl, arith, rules}
use Rattle.std.specs.Fmt.{digits}
use Rattle.std.specs.Prelude.{codes}
use Rattle.smx_types.specs.declared.command.Command.TheVariants as command
use Rattle.smx_words.proofs.DecidedCommandLemmas.{command_has_words}
use Rattle.smx_words.proofs.DecidedLemmas.{by_line, refused}
use Rattle.smx_words.proofs.DecidedWordLemmas.{number}
use Rattle.smx_words.proofs.PlainLemmas.{some_command}
use Rattle.smx_words.proofs.laws.which_lines_are_commands.Goals as goal

pub returns-clause-dup : goal.returns-clause-dup
unfolding digits
returns-clause-dup c = (command.Dup 0, search (rules, arith), refl)

pub returns-clause-hangup : goal.returns-clause-hangup
unfolding digits
returns-clause-hangup c = (command.Hangup (codes "ip") 0, search (rules, arith), refl)

pub returns-clause-not_of_a_large_number : goal.returns-clause-not_of_a_large_number
unfolding digits command_has_words number
returns-clause-not_of_a_large_number c p =
    refused (by_line command_has_words some_command) (codes "dup 4294967296") refl p.0 p.1.0 p.2
