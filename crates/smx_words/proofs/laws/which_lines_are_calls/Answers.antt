use Rattle.smx_words.proofs.Common.{refl, arith, rules, is_hangup, V1}
use Rattle.std.specs.Fmt.{digits}
use Rattle.std.specs.Prelude.{codes}
use Rattle.smx_types.specs.declared.command.Command.TheVariants as command
use Rattle.smx_words.proofs.DecidedCommandLemmas.{call_has_words, command_has_words}
use Rattle.smx_words.proofs.DecidedLemmas.{by_line, refused}
use Rattle.smx_words.proofs.DecidedWordLemmas.{number, process}
use Rattle.smx_words.proofs.InVersionLemmas.{none_in}
use Rattle.smx_words.proofs.laws.which_lines_are_calls.Goals as goal

pub returns : goal.returns
unfolding digits call_has_words command_has_words number process
returns c = record {
  dup = ((63, command.Dup 0), search (rules, arith), refl);
  hangup = ((0, command.Hangup (codes "ip") 0), search (rules, arith), refl);
  not_of_a_hangup = λ p.
      none_in call_has_words (λ x. is_hangup x.1) V1 (codes "0 hangup ip 0") (0, command.Hangup (codes "ip") 0)
      (search (rules, arith)) refl (λ bad. absurd (cc bad)) p.0 p.1 p.2;
  not_of_a_large_process = λ p.
      refused (by_line call_has_words (λ x. omega arith)) (codes "64 dup 0") refl p.0 p.1.0 p.2;
  not_without_its_process = λ p.
      refused (by_line call_has_words (λ x. omega arith)) (codes "dup 0") refl p.0 p.1.0 p.2;
  not_of_an_entry = λ p.
      refused (by_line call_has_words (λ x. omega arith)) (codes "0 dup 0 = done") refl p.0 p.1.0 p.2;
}
