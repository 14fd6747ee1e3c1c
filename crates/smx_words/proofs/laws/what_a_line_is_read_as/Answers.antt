use Rattle.std.proofs.Common.{refl, arith}
use Rattle.std.specs.Fmt.{digits}
use Rattle.std.specs.Prelude.{codes}
use Rattle.smx_words.proofs.DecidedLemmas.{by_line, refused}
use Rattle.smx_words.proofs.DecidedLineLemmas.{process_has_words}
use Rattle.smx_words.proofs.DecidedWordLemmas.{number}
use Rattle.smx_words.proofs.laws.what_a_line_is_read_as.Goals as goal

pub returns : goal.returns
unfolding digits process_has_words number
returns c = record {
  read = (omega arith, refl);
  not_without_its_first_word = λ h. absurd (cc h.1);
  not_with_two_spaces = λ h. absurd (cc h.1);
  not_none = λ h. h 7 (omega arith) refl;
  none = refused (by_line process_has_words (λ x. omega arith)) (codes "process 07") refl;
}
