use Rattle.std.proofs.Common.{refl, arith}
use Rattle.std.specs.Fmt.{digits}
use Rattle.std.specs.Prelude.{codes}
use Rattle.smx_words.proofs.DecidedLemmas.{one, refused}
use Rattle.smx_words.proofs.DecidedWordLemmas.{number}
use Rattle.smx_words.proofs.laws.what_is_found_in_bytes.Goals as goal

pub returns : goal.returns
unfolding digits number
returns c = record {
  found = (omega arith, refl);
  not_another = λ h. omega (arith, one number 7 8 (omega arith) (omega arith) h.1);
  not_too_large = λ h. omega (arith, h.0);
  none = refused number (codes "07") refl;
  none_too_large = refused number (codes "4294967296") refl;
  not_none = λ h. h 7 (omega arith) refl;
  spelled = (7, omega arith, refl);
  not_spelled = λ p. refused number (codes "07") refl p.0 p.1 p.2;
  too_large_to_be_spelled = λ p. refused number (codes "4294967296") refl p.0 p.1 p.2;
}
