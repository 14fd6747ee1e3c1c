use Rattle.smx_words.proofs.Common.{arith, nat_tests}
use Rattle.smx_words.proofs.CutLemmas.{not_cut, free_front, is_cut}
use Rattle.smx_words.proofs.reading.word.cut.Goals as goal

pub returns-in-None : goal.returns-in-None
returns-in-None c = not_cut c.args.separator c.args.bytes.now c.in-None.ensures

pub returns-in-Some : goal.returns-in-Some
returns-in-Some c =
    let before = c.in-Some.ensures.0 in
    let here = c.in-Some.ensures.1 in (
      free_front c.args.separator c.args.bytes.now c.in-Some.i (λ k lt. before.before k (omega arith) lt)
          (omega (arith, before.high)),
      is_cut c.args.separator c.args.bytes.now c.in-Some.i before.high (grind (arith, nat_tests, here)),
    )
