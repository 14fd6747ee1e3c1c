use Rattle.smx_words.proofs.Common.{ap, ◌∙◌, arith, list_all, take_all, is_digit}
use Rattle.smx_words.proofs.reading.hex_word.are_digits.Goals as goal

pub returns : goal.returns
returns c =
    c.loop-byte.invariant
    ∙ ap (list_all is_digit) (take_all c.loop-byte.byte-index c.args.word.now (omega (arith, c.loop-byte-test.false)))
