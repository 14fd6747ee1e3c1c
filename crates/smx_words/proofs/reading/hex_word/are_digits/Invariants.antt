use Rattle.smx_words.proofs.Common.{◌≡◌, take, list_all, is_digit}
use Rattle.smx_words.proofs.reading.hex_word.are_digits.Given as goal

abbrev pub invariant-loop-byte : goal.invariant-loop-byte
invariant-loop-byte l = l.all ≡ list_all is_digit (take l.byte-index l.word)
