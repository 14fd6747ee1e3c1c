use Rattle.std.proofs.Common.{◌≡◌, take}
use Rattle.smx_words.proofs.HexLemmas.{bytes_at}
use Rattle.smx_words.proofs.reading.hex_word.set_bytes.Given as goal

abbrev pub invariant-loop-i : goal.invariant-loop-i
invariant-loop-i l = take l.i l.bytes ≡ take l.i (bytes_at l.digits)
