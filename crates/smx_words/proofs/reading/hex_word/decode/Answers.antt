use Rattle.std.proofs.Common.{arith, refl}
use Rattle.smx_words.proofs.HexLemmas.{set_are}
use Rattle.smx_words.proofs.reading.hex_word.decode.Goals as goal

pub returns : goal.returns
returns c =
    set_are c.args.digits.now c.set_bytes.new.bytes _ _ c.resize.new.self.len refl
    (omega (arith, c.set_bytes.auto.bytes, c.as_mut_slice.ensures.len)) c.set_bytes.ensures
