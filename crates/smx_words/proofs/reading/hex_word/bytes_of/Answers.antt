use Rattle.std.proofs.Common.{arith}
use Rattle.std.specs.Prelude.{codes}
use Rattle.smx_words.proofs.CutLemmas.{differs}
use Rattle.smx_words.proofs.HexLemmas.{by_digits, some_digits}
use Rattle.smx_words.proofs.reading.hex_word.bytes_of.Goals as goal

pub decode-requires : goal.decode-requires
decode-requires c =
    let other = differs c.args.word.now (codes "-") c.is.result c.is.ensures c.if-is.false in
    let some = c.if-not-spells_bytes.ensures in
    let by = by_digits c.args.word.now some.0 other some.1 some.2 in
    record { even = omega (arith, by.2); digits = by.1 }

pub returns-clause-reading : goal.returns-clause-reading
returns-clause-reading c =
    let other = differs c.args.word.now (codes "-") c.is.result c.is.ensures c.if-is.false in
    let some = c.if-not-spells_bytes.ensures in
    let by = by_digits c.args.word.now some.0 other some.1 some.2 in
    let spelled = c.in_ok-bytes.ensures in
    rw c.from_vec.ensures (spelled.0, some_digits c.args.word.now c.in_ok-bytes.bytes.items by.0 spelled.1)
