use Rattle.smx_words.proofs.Common.{◌+◌, ◌*◌, ℕ, length, ap, arith, sym, ◌∙◌, take_all, is_digit}
use Rattle.smx_words.proofs.HexLemmas.{all_at, bytes_at, encoded_long, one_byte_more, spelled_by}
use Rattle.smx_words.proofs.reading.hex_word.set_bytes.Goals as goal

pub value_of-high-requires : goal.value_of-high-requires
value_of-high-requires c = all_at is_digit c.args.digits.now (2 * c.loop-i.i) (omega arith) c.requires.digits

pub value_of-low-requires : goal.value_of-low-requires
value_of-low-requires c = all_at is_digit c.args.digits.now (2 * c.loop-i.i + 1) (omega arith) c.requires.digits

pub loop-i-preserved : goal.loop-i-preserved
loop-i-preserved c =
    rw (c.value_of-high.ensures.value, c.value_of-low.ensures.value)
    (one_byte_more c.args.digits.now c.loop-i.bytes c.loop-i.i (omega arith) c.requires.digits (omega arith)
    c.loop-i.invariant)

pub returns : goal.returns
returns c =
    let s = spelled_by c.args.digits.now c.loop-i.i (omega arith) c.requires.digits in
    let long = ap (length {A = ℕ}) s.1 ∙ encoded_long (bytes_at c.args.digits.now) in
    let same = sym (take_all c.loop-i.i c.loop-i.bytes (omega arith)) ∙ c.loop-i.invariant
    ∙ take_all c.loop-i.i (bytes_at c.args.digits.now) (omega (arith, long)) in
    rw same s
