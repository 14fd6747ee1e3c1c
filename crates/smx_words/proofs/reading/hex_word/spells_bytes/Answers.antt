use Rattle.smx_words.proofs.Common.{sym, ◌∙◌, arith, nat_tests}
use Rattle.std.specs.Prelude.{codes}
use Rattle.smx_words.proofs.CutLemmas.{differs}
use Rattle.smx_words.proofs.HexLemmas.{by_digits, spell_some}
use Rattle.smx_words.proofs.reading.hex_word.spells_bytes.Goals as goal
use Rattle.smx_words.proofs.reading.hex_word.spells_bytes.Goals.{then-is_empty-via-then-is_empty}
use Rattle.smx_words.proofs.reading.hex_word.spells_bytes.Goals.{then-is_empty-via-else-is_empty+then-word-eq1}

pub returns-then-is_empty : goal.returns-then-is_empty
returns-then-is_empty c = λ bs fits e.
    let other = differs c.args.word.now (codes "-") c.is.result c.is.ensures c.if-is.false in
    let by = by_digits c.args.word.now bs other fits e in
    elim c.then-is_empty.branch [
      | then-is_empty-via-then-is_empty w ↦ let empty = sym c.is_empty.ensures ∙ w.if-is_empty.true in
          let some = by.0 in grind (arith, nat_tests)
      | then-is_empty-via-else-is_empty+then-word-eq1 w ↦ omega (arith, by.2, w.if-word-eq1.true)
    ]

pub returns-then-are_digits : goal.returns-then-are_digits
returns-then-are_digits c =
    let full = sym c.is_empty.ensures ∙ c.if-is_empty.false in
    spell_some c.args.word.now (grind (arith, nat_tests)) c.if-word-eq1.false
    (sym c.are_digits.ensures ∙ c.if-are_digits.true)

pub returns : goal.returns
returns c = λ bs fits e.
    let other = differs c.args.word.now (codes "-") c.is.result c.is.ensures c.if-is.false in
    let by = by_digits c.args.word.now bs other fits e in
    absurd (cc (by.1, c.are_digits.ensures, c.if-are_digits.false))
