use Rattle.std.proofs.Common.{◌+◌, sym, arith}
use Rattle.std.specs.Char.{is_ascii_digit}
use Rattle.std.proofs.lemmas.List.Sums.{prefix_len-drop_yes}
use Rattle.smx_words.proofs.NumberLemmas.{ends, right_start, too_large, value_more, wrong_start}
use Rattle.smx_words.proofs.reading.number.leading_number.Goals as goal
use Rattle.smx_words.proofs.reading.number.leading_number.Goals.{then-digits-test+else-is_ascii_digit, else-digits-test}

pub returns-then-value : goal.returns-then-value
returns-then-value c =
    let digit = sym c.if-is_ascii_digit.ensures.value in
    let value =
    value_more c.args.text.now c.digits.end c.digits.value c.digits-test.true digit c.digits.invariant.value in
    let more = prefix_len-drop_yes is_ascii_digit c.args.text.now c.digits.end 0 c.digits-test.true digit in
    too_large c.args.text.now (c.digits.end + 1) (omega (arith, more)) (omega (arith, c.if-value.true, value))

pub digits-preserved : goal.digits-preserved
digits-preserved c =
    let digit = sym c.if-is_ascii_digit.ensures.value in
    let more = prefix_len-drop_yes is_ascii_digit c.args.text.now c.digits.end 0 c.digits-test.true digit in
    record {
      in_it = omega arith;
      leads = omega (arith, more);
      value = value_more c.args.text.now c.digits.end c.digits.value c.digits-test.true digit c.digits.invariant.value;
      small = omega arith;
    }

pub returns-then-starts_wrong : goal.returns-then-starts_wrong
returns-then-starts_wrong c =
    let stop = ends c.args.text.now c.digits.end c.digits.invariant.leads (λ lt. elim c.digits-test.branch [
      | then-digits-test+else-is_ascii_digit w ↦ sym w.if-is_ascii_digit.ensures.value
      | else-digits-test w ↦ absurd (omega (arith, w.digits-test.false))
    ]) in
    wrong_start c.args.text.now c.digits.end stop (sym c.if-starts_wrong.ensures)

pub returns : goal.returns
returns c =
    let stop = ends c.args.text.now c.digits.end c.digits.invariant.leads (λ lt. elim c.digits-test.branch [
      | then-digits-test+else-is_ascii_digit w ↦ sym w.if-is_ascii_digit.ensures.value
      | else-digits-test w ↦ absurd (omega (arith, w.digits-test.false))
    ]) in (
      c.digits.invariant.small,
      stop,
      right_start c.args.text.now c.digits.end c.digits.value stop c.digits.invariant.value c.digits.invariant.small
          (sym c.if-starts_wrong.ensures),
    )
