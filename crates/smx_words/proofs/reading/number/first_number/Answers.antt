use Rattle.smx_words.proofs.Common.{◌∷◌, arith, refl, SPACE}
use Rattle.smx_words.proofs.NumberLemmas.{is_first, leads, not_first}
use Rattle.smx_words.proofs.reading.number.first_number.Goals as goal
use Rattle.smx_words.proofs.reading.number.first_number.Goals.{else-end-text-via-then-end-text+else-text-end-eq32}
use Rattle.smx_words.proofs.reading.number.first_number.Goals.{else-end-text-via-else-end-text}

pub returns-in_err-number : goal.returns-in_err-number
returns-in_err-number c = rw c.from_residual.ensures (λ n after fits e.
    c.in_err-number.ensures n fits (leads c.args.text.now n (SPACE ∷ after) fits refl e).0)

pub returns-then-text-end-eq32 : goal.returns-then-text-end-eq32
returns-then-text-end-eq32 c =
    is_first c.args.text.now c.in_ok-number.end c.in_ok-number.number c.in_ok-number.ensures.0 c.if-end-text.true
    c.in_ok-number.ensures.2 c.if-text-end-eq32.true

pub returns-else-end-text : goal.returns-else-end-text
returns-else-end-text c = λ m after fits e.
    let at = rw c.in_ok-number.ensures.1 at (not_first c.args.text.now m after fits e) in
    elim c.else-end-text.branch [
      | else-end-text-via-then-end-text+else-text-end-eq32 w ↦ w.if-text-end-eq32.false at.1
      | else-end-text-via-else-end-text w ↦ omega (arith, w.if-end-text.false, at.0)
    ]
