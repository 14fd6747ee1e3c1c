use Rattle.smx_words.proofs.Common.{sym, ◌∙◌, arith, SPACE}
use Rattle.smx_words.proofs.CutLemmas.{apart}
use Rattle.smx_words.proofs.NumberLemmas.{number_free, same_number}
use Rattle.smx_words.proofs.reading.number.first_process.Goals as goal

pub returns-in_err-process : goal.returns-in_err-process
returns-in_err-process c = rw c.from_residual-in_err-process.ensures (λ x after fits e.
    let words =
    apart SPACE _ _ after c.in_ok-number.rest.now (number_free x (omega (arith, fits)))
    (number_free c.in_ok-number.number c.in_ok-number.ensures.0) (sym e ∙ c.in_ok-number.ensures.1) in
    let same = same_number x c.in_ok-number.number (omega (arith, fits)) c.in_ok-number.ensures.0 words.0 in
    let some = c.in_err-process.ensures.valid.1 (omega (arith, same, fits)) in absurd (cc some))
