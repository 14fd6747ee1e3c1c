use Rattle.std.proofs.Common.{append-nil, [], ap, length, refl, sym, take, ◌∙◌, ℕ, arith}
use Rattle.std.proofs.Math.Seq.{take-length}
use Rattle.smx_words.proofs.NumberLemmas.{leads}
use Rattle.smx_words.proofs.reading.number.number.Goals as goal

pub returns-then-end-word : goal.returns-then-end-word
returns-then-end-word c = (
  c.in_ok-number.ensures.0,
  sym (take-length c.args.word.now) ∙ ap (λ (k : ℕ). take k c.args.word.now) (sym c.if-end-word.true)
      ∙ c.in_ok-number.ensures.2,
)

pub returns : goal.returns
returns c = λ m fits e.
    let is = leads c.args.word.now m [] fits refl (e ∙ sym (append-nil _)) in
    omega (arith, c.if-end-word.false, c.in_ok-number.ensures.1, is.1, ap (length {A = ℕ}) e)

pub returns-in_err-number : goal.returns-in_err-number
returns-in_err-number c = rw c.from_residual.ensures (λ n fits e.
    c.in_err-number.ensures n fits (leads c.args.word.now n [] fits refl (e ∙ sym (append-nil _))).0)
