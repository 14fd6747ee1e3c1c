use Rattle.smx_words.proofs.Common.{◌∷◌, ◌++◌, sym, ◌∙◌, arith, common_steps, append_cancel_left, decimal}
use Rattle.std.specs.Prelude.{codes}
use Rattle.smx_words.proofs.reading.line.driver_of.Goals as goal

pub returns-in_err-high : goal.returns-in_err-high
returns-in_err-high c = rw c.from_residual-in_err-high.ensures (λ x fits e.
    let name = append_cancel_left (codes "driver ") c.in_ok-rest.rest.now _ (sym c.in_ok-rest.ensures ∙ e) in
    let kind = sym (c.in-Some.ensures.2 x.name _ fits.name name) in
    let none = c.in_err-high.ensures x.high (decimal x.low ++ 32 ∷ decimal x.max) fits.high in
    grind (arith, common_steps))

pub returns-in_err-low : goal.returns-in_err-low
returns-in_err-low c = rw c.from_residual-in_err-low.ensures (λ x fits e.
    let name = append_cancel_left (codes "driver ") c.in_ok-rest.rest.now _ (sym c.in_ok-rest.ensures ∙ e) in
    let kind = sym (c.in-Some.ensures.2 x.name _ fits.name name) in
    let none = c.in_err-low.ensures x.low x.max fits.low fits.max in
    grind (arith, common_steps))
