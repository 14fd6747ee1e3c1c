use Rattle.smx_words.proofs.Common.{sym, ◌∙◌, arith, common_steps, append_cancel_left}
use Rattle.std.specs.Prelude.{codes}
use Rattle.smx_words.proofs.reading.line.link_of.Goals as goal

pub returns-in_err-kind : goal.returns-in_err-kind
returns-in_err-kind c = rw c.from_residual-in_err-kind.ensures (λ x fits e.
    let id = append_cancel_left (codes "link ") c.in_ok-rest.rest.now _ (sym c.in_ok-rest.ensures ∙ e) in
    let driver = sym (c.in_ok-id.ensures.2 x.id _ fits.id id) in
    let minor = sym (c.in-Some.ensures.2 x.ctl_driver _ fits.ctl_driver driver) in
    let none = c.in_err-kind.ensures x.kind in
    grind (arith, common_steps))
