use Rattle.smx_words.proofs.Common.{sym, ◌∙◌, arith, common_steps, append_cancel_left, err_from_is_err_and}
use Rattle.std.specs.Prelude.{codes}
use Rattle.smx_words.proofs.reading.line.message_of.Goals as goal

pub returns-in_default-2-clause-reading : goal.returns-in_default-2-clause-reading
returns-in_default-2-clause-reading c = λ x fits e.
    let driver = append_cancel_left (codes "msg ") c.in-Some.rest.now _ (sym c.in-Some.ensures ∙ e) in
    let minor = sym (c.in-Some-first_name.ensures.2 x.driver _ fits.driver driver) in
    let read = rw c.in_default-2.is at c.in_ok-addr.ensures.reading in
    let none = read x.message.addr x.message.bytes fits.addr fits.bytes in
    grind (arith, common_steps)

pub returns-in_err-addr-clause-wanted : goal.returns-in_err-addr-clause-wanted
returns-in_err-addr-clause-wanted c =
    let p = err_from_is_err_and c.from_residual.result c.from_residual.ensures.1 in
    let some = c.in_err-addr.ensures.wanted in
    rw p.1 (
      record {
        driver = c.in-Some-first_name.driver;
        minor = c.in-Some-first_number.minor;
        side = c.in-Some-first_side.side;
        message = record { serial = c.in-Some-first_number-2.serial; addr = some.0; bytes = some.1 };
      },
      record {
        driver = c.in-Some-first_name.ensures.0;
        minor = c.in-Some-first_number.ensures.0;
        serial = c.in-Some-first_number-2.ensures.0;
        addr = some.2;
        bytes = some.3;
      },
      grind (arith, common_steps),
    )
