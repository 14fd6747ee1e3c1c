use Rattle.smx_words.proofs.Common.{arith, refl, common_steps, err_from_is_err_and}
use Rattle.smx_types.specs.declared.command.Command.TheVariants as command
use Rattle.smx_words.proofs.reading.command.inject.Goals as goal

pub returns-in_err-addr-clause-wanted : goal.returns-in_err-addr-clause-wanted
returns-in_err-addr-clause-wanted c =
    let p = err_from_is_err_and c.from_residual.result c.from_residual.ensures.1 in
    let some = c.in_err-addr.ensures.wanted in
    rw p.1 (
      command.Inject c.in-Some.driver c.in-Some-first_number.minor some.0 some.1,
      ((c.in-Some.ensures.0, c.in-Some-first_number.ensures.0, some.2, some.3), refl),
      grind (arith, common_steps),
    )
