use Rattle.smx_words.proofs.Common.{ℕ, List, ◌∷◌, ◌++◌, ap, ◌∙◌, refl, err_from_is_err_and, decimal, SPACE}
use Rattle.std.specs.Prelude.{codes}
use Rattle.smx_types.specs.declared.command.Command.TheVariants as command
use Rattle.smx_words.proofs.reading.command.write.Goals as goal

pub returns-in_err-addr-clause-wanted : goal.returns-in_err-addr-clause-wanted
returns-in_err-addr-clause-wanted c =
    let p = err_from_is_err_and c.from_residual.result c.from_residual.ensures.1 in
    let some = c.in_err-addr.ensures.wanted in
    let fd = c.in-Some.ensures.1 ∙ ap (λ (x : List ℕ). decimal c.in-Some.fd ++ SPACE ∷ x) some.4 in
    rw p.1 (
      command.Write c.in-Some.fd some.0 some.1,
      ((c.in-Some.ensures.0, some.2, some.3), refl),
      ap (λ (x : List ℕ). codes "write" ++ SPACE ∷ x) fd,
    )
