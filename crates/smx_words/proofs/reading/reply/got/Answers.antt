use Rattle.smx_words.proofs.Common.{ℕ, List, ◌∷◌, ◌++◌, ap, ◌∙◌, refl, err_from_is_err_and, decimal, SPACE}
use Rattle.std.specs.Prelude.{codes}
use Rattle.smx_types.specs.declared.reply.Reply.TheVariants as reply
use Rattle.smx_words.proofs.reading.reply.got.Goals as goal

pub returns-in_err-addr-clause-wanted : goal.returns-in_err-addr-clause-wanted
returns-in_err-addr-clause-wanted c =
    let p = err_from_is_err_and c.from_residual.result c.from_residual.ensures.1 in
    let some = c.in_err-addr.ensures.wanted in
    let serial = c.in-Some.ensures.1 ∙ ap (λ (x : List ℕ). decimal c.in-Some.serial ++ SPACE ∷ x) some.4 in
    rw p.1 (
      reply.Got c.in-Some.serial some.0 some.1,
      ((c.in-Some.ensures.0, some.2, some.3), refl),
      ap (λ (x : List ℕ). codes "got" ++ SPACE ∷ x) serial,
    )
