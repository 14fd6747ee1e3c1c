use Rattle.smx_explain.proofs.Common.{refl, subst, IsFixed}
use Rattle.smx_explain.proofs.RowLemmas.{equals_behind}
use Rattle.smx_explain.proofs.rows.command.Goals as goal
use Rattle.smx_explain.specs.declared.kinds.Choice.TheVariants.{Command}

pub returns : goal.returns
returns c =
    let word = c.args.word.now in
    let row = c.in_ok-row.row in
    let is = rw c.rows_in.ensures at c.in_ok-row.ensures in (
      subst (λ next. IsFixed c.args.version Command word row.values.now next)
          (equals_behind c.args.version word row.values.now row.next is) is,
      refl,
    )
