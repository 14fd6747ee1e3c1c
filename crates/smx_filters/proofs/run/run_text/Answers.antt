use Rattle.smx_filters.proofs.Common.{Err, subst, Answers}
use Rattle.smx_filters.proofs.FilterLemmas.{passed_on}
use Rattle.smx_filters.proofs.run.run_text.Goals as goal
use Rattle.smx_filters.specs.RunText.{running}

pub returns-in_err-output : goal.returns-in_err-output
returns-in_err-output g c =
    let input = c.in_ok-input.ensures in
    let said = subst (λ bytes. Answers (running c.args.fronts c.args.workers) bytes (Err c.in_err-output.field-0.0))
    c.as_slice.ensures.value c.in_err-output.ensures in
    passed_on (running c.args.fronts c.args.workers) _ _ _ _ _ _ _ c.in_ok-input.input input.0 input.1
    c.requires.ready.sunk c.in_err-output.field-0.0 _ c.from_residual-in_err-output.ensures.1 said
