use Rattle.smx_filters.proofs.FilterLemmas.{passed_on}
use Rattle.smx_filters.proofs.check.check_text.Goals as goal
use Rattle.smx_filters.specs.CheckText.{checking}

pub returns-in_err-verdict : goal.returns-in_err-verdict
returns-in_err-verdict g c =
    let input = c.in_ok-input.ensures in
    passed_on checking _ _ _ _ _ _ _ c.in_ok-input.input input.0 input.1 c.requires.sunk
    c.in_err-verdict.field-0.0 _ c.from_residual-in_err-verdict.ensures.1 c.in_err-verdict.ensures
