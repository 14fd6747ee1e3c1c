use Rattle.smx_filters.proofs.Common.{Err, subst, Answers}
use Rattle.smx_filters.proofs.ExplainTextLemmas.{kept_so}
use Rattle.smx_filters.proofs.transcripts.make_text.Goals as goal
use Rattle.smx_filters.specs.Products.{making}

pub returns-in-Err : goal.returns-in-Err
returns-in-Err g c =
    let input = c.in_ok-input.ensures in
    let said = subst (λ bytes. Answers (making c.args.product) bytes (Err c.in-Err.fault)) c.as_slice.ensures.value
    c.in-Err.ensures in
    kept_so (making c.args.product) _ _ _ _ _ _ _ c.in_ok-input.input input.0 input.1 c.requires.sunk c.kept_for.result
    c.in-Err.fault c.kept_for.ensures.fault said c.kept_for.ensures.kept
    c.kept_for.ensures.given_up
