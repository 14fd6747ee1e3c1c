use Rattle.smx_run.proofs.Common.{arith}
use Rattle.smx_run.proofs.GatheringLemmas.{all_borne_out}
use Rattle.smx_run.proofs.gathering.find_strange.Goals as goal

pub returns-clause-none : goal.returns-clause-none
returns-clause-none c =
    let end = c.loop-number.invariant in
    all_borne_out c.args.history.now c.args.transcripts.now c.requires
    (end.processes (omega (arith, c.loop-number-test.false))) (λ p below. end.borne_out p (omega (arith)))
