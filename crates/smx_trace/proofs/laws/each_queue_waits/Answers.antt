use Rattle.smx_model.specs.Histories.{after}
use Rattle.smx_trace.proofs.WaitLemmas.{settled_wait}
use Rattle.smx_trace.proofs.laws.each_queue_waits.Goals as goal

pub returns : goal.returns
returns c = λ drivers history.
    settled_wait drivers (after drivers history) (c.settling_ends.ensures drivers history)
