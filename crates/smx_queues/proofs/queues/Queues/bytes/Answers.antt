use Rattle.smx_queues.proofs.StoreLemmas.{place_at}
use Rattle.smx_queues.proofs.queues.Queues.bytes.Goals as goal

pub returns : goal.returns
returns c =
    let a = place_at _ _ _ _ c.self.invariant.store _ (rw (← c.self.view_is) at c.requires) _ c.index.ensures in
    rw (← c.self.view_is, a.seen) a.queue.has.bytes
