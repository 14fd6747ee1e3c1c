use Rattle.std.proofs.Common.{arith, refl}
use Rattle.smx_queues.proofs.StoreLemmas.{first_of, first_there, place_at}
use Rattle.smx_queues.proofs.queues.Queues.front.Goals as goal

pub index-requires : goal.index-requires
index-requires c =
    first_there _ _ _ _ (place_at _ _ _ _ c.self.invariant.store _ (rw (← c.self.view_is) at c.requires) _
    c.index-chain.ensures).queue
    (omega arith)

pub returns : goal.returns
returns c =
    let a = place_at _ _ _ _ c.self.invariant.store _ (rw (← c.self.view_is) at c.requires) _ c.index-chain.ensures in
    let f = first_of _ _ _ _ a.queue c.index.result.now (omega arith) c.index.ensures in
    rw (← c.self.view_is, a.seen, f.was) refl
