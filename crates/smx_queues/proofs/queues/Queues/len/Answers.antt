use Rattle.std.proofs.Common.{◌∙◌}
use Rattle.smx_queues.proofs.StoreLemmas.{total_is}
use Rattle.smx_queues.proofs.queues.Queues.len.Goals as goal

pub returns : goal.returns
returns c = rw (← c.self.view_is) (c.len.ensures ∙ total_is _ _ c.self.invariant)
