use Rattle.std.proofs.Common.{◌∙◌, arith}
use Rattle.smx_queues.proofs.FlowLemmas.{mark_is}
use Rattle.smx_queues.proofs.flow_table.FlowTable.is_full_at.Goals as goal

pub is_full-requires : goal.is_full-requires
is_full-requires c =
    c.self.invariant.there _ (omega (arith, c.self.invariant.many, rw (← c.self.view_is) at c.requires))

pub returns : goal.returns
returns c = λ p at.
    rw (← c.self.view_is) (c.is_full.ensures ∙ mark_is _ _ c.self.invariant _ _ (rw (← c.self.view_is) at at))
