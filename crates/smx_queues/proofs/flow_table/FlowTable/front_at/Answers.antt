use Rattle.std.proofs.Common.{◌∙◌, arith}
use Rattle.smx_queues.proofs.FlowLemmas.{first_is}
use Rattle.smx_queues.proofs.flow_table.FlowTable.front_at.Goals as goal

pub front-requires : goal.front-requires
front-requires c =
    c.self.invariant.there _ (omega (arith, c.self.invariant.many, rw (← c.self.view_is) at c.requires))

pub returns : goal.returns
returns c = λ p at.
    rw (← c.self.view_is) (c.front.ensures ∙ first_is _ _ c.self.invariant _ _ (rw (← c.self.view_is) at at))
