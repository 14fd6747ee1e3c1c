use Rattle.std.proofs.Common.{◌∙◌, ap, arith}
use Rattle.std.specs.Prelude.{nat_lt}
use Rattle.smx_queues.proofs.FlowLemmas.{first_is, some_first}
use Rattle.smx_queues.proofs.flow_table.FlowTable.has_messages_at.Goals as goal

pub message_count-requires : goal.message_count-requires
message_count-requires c =
    c.self.invariant.there _ (omega (arith, c.self.invariant.many, rw (← c.self.view_is) at c.requires))

pub returns : goal.returns
returns c = λ p at.
    rw (← c.self.view_is, ← first_is _ _ c.self.invariant _ _ (rw (← c.self.view_is) at at))
    (ap (nat_lt 0) c.message_count.ensures ∙ some_first _)
