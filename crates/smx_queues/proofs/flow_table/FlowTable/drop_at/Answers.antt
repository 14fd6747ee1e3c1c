use Rattle.std.proofs.Common.{ap, length, arith, append-nil, sym}
use Rattle.smx_queues.proofs.FlowLemmas.{drop_is, drop_none, place_there, queue_is, queue_none}
use Rattle.smx_queues.proofs.flow_table.FlowTable.drop_at.Goals as goal

pub add_serials-requires-clause-place : goal.add_serials-requires-clause-place
add_serials-requires-clause-place c = place_there _ _ c.self.invariant _ _ c.in-Some.ensures.found

pub add_serials-requires-clause-room : goal.add_serials-requires-clause-room
add_serials-requires-clause-room c =
    omega (
      arith,
      rw (← c.self.view_is) at c.requires,
      ap length (queue_is _ _ c.self.invariant _ _ c.in-Some.ensures.found),
    )

pub clear-requires : goal.clear-requires
clear-requires c = place_there _ _ c.self.invariant _ _ c.in-Some.ensures.found

pub invariant_of-self : goal.invariant_of-self
invariant_of-self c = rw c.clear.ensures.cleared (drop_is _ _ c.self.invariant _ _ c.in-Some.ensures.found 0).sound

pub returns-in-Some-clause-gone : goal.returns-in-Some-clause-gone
returns-in-Some-clause-gone c =
    rw (← c.self.view_is, c.clear.ensures.cleared) ((drop_is _ _ c.self.invariant _ _ c.in-Some.ensures.found 0).is _)

pub returns-in-Some-clause-serials : goal.returns-in-Some-clause-serials
returns-in-Some-clause-serials c =
    rw (← c.self.view_is, queue_is _ _ c.self.invariant _ _ c.in-Some.ensures.found) c.add_serials.ensures.added

pub returns-in_default-clause-gone : goal.returns-in_default-clause-gone
returns-in_default-clause-gone c =
    rw (← c.self.view_is) (drop_none _ _ _ c.in_default.ensures.none _)

pub returns-in_default-clause-serials : goal.returns-in_default-clause-serials
returns-in_default-clause-serials c =
    rw (← c.self.view_is, queue_none _ _ _ c.in_default.ensures.none) (sym (append-nil _))
