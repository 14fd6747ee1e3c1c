use Rattle.std.proofs.Common.{◌∙◌}
use Rattle.smx_queues.proofs.FlowLemmas.{first_is, first_none, place_there, taken_by}
use Rattle.smx_queues.proofs.flow_table.FlowTable.take.Goals as goal

pub take-requires : goal.take-requires
take-requires c = place_there _ _ c.self.invariant _ _ c.in_ok-p.ensures.found

pub invariant_of-self : goal.invariant_of-self
invariant_of-self c =
    (taken_by _ c.self.inside.queues c.take.new.self _ _ _ c.self.invariant c.in_ok-p.ensures.found
    c.take.ensures.taken c.take.ensures.left c.take.ensures.none).0

pub returns-clause-taken : goal.returns-clause-taken
returns-clause-taken c =
    rw (← c.self.view_is) (c.take.ensures.taken ∙ first_is _ _ c.self.invariant _ _ c.in_ok-p.ensures.found)

pub returns-clause-left : goal.returns-clause-left
returns-clause-left c =
    rw (← c.self.view_is)
    (taken_by _ c.self.inside.queues c.take.new.self _ _ _ c.self.invariant c.in_ok-p.ensures.found
    c.take.ensures.taken c.take.ensures.left c.take.ensures.none).1

pub returns-in_err-p-clause-taken : goal.returns-in_err-p-clause-taken
returns-in_err-p-clause-taken c =
    rw (c.from_residual.ensures, ← c.self.view_is)
    (first_none c.self.inside.places c.self.inside.queues.queues c.args.place c.in_err-p.ensures.none)
