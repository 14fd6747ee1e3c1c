use Rattle.std.proofs.Common.{◌∙◌}
use Rattle.smx_queues.proofs.FlowLemmas.{first_is, first_none, place_there}
use Rattle.smx_queues.proofs.flow_table.FlowTable.front.Goals as goal

pub front-requires : goal.front-requires
front-requires c = place_there _ _ c.self.invariant _ _ c.in_ok-p.ensures.found

pub returns : goal.returns
returns c = rw (← c.self.view_is) (c.front.ensures ∙ first_is _ _ c.self.invariant _ _ c.in_ok-p.ensures.found)

pub returns-in_err-p : goal.returns-in_err-p
returns-in_err-p c =
    rw (c.from_residual.ensures, ← c.self.view_is)
    (first_none c.self.inside.places c.self.inside.queues.queues c.args.place c.in_err-p.ensures.none)
