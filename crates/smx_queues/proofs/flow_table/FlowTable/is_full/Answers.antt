use Rattle.std.proofs.Common.{◌∙◌}
use Rattle.smx_queues.proofs.FlowLemmas.{mark_is, mark_none, place_there}
use Rattle.smx_queues.proofs.flow_table.FlowTable.is_full.Goals as goal

pub is_full-requires : goal.is_full-requires
is_full-requires c = place_there _ _ c.self.invariant _ _ c.in-Some.ensures.found

pub returns-in-Some : goal.returns-in-Some
returns-in-Some c = rw (← c.self.view_is) (c.is_full.ensures ∙ mark_is _ _ c.self.invariant _ _ c.in-Some.ensures.found)

pub returns-in-None : goal.returns-in-None
returns-in-None c =
    rw (← c.self.view_is)
    (mark_none c.self.inside.places c.self.inside.queues.queues c.args.place c.in-None.ensures.none)
