use Rattle.smx_queues.proofs.flow_table.FlowTable.place_at.Goals as goal

pub at-requires : goal.at-requires
at-requires c = rw (← c.self.view_is) at c.requires

pub returns : goal.returns
returns c = rw (← c.self.view_is) c.at.ensures.place
