use Rattle.smx_queues.proofs.flow_table.FlowTable.place_count.Goals as goal

pub returns-clause-count : goal.returns-clause-count
returns-clause-count c = rw (← c.self.view_is) c.len.ensures.many
