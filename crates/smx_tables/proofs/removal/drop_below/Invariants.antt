use Rattle.smx_tables.proofs.Common.{take, is_read_below_listed}
use Rattle.smx_tables.specs.DroppedMessages.{EmptiesPlaces}
use Rattle.smx_tables.proofs.removal.drop_below.Given as goal

abbrev pub invariant-loop-id : goal.invariant-loop-id
invariant-loop-id l = EmptiesPlaces (is_read_below_listed l.links.links (take l.id-index l.gone)) l.initial.queues
    l.initial.dropped l.queues l.dropped
