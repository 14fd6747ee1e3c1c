-- The table of queues after a move.
use Rattle.smx_tables.proofs.Common.{◌≡◌, Option, Some, None, refl, ap, arith, Place, Machine, TablesInvariant}
use Rattle.smx_tables.proofs.Common.{machine_of, Inside}
use Rattle.std.specs.Prelude.{IsSome}
use Rattle.smx_types.specs.declared.message.Message.{Message}
use Rattle.smx_model.specs.Queues.{first_message}
use Rattle.smx_model.specs.Settling.{after_move_between}
use Rattle.smx_queues.specs.FlowTables.{FlowLists, after_arrival, after_leaving}

-- the first message of a place, if there is one, has moved to the end of the other place
abbrev pub IsMoved : FlowLists → FlowLists → Place → Place → Type 0
IsMoved t q from to = (m : Message) → first_message t.flow from ≡ Some m → q ≡ after_arrival (after_leaving t from) to m

-- after a move of a first message, the drivers of the table of queues are the same
drivers_by : (t q : FlowLists) (from to : Place) (o : Option Message) → first_message t.flow from ≡ o → IsSome o
    → IsMoved t q from to → q.drivers ≡ t.drivers
drivers_by t q from to None first some moved = absurd cc
drivers_by t q from to (Some m) first some moved = ap (λ (x : FlowLists). x.drivers) (moved m first)

-- a move in the table of queues doesn't change its drivers
pub drivers_moved : (t q : FlowLists) (from to : Place) → IsSome (first_message t.flow from) → IsMoved t q from to
    → q.drivers ≡ t.drivers
drivers_moved t q from to some moved = drivers_by t q from to (first_message t.flow from) refl some moved

-- after a move in the table of queues, the first message is at the place to which it moved
pub carried : (t : Inside) (m : Machine) (new : FlowLists) (p q : Place) → TablesInvariant t → machine_of t ≡ m
    → IsSome (first_message m.configuration.flow p) → IsMoved t.lists.queues new p q
    → machine_of (record t { lists = record t.lists { queues = new } })
    ≡ record m { configuration = after_move_between m.drivers m.configuration p q }
carried t m new p q h seen some moved = grind arith
