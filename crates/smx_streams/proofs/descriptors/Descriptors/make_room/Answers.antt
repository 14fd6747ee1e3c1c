use Rattle.smx_model.proofs.Common.{arith}
use Rattle.smx_streams.proofs.RowOrderLemmas.{has_cells, room_shows_the_same, rows_with_room, there_is_room}
use Rattle.smx_streams.proofs.descriptors.Descriptors.make_room.Goals as goal

pub invariant_of-self-2 : goal.invariant_of-self-2
invariant_of-self-2 c = grind (arith, rows_with_room c.self.inside.processes.items c.args.process c.self.invariant)

pub returns-clause-fds : goal.returns-clause-fds
returns-clause-fds c = grind (arith, room_shows_the_same c.self.inside.processes.items c.args.process)

pub returns-clause-room : goal.returns-clause-room
returns-clause-room c = rw (c.in_ok-make_room.ensures.ok, c.get.ensures.value)
    (there_is_room c.self.inside.processes.items c.args.process c.self.invariant.rooms
    (omega (arith, c.self.invariant.processes, c.get.ensures.range)))

pub returns-in_err-make_room-clause-in_place : goal.returns-in_err-make_room-clause-in_place
returns-in_err-make_room-clause-in_place c = grind (arith, has_cells c.self.inside.processes.items c.args.process)
