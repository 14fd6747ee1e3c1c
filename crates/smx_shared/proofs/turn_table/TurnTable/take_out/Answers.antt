use Rattle.std.proofs.Common.{Some}
use Rattle.smx_shared.specs.SeatViews.{system_of}
use Rattle.smx_shared.proofs.TellLemmas.{has_slot}
use Rattle.smx_shared.proofs.turn_table.TurnTable.take_out.Goals as goal

pub exchange-requires : goal.exchange-requires
exchange-requires g c = (c.requires.table, (Some (system_of c.args.token.now.me.0), has_slot _ _ c.requires.turn))
