use Rattle.std.proofs.Common.{◌≡◌, true, rules}
use Rattle.smx_model.proofs.DropLemmas.{step_drops}
use Rattle.smx_tables.proofs.DoneLemmas.{punlink_is, unlink_is}
use Rattle.smx_tables.proofs.ReplyLemmas.{carries_nothing, nothing_fits}
use Rattle.smx_tables.proofs.tables.Tables.room_for_reply.Goals as goal

pub returns-in-OpenClone-clause-makes : goal.returns-in-OpenClone-clause-makes
returns-in-OpenClone-clause-makes c =
    let plain : carries_nothing c.args.command.now ≡ true = search rules in
    nothing_fits c.args.self.now.drivers c.args.self.now.configuration c.args.process c.args.command.now
    c.no_room-in-OpenClone.result plain
    (step_drops c.args.self.now.drivers c.args.self.now.configuration c.args.process c.args.command.now
    c.requires.swept) c.no_room-in-OpenClone.ensures

pub returns-in-Unlink-clause-makes : goal.returns-in-Unlink-clause-makes
returns-in-Unlink-clause-makes c = rw (c.in-Unlink.is, unlink_is) c.room_for_unlink.ensures

pub returns-in-Punlink-clause-makes : goal.returns-in-Punlink-clause-makes
returns-in-Punlink-clause-makes c = rw (c.in-Punlink.is, punlink_is) c.room_for_unlink-in-Punlink.ensures
