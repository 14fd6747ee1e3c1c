use Rattle.smx_tables.proofs.DoneLemmas.{punlink_is, unlink_is}
use Rattle.smx_tables.proofs.tables.Tables.perform.Goals as goal

pub returns-in-Unlink-clause-refines : goal.returns-in-Unlink-clause-refines
returns-in-Unlink-clause-refines c = rw (c.in-Unlink.is, unlink_is) c.unlink_as.ensures

pub returns-in-Punlink-clause-refines : goal.returns-in-Punlink-clause-refines
returns-in-Punlink-clause-refines c = rw (c.in-Punlink.is, punlink_is) c.unlink_as-in-Punlink.ensures

pub returns-in-Hangup-clause-refines : goal.returns-in-Hangup-clause-refines
returns-in-Hangup-clause-refines c = rw c.in-Hangup.is (c.hangup.ensures.refines c.args.process)
