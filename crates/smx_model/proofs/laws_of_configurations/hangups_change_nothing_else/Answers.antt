use Rattle.smx_model.proofs.HungStreamLemmas.{hangup_again, hangup_is}
use Rattle.smx_model.proofs.laws_of_configurations.hangups_change_nothing_else.Goals as goal

pub returns-clause-first : goal.returns-clause-first
returns-clause-first c = hangup_is

pub returns-clause-second : goal.returns-clause-second
returns-clause-second c = hangup_again
