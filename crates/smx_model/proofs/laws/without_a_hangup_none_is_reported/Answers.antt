use Rattle.smx_model.proofs.QuietHistoryLemmas.{quiet_replies, quiet_streams}
use Rattle.smx_model.proofs.laws.without_a_hangup_none_is_reported.Goals as goal

pub returns-clause-replies : goal.returns-clause-replies
returns-clause-replies c = quiet_replies

pub returns-clause-streams : goal.returns-clause-streams
returns-clause-streams c = quiet_streams
