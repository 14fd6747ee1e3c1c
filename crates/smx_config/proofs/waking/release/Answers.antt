use Rattle.std.proofs.Common.{rules}
use Rattle.smx_config.proofs.WakeLemmas.{released_one}
use Rattle.smx_config.proofs.waking.release.Goals as goal

pub returns-clause-released : goal.returns-clause-released
returns-clause-released c = search (rules, released_one)
