use Rattle.std.proofs.Common.{arith}
use Rattle.std.proofs.lemmas.Grind.{common_steps}
use Rattle.smx_model.proofs.HistoryLemmas.{after_push, legal_push}
use Rattle.smx_config.proofs.verdict.first_illegal.Goals as goal

pub loop-i-preserved : goal.loop-i-preserved
loop-i-preserved c = grind (arith, common_steps, after_push, legal_push)
