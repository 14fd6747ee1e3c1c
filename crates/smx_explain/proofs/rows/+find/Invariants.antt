use Rattle.std.proofs.Common.{length}
use Rattle.smx_explain.proofs.rows.+find.Given as goal

abbrev pub decreases-find : goal.decreases-find
decreases-find l = length l.rows.now
