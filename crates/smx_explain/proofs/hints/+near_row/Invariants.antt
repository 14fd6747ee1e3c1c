use Rattle.std.proofs.Common.{length}
use Rattle.smx_explain.proofs.hints.+near_row.Given as goal

abbrev pub decreases-near_row : goal.decreases-near_row
decreases-near_row l = length l.rows.now
