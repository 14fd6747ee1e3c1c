use Rattle.std.proofs.Common.{◌-◌}
use Rattle.smx_explain.proofs.LineLemmas.{IsFrom}
use Rattle.smx_explain.proofs.lines.line_at.Given as goal

abbrev pub invariant-lines : goal.invariant-lines
invariant-lines l = IsFrom l.text l.number l.at l.rest

abbrev pub decreases-lines : goal.decreases-lines
decreases-lines l = l.number - l.at
