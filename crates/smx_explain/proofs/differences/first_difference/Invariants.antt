use Rattle.std.proofs.Common.{◌+◌, ◌≤◌, length}
use Rattle.smx_explain.proofs.DifferenceLemmas.{HasCome}
use Rattle.smx_explain.proofs.differences.first_difference.Given as goal

abbrev pub invariant-lines : goal.invariant-lines
invariant-lines l = record {
  come : HasCome l.one l.other l.rest l.behind l.number;
  room : l.number + length l.rest ≤ length l.one + 1;
}

abbrev pub decreases-lines : goal.decreases-lines
decreases-lines l = length l.rest
