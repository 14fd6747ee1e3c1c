use Rattle.std.proofs.Common.{◌+◌, ◌≤◌, length}
use Rattle.smx_text.proofs.ReadingLemmas.{IsBetween}
use Rattle.smx_text.proofs.reading.read.Given as goal

abbrev pub invariant-lines : goal.invariant-lines
invariant-lines g l = record {
  between : IsBetween (g.D.Draft.grammar (g.D.Draft.version_of l.draft)) l.bytes l.rest
      (g.D.Draft.lines l.draft) l.number;
  room : l.number + length l.rest ≤ length l.bytes + 2;
}

abbrev pub decreases-lines : goal.decreases-lines
decreases-lines g l = length l.rest
