use Rattle.std.specs.Prelude.{[], ◌∷◌, length}
use Rattle.smx_trace.specs.Missing.{ComesTo}
use Rattle.smx_trace.proofs.changes.lines_from.Given as goal

abbrev pub decreases-lines : goal.decreases-lines
decreases-lines g l = length l.rest

abbrev pub invariant-lines : goal.invariant-lines
invariant-lines g l = ComesTo (g.T.Ranked.rank l.drivers) l.initial.rest (l.line ∷ []) l.rest
