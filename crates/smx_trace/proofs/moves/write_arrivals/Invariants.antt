use Rattle.smx_trace.proofs.Common.{arrival_change, missing_from, same_line, changes_text}
use Rattle.std.specs.Prelude.{◌≡◌, ◌++◌, map, take}
use Rattle.smx_trace.proofs.moves.write_arrivals.Given as goal

abbrev pub invariant-loop-line : goal.invariant-loop-line
invariant-loop-line l = l.out.items ≡ l.initial.out.items
    ++ changes_text (map (arrival_change l.before) (missing_from same_line (take l.line-index l.after) l.before))
