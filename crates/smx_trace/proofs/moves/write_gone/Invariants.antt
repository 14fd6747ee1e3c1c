use Rattle.smx_trace.proofs.Common.{missing_from, same_serial, changes_text}
use Rattle.std.specs.Prelude.{◌≡◌, ◌++◌, map, take}
use Rattle.smx_model.specs.Changes as change
use Rattle.smx_trace.proofs.moves.write_gone.Given as goal

abbrev pub invariant-loop-line : goal.invariant-loop-line
invariant-loop-line l = l.out.items ≡ l.initial.out.items
    ++ changes_text (map (λ m. change.Gone (change.Msg m))
    (missing_from same_serial (take l.line-index l.before) l.after))
