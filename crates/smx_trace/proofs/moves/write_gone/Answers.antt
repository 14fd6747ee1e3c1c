use Rattle.std.proofs.Common.{sym}
use Rattle.smx_model.specs.Changes.{same_serial}
use Rattle.smx_model.specs.Changes as change
use Rattle.smx_trace.proofs.SerialLemmas.{gone_text, kept_text, one_more_change}
use Rattle.smx_trace.proofs.moves.write_gone.Goals as goal
use Rattle.smx_trace.proofs.moves.write_gone.Goals.{in-Some, in-None+in_ok-write_marked-in-None}

pub loop-line-preserved : goal.loop-line-preserved
loop-line-preserved c =
    one_more_change (λ m. change.Gone (change.Msg m)) same_serial c.args.before.now c.args.after.now
    c.loop-line.line-index c.line-item.result c.args.out.now.items c.loop-line.out.items
    c.match-with_serial.out.items c.loop-line-test.true c.line-item.is c.loop-line.invariant
    (elim c.match-with_serial.branch [
      | in-Some w ↦ rw w.out-is (kept_text c.line-item.result _ c.args.after.now c.loop-line.out.items (sym w.in-Some.ensures))
      | in-None+in_ok-write_marked-in-None w ↦ rw w.out-is (gone_text c.line-item.result c.args.after.now
          c.loop-line.out.items w.write_marked.new.out.items (sym w.in-None.ensures)
          w.in_ok-write_marked-in-None.ensures)
    ])
