use Rattle.std.proofs.Common.{rules, ◌≡◌, sym}
use Rattle.smx_trace.proofs.Common.{arrival_change, same_line}
use Rattle.smx_trace.proofs.SerialLemmas.{moved_text, new_text, one_more_change, unmoved_text}
use Rattle.smx_trace.proofs.moves.write_arrivals.Goals as goal
use Rattle.smx_trace.proofs.moves.write_arrivals.Goals.{in-None+in_ok-write_marked-in-None, in-Some}
use Rattle.smx_trace.proofs.moves.write_arrivals.Goals.{in-Some-2+in_ok-write_moved-in-Some-2}

pub loop-line-preserved : goal.loop-line-preserved
loop-line-preserved c =
    let line = c.line-item.result in
    let before = c.args.before.now in
    let out = c.loop-line.out.items in
    one_more_change (arrival_change before) same_line c.args.after.now before
    c.loop-line.line-index line c.args.out.now.items out
    c.match-with_serial.out.items c.loop-line-test.true c.line-item.is c.loop-line.invariant
    (elim c.match-with_serial.branch [
      | in-None+in_ok-write_marked-in-None w ↦ rw w.out-is (new_text line before out w.write_marked.new.out.items
          (sym w.in-None.ensures) w.in_ok-write_marked-in-None.ensures)
      | in-Some w ↦
          let is : w.in-Some.was.now ≡ line = search rules in
          rw w.out-is (unmoved_text line w.in-Some.was.now before out (sym w.in-Some.ensures) is)
      | in-Some-2+in_ok-write_moved-in-Some-2 w ↦
          let other : w.in-Some.was.now ≡ line → ⊥ = search rules in
          rw w.out-is (moved_text line w.in-Some.was.now before out w.write_moved.new.out.items
          c.requires (sym w.in-Some.ensures) other w.in_ok-write_moved-in-Some-2.ensures)
    ])
