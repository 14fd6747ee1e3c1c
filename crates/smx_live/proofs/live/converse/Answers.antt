use Rattle.std.proofs.Common.{◌≡◌, ◌+◌, ◌++◌, ◌∙◌, ◌^◌, ◌≤◌, Ok, Err, true, false, arith, refl, sym}
use Rattle.std.proofs.lemmas.Result.{err_from_is_err_and}
use Rattle.smx_live.proofs.LiveLemmas.{held_of_read}
use Rattle.smx_live.proofs.LiveStageLemmas.{at_the_end, begins, failed, no_count, no_line, over, reads, turned_on}
use Rattle.smx_live.proofs.LiveStageLemmas.{turns}
use Rattle.smx_live.proofs.live.converse.Goals as goal

pub loop-turn-init : goal.loop-turn-init
loop-turn-init g c = record {
  gone = λ read output l. begins l;
  end = c.requires.end;
  fed = c.requires.fed;
  sunk = c.requires.sunk;
  flushed = c.requires.flushed;
}

pub returns-in_err-n : goal.returns-in_err-n
returns-in_err-n g c =
    let (piece, p) = c.in_err-n.ensures in
    let (fault, is, of) = err_from_is_err_and c.from_residual.result c.from_residual.ensures.1 in
    let inv = c.loop-turn.invariant in λ read output l.
    rw (is, of) (no_line (reads (inv.gone read output l) p.consumed refl p.stays) inv.sunk c.in_err-n.field-0.0
    inv.flushed p.came)

pub returns-in_default : goal.returns-in_default
returns-in_default g c =
    let (piece, p) = c.in_ok-n.ensures in
    let sink = c.finish.new.sink in
    let came = rw c.in_default.is at p.came in λ read output l.
    let gone = reads (c.loop-turn.invariant.gone read output l) p.consumed came.held p.stays in
    at_the_end gone (g.S.Sink.flushed sink) (g.S.Sink.failures sink) came.fine (g.S.Sink.contents sink) c.finish.result
    (c.finish.ensures c.args.explain (read ++ gone.more) (output ++ gone.said) _
    (rw c.as_slice.ensures.value gone.live) came.found.0 (rw c.as_slice.ensures.value came.found.1))

pub returns-in_err-answer : goal.returns-in_err-answer
returns-in_err-answer g c =
    let (piece, p) = c.in_ok-n.ensures in
    let came = rw c.in-Some.is at p.came in
    let (fault, is, of) =
    err_from_is_err_and c.from_residual-in_err-answer.result c.from_residual-in_err-answer.ensures.1 in
    let sink = c.answer.new.sink in λ read output l.
    let gone = reads (c.loop-turn.invariant.gone read output l) p.consumed came.held p.stays in
    rw (is, of) (failed gone (g.S.Sink.flushed sink) (g.S.Sink.failures sink) came.fine (g.S.Sink.contents sink)
    c.in_err-answer.field-0.0
    (turned_on {read = read ++ gone.more} {output = output ++ gone.said} gone.live came.found.0 came.found.1
    c.answer.new.talk.session c.answer.new.talk.progress _ _ (g.S.Sink.flushed sink) _ (Err c.in_err-answer.field-0.0)
    (rw c.deref.ensures.value at c.in_err-answer.ensures)))

pub returns-then-branch : goal.returns-then-branch
returns-then-branch g c =
    let (piece, p) = c.in_ok-n.ensures in
    let came = rw c.in-Some.is at p.came in
    let sink = c.answer.new.sink in λ read output l.
    let gone = reads (c.loop-turn.invariant.gone read output l) p.consumed came.held p.stays in
    let h = turned_on {read = read ++ gone.more} {output = output ++ gone.said} gone.live came.found.0 came.found.1
    c.answer.new.talk.session c.answer.new.talk.progress _ _ _ _ (Ok true)
    (rw (c.if-branch.true, c.deref.ensures.value) at c.in_ok-answer.ensures) in
    over gone (g.S.Sink.flushed sink) (g.S.Sink.failures sink) came.fine (g.S.Sink.contents sink) h.2 h.0 h.1 h.3 h.4

pub loop-turn-preserved : goal.loop-turn-preserved
loop-turn-preserved g c =
    let (piece, p) = c.in_ok-n.ensures in
    let came = rw c.in-Some.is at p.came in
    let still : g.F.Feed.ended c.next_line.new.feed ≡ c.drop_line.new.self.ended = came.end ∙ sym c.drop_line.ensures.end
    in
    record {
      gone = λ read output l.
          let gone = reads (c.loop-turn.invariant.gone read output l) p.consumed came.held p.stays in
          let h = turned_on {read = read ++ gone.more} {output = output ++ gone.said} gone.live came.found.0
          came.found.1 c.answer.new.talk.session c.answer.new.talk.progress _ _ _ _ (Ok false)
          (rw (c.if-branch.false, c.deref.ensures.value) at c.in_ok-answer.ensures) in
          rw (← still)
          (turns gone h.2 h.3 (rw c.drop_line.ensures.held h.4) came.found.0.within c.drop_line.ensures.held);
      end = still;
      fed = came.fine;
      sunk = c.in_ok-answer.ensures.0;
      flushed = c.in_ok-answer.ensures.1;
    }

pub returns : goal.returns
returns g c =
    let inv = c.loop-turn.invariant in
    let many : 2 ^ 64 ≤ c.loop-turn._turn + 1 = omega (arith, c.loop-turn-test.false) in λ read output l.
    rw inv.end (no_count (inv.gone read output l) {flushed = g.S.Sink.flushed c.loop-turn.sink} inv.sunk
    (held_of_read l) inv.fed many)
