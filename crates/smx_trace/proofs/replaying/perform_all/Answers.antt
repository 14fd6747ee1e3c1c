use Rattle.std.proofs.lemmas.List.{take_all, take_more}
use Rattle.smx_trace.proofs.ReplayLemmas.{one_more}
use Rattle.smx_trace.proofs.replaying.perform_all.Goals as goal

pub loop-entry-preserved : goal.loop-entry-preserved
loop-entry-preserved c = λ drivers start.
    rw (
      take_more c.as_slice-entry-items.result.now c.loop-entry.entry-index c.entry-item.result c.loop-entry-test.true,
      ← c.entry-item.is,
    ) (one_more drivers _ c.entry-item.result _ _ c.in_ok-reply.reply _ _ (c.loop-entry.invariant drivers start)
    c.in_ok-reply.ensures.drivers c.in_ok-reply.ensures.ok c.in_ok-add_entry_line.ensures)

pub returns : goal.returns
returns c = λ drivers start.
    rw (take_all _ _ c.loop-entry-test.false, c.as_slice-entry-items.ensures) at (c.loop-entry.invariant drivers start)
