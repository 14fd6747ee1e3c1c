use Rattle.std.proofs.lemmas.List.{take_all, take_more}
use Rattle.smx_trace.proofs.TraceLemmas.{traced_more}
use Rattle.smx_trace.proofs.replaying.trace_all.Goals as goal

pub loop-entry-init : goal.loop-entry-init
loop-entry-init c = record {
  now = record { kept = c.in_ok-view.ensures.kept; is = c.in_ok-view.ensures.view };
  traced = λ drivers opening h. h;
}

pub loop-entry-preserved : goal.loop-entry-preserved
loop-entry-preserved c = record {
  now = c.in_ok-view-2.ensures.now;
  traced = λ drivers opening start.
      rw (
        take_more c.as_slice-entry-items.result.now c.loop-entry.entry-index c.entry-item.result
            c.loop-entry-test.true,
        ← c.entry-item.is,
      )
      (traced_more c.args.each drivers opening _ _ _ _ _ _ (c.loop-entry.invariant.traced drivers opening start)
      c.in_ok-view-2.ensures.traced);
}

pub returns-clause-traced : goal.returns-clause-traced
returns-clause-traced c = λ drivers opening start.
    rw (take_all _ _ c.loop-entry-test.false, c.as_slice-entry-items.ensures)
    at (c.loop-entry.invariant.traced drivers opening start)
