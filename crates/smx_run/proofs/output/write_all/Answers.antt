use Rattle.std.proofs.Common.{arith}
use Rattle.smx_run.proofs.OutputLemmas.{written_on}
use Rattle.smx_run.proofs.output.write_all.Goals as goal

pub loop-at-preserved : goal.loop-at-preserved
loop-at-preserved g c = record {
  within = omega (arith, c.in-Ok.ensures.bound);
  so_far = written_on _ _ _ c.loop-at.at c.in-Ok.n c.args.bytes.now c.loop-at.invariant.so_far c.in-Ok.ensures.bytes;
  fine = c.in-Ok.ensures.fine;
}
