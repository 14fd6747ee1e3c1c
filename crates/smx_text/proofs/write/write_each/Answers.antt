use Rattle.std.proofs.Common.{append_assoc, arith}
use Rattle.smx_text.proofs.WritingLemmas.{program_text, program_fits}
use Rattle.smx_text.proofs.write.write_each.Goals as goal

pub loop-i-preserved : goal.loop-i-preserved
loop-i-preserved c =
    let commands = c.index-programs-i.result in
    let text = program_text c.args.programs.now c.loop-i.i commands c.loop-i-test.true c.index-programs-i.is in
    record {
      written =
          rw (
            text,
            c.in_ok-write_lines.ensures.written,
            c.as_slice.ensures,
            c.in_ok-write_process.ensures.written,
            c.loop-i.invariant.written,
          ) (simp append_assoc);
      fits = program_fits c.args.programs.now c.loop-i.i commands c.loop-i-test.true c.index-programs-i.is
          (omega arith) c.loop-i.invariant.fits (rw c.as_slice.ensures at c.in_ok-write_lines.ensures.fits);
    }
