use Rattle.std.proofs.Common.{rules}
use Rattle.smx_text.specs.GrowingTranscripts.{AreEntryLines}
use Rattle.smx_text.proofs.write.write_transcript.Goals as goal

pub returns-clause-written : goal.returns-clause-written
returns-clause-written c =
    let lines : AreEntryLines c.args.transcript.now.entries c.write_lines.new.out.items =
    record { written = search rules; fit = rw c.as_slice.ensures at c.in_ok-write_lines.ensures.fits } in
    rw c.as_slice-drivers.ensures at (c.in_ok-text.ensures.written _ lines)

pub returns-clause-spellable : goal.returns-clause-spellable
returns-clause-spellable c =
    let lines : AreEntryLines c.args.transcript.now.entries c.write_lines.new.out.items =
    record { written = search rules; fit = rw c.as_slice.ensures at c.in_ok-write_lines.ensures.fits } in
    rw c.as_slice-drivers.ensures at (c.in_ok-text.ensures.spellable _ lines)
