use Rattle.std.proofs.Common.{rules}
use Rattle.smx_text.proofs.WritingLemmas.{body_text, written_allowed}
use Rattle.smx_text.proofs.write.write_programs.Goals as goal

pub returns-clause-written : goal.returns-clause-written
returns-clause-written c = rw (body_text c.args.programs.now) (search rules)

pub returns-clause-allowed : goal.returns-clause-allowed
returns-clause-allowed c =
    written_allowed c.args.programs.now c.version.ensures.within
    (rw c.drivers.ensures.drivers at c.in_ok-write_lines.ensures.fits)
    (rw c.programs.ensures.programs at c.in_ok-write_each.ensures.fits)
