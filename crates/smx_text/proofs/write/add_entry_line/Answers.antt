use Rattle.smx_text.proofs.GrowingLemmas.{one_line_more}
use Rattle.smx_text.proofs.write.add_entry_line.Goals as goal

pub returns : goal.returns
returns c = λ entries were.
    one_line_more entries _ _ _ c.in_ok-write_entry.ensures.written c.in_ok-write_entry.ensures.fits were
