use Rattle.std.proofs.Common.{rules}
use Rattle.smx_text.proofs.GrowingLemmas.{around, finished, finished_fits}
use Rattle.smx_text.proofs.write.finish_transcript.Goals as goal

pub returns-clause-written : goal.returns-clause-written
returns-clause-written c = λ entries are.
    let opened = c.in_ok-write_opening.ensures in
    let begins = around c.args.version c.args.drivers.now entries c.args.lines.items _ _ c.len-length.result
    (search rules) opened.written c.rotate_left.ensures.items opened.fits are in
    finished c.args.version c.args.drivers.now entries c.args.view.now _ _ _ c.in_ok-write_view.ensures.written
    c.in_ok-extend_from_slice.ensures.items begins

pub returns-clause-spellable : goal.returns-clause-spellable
returns-clause-spellable c = λ entries are.
    let opened = c.in_ok-write_opening.ensures in
    let begins = around c.args.version c.args.drivers.now entries c.args.lines.items _ _ c.len-length.result
    (search rules) opened.written c.rotate_left.ensures.items opened.fits are in
    finished_fits c.args.version c.args.drivers.now entries c.args.view.now _ c.in_ok-write_view.ensures.spellable
    begins
