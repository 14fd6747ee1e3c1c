use Rattle.smx_words.proofs.Common.{sym, ◌∙◌, err_from_is_err_and}
use Rattle.smx_words.proofs.EntryLemmas.{call_line}
use Rattle.smx_words.proofs.InVersionLemmas.{call_in_is}
use Rattle.smx_words.proofs.reading.entry.call_of_line.Goals as goal

pub returns-in_default-clause-reading : goal.returns-in_default-clause-reading
returns-in_default-clause-reading c = λ x fits e. c.in_default.ensures x.0 _ fits.0.0 (e ∙ call_line x)

pub returns-in_default-2-clause-reading : goal.returns-in_default-2-clause-reading
returns-in_default-2-clause-reading c = λ x fits e.
    let none = rw c.in_default-2.is at c.in_ok-command.ensures.reading in
    none x.1 (fits.0.1, fits.1) (sym (c.in-Some.ensures.2 x.0 _ fits.0.0 (e ∙ call_line x)))

pub returns-in_err-command-clause-wanted : goal.returns-in_err-command-clause-wanted
returns-in_err-command-clause-wanted c =
    let p = err_from_is_err_and c.from_residual.result c.from_residual.ensures.1 in
    let some = c.in_err-command.ensures.wanted in
    let call =
    call_in_is c.args.version c.args.line.now c.in-Some.found.1.now c.in-Some.found.0 some.0 c.in-Some.ensures.0
    c.in-Some.ensures.1 some.1 some.2 in
    rw p.1 ((c.in-Some.found.0, some.0), call.0, call.1)

pub returns-clause-reading : goal.returns-clause-reading
returns-clause-reading c =
    let read = rw c.in-Some-2.is at c.in_ok-command.ensures.reading in
    call_in_is c.args.version c.args.line.now c.in-Some.found.1.now c.in-Some.found.0 c.in-Some-2.command
    c.in-Some.ensures.0 c.in-Some.ensures.1 read.0 read.1
