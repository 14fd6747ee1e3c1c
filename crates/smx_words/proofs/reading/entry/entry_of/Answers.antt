use Rattle.std.proofs.lemmas.Result.{err_from_is_err_and}
use Rattle.smx_words.proofs.EntryLemmas.{each_side, no_sides}
use Rattle.smx_words.proofs.InVersionLemmas.{call_fits, no_reply, entry_in_is, entry_in_spelled}
use Rattle.smx_words.proofs.reading.entry.entry_of.Goals as goal
use Rattle.smx_words.proofs.reading.entry.entry_of.Goals.{in-None-2, in-Some-3}

pub returns-in_default-clause-reading : goal.returns-in_default-clause-reading
returns-in_default-clause-reading c = λ x fits e. no_sides c.args.line.now c.in_default.ensures x fits.0 e

pub returns-in-Ok-None-clause-reading : goal.returns-in-Ok-None-clause-reading
returns-in-Ok-None-clause-reading c = λ x fits e.
    let none = rw c.in-Ok-None.field-0-is at c.in-Ok-None.ensures.reading in
    let each =
    each_side c.args.line.now c.in-Some.call.now c.in-Some.reply.now x fits.0 c.in-Some.ensures.0 c.in-Some.ensures.1
    e in
    none (x.process, x.command) (call_fits c.args.version x fits) each.0

pub returns-in-None-clause-reading : goal.returns-in-None-clause-reading
returns-in-None-clause-reading c =
    let none = rw c.in-None.is at c.in_ok-reply_of-in-Ok-Some.ensures.reading in
    no_reply c.args.version c.args.line.now _ _ c.in-Some.ensures.0 c.in-Some.ensures.1 none

pub returns-in-Some-2-clause-reading : goal.returns-in-Some-2-clause-reading
returns-in-Some-2-clause-reading c =
    let asked = rw c.in-Ok-Some.field-0-is at c.in-Ok-Some.ensures.reading in
    let answered = rw c.in-Some-2.is at c.in_ok-reply_of-in-Ok-Some.ensures.reading in
    entry_in_is c.args.version c.args.line.now _ _ _ c.in-Some.ensures.1 asked answered

pub returns-in_err-reply_of-in-Ok-Some-clause-wanted : goal.returns-in_err-reply_of-in-Ok-Some-clause-wanted
returns-in_err-reply_of-in-Ok-Some-clause-wanted c =
    let p = err_from_is_err_and c.from_residual.result c.from_residual.ensures.1 in
    let asked = rw c.in-Ok-Some.field-0-is at c.in-Ok-Some.ensures.reading in
    rw p.1 (entry_in_spelled c.args.version c.args.line.now _ _ c.in-Some.ensures.1 (_, asked.0, asked.1)
    c.in_err-reply_of-in-Ok-Some.ensures.wanted)

pub returns-in_err-reply_of-in-Err-clause-wanted : goal.returns-in_err-reply_of-in-Err-clause-wanted
returns-in_err-reply_of-in-Err-clause-wanted c =
    let p = err_from_is_err_and c.from_residual-in_err-reply_of-in-Err.result
    c.from_residual-in_err-reply_of-in-Err.ensures.1 in
    rw p.1 (entry_in_spelled c.args.version c.args.line.now _ _ c.in-Some.ensures.1 c.in-Err.ensures.wanted
    c.in_err-reply_of-in-Err.ensures.wanted)

pub returns-after-branch-4-clause-reading : goal.returns-after-branch-4-clause-reading
returns-after-branch-4-clause-reading c = elim c.match-branch-4.branch [
  | in-None-2 w ↦ let none = rw w.in-None-2.is at c.in_ok-reply_of-in-Err.ensures.reading in
      rw w.result-is (no_reply c.args.version c.args.line.now _ _ c.in-Some.ensures.0 c.in-Some.ensures.1 none)
  | in-Some-3 w ↦ rw w.result-is tt
]

pub returns-after-branch-4-clause-wanted : goal.returns-after-branch-4-clause-wanted
returns-after-branch-4-clause-wanted c = elim c.match-branch-4.branch [
  | in-None-2 w ↦ rw w.result-is tt
  | in-Some-3 w ↦ let read = rw w.in-Some-3.is at c.in_ok-reply_of-in-Err.ensures.reading in
      rw w.result-is (entry_in_spelled c.args.version c.args.line.now _ _ c.in-Some.ensures.1 c.in-Err.ensures.wanted
      (_, read.0, read.1))
]
