use Rattle.smx_text.proofs.Common.{rules, err_from_is_err_and}
use Rattle.smx_text.specs.declared.text_fault.Cause.TheVariants as cause
use Rattle.smx_text.specs.TranscriptLines as line
use Rattle.smx_text.proofs.GrammarLemmas.{answers, refuses}
use Rattle.smx_text.proofs.TranscriptGrammarLemmas.{well_made}
use Rattle.smx_text.proofs.MachineLemmas.{longer_begun}
use Rattle.smx_text.proofs.TranscriptMachineLemmas.{stands}
use Rattle.smx_text.proofs.transcript.TranscriptDraftDraft.add.Goals as goal

pub returns-in-Ok-Some-clause-answers : goal.returns-in-Ok-Some-clause-answers
returns-in-Ok-Some-clause-answers c =
    let is = rw c.in-Ok-Some.field-0-is at c.in-Ok-Some.ensures.reading in
    answers (well_made _) _ _ (line.Entry c.in-Ok-Some.entry) _ is _ c.add_entry.ensures.answers

pub returns-in_err-room_for_entry-in-Err-clause-answers : goal.returns-in_err-room_for_entry-in-Err-clause-answers
returns-in_err-room_for_entry-in-Err-clause-answers c =
    let p = err_from_is_err_and c.from_residual.result c.from_residual.ensures.1 in
    let some = c.in-Err.ensures.wanted in
    rw (p.1, p.2) (refuses (well_made _) _ (line.Entry some.0) _ some.1 some.2 _
    (c.in_err-room_for_entry-in-Err.ensures.refused some.0))

pub returns-in_ok-room_for_entry-in-Err-clause-answers : goal.returns-in_ok-room_for_entry-in-Err-clause-answers
returns-in_ok-room_for_entry-in-Err-clause-answers c =
    let some = c.in-Err.ensures.wanted in
    refuses (well_made _) _ (line.Entry some.0) _ some.1 some.2 cause.NoMemory
    (longer_begun (stands c.args.self.now) (line.Entry some.0) c.requires.begun (search rules) (search rules) some.1
    (λ e. cc))

pub add_entry-requires-clause-fits : goal.add_entry-requires-clause-fits
add_entry-requires-clause-fits c =
    let is = rw c.in-Ok-Some.field-0-is at c.in-Ok-Some.ensures.reading in is.0

pub add_other-requires-clause-no_entry : goal.add_other-requires-clause-no_entry
add_other-requires-clause-no_entry c =
    rw c.in-Ok-None.field-0-is at c.in-Ok-None.ensures.reading
