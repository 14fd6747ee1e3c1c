use Rattle.std.proofs.Common.{rules, refl, ◌≡◌, codes}
use Rattle.smx_text.specs.declared.text_fault.Cause.TheVariants as cause
use Rattle.smx_text.specs.TranscriptLines as line
use Rattle.smx_text.proofs.GrammarLemmas.{answers, refuses}
use Rattle.smx_text.proofs.TranscriptGrammarLemmas.{group_answers, well_made}
use Rattle.smx_text.proofs.MachineLemmas.{longer_begun, misplaced}
use Rattle.smx_text.proofs.TranscriptMachineLemmas.{stands}
use Rattle.smx_text.proofs.transcript.TranscriptDraft.add_other.Goals as goal

pub returns-in-Ok-Some-clause-answers : goal.returns-in-Ok-Some-clause-answers
returns-in-Ok-Some-clause-answers c =
    let is = rw c.in-Ok-Some.field-0-is at c.in-Ok-Some.ensures.reading in
    group_answers c.args.self.now (line.Msg c.in-Ok-Some.message) _ c.requires.begun refl (λ e. cc)
    (λ msgs. record c.args.self.now.transcript.view { msgs = msgs }) _ _ _ _ c.takes_msgs.ensures refl is
    _ c.push_if.ensures.pushed c.push_if.ensures.refused

pub returns-in-Err-clause-answers : goal.returns-in-Err-clause-answers
returns-in-Err-clause-answers c =
    let some = c.in-Err.ensures.wanted in
    refuses (well_made _) _ (line.Msg some.0) _ some.1 some.2 cause.NoMemory
    (longer_begun (stands c.args.self.now) (line.Msg some.0) c.requires.begun (search rules) refl some.1 (λ e. cc))

pub returns-in-Err-2-clause-answers : goal.returns-in-Err-2-clause-answers
returns-in-Err-2-clause-answers c =
    let some = c.in-Err-2.ensures.wanted in
    refuses (well_made _) _ (line.Msg some.0) _ some.1 some.2 cause.Form
    (misplaced (stands c.args.self.now) (line.Msg some.0) (search rules))

pub add_to_group-requires-clause-no_message : goal.add_to_group-requires-clause-no_message
add_to_group-requires-clause-no_message c =
    rw c.in-Ok-None.field-0-is at c.in-Ok-None.ensures.reading

pub returns-in-Some-clause-answers : goal.returns-in-Some-clause-answers
returns-in-Some-clause-answers c =
    answers (well_made _) _ _ (line.Driver c.in-Some.driver) _ c.in-Some.ensures _ c.add_driver.ensures.answers

pub returns-then-eq-clause-answers : goal.returns-then-eq-clause-answers
returns-then-eq-clause-answers c =
    let is : c.args.text.now ≡ codes "config" = search rules in
    answers (well_made _) _ _ line.Config _ (tt, is) _ c.add_config.ensures.answers

pub returns-in-Some-next_of-clause-answers : goal.returns-in-Some-next_of-clause-answers
returns-in-Some-next_of-clause-answers c =
    answers (well_made _) _ _ (line.Next c.in-Some-next_of.next_id c.in-Some-next_of.next_serial) _
    c.in-Some-next_of.ensures _ c.add_next.ensures.answers
