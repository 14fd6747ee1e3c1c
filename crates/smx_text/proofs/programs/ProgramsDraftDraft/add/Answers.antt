use Rattle.smx_text.proofs.Common.{ap, rules, err_from_is_err_and, ProgramLists}
use Rattle.smx_text.specs.declared.text_fault.Cause.TheVariants as cause
use Rattle.smx_text.specs.ProgramLines as line
use Rattle.smx_text.proofs.GrammarLemmas.{answers, refuses}
use Rattle.smx_text.proofs.ProgramsGrammarLemmas.{well_made}
use Rattle.smx_text.proofs.MachineLemmas.{longer_begun}
use Rattle.smx_text.proofs.ProgramsMachineLemmas.{stands}
use Rattle.smx_text.proofs.programs.ProgramsDraftDraft.add.Goals as goal

pub returns-in-Ok-Some-clause-answers : goal.returns-in-Ok-Some-clause-answers
returns-in-Ok-Some-clause-answers c =
    let version = ap (λ (v : ProgramLists). v.version) c.self.view_is in
    let is = rw (c.in-Ok-Some.field-0-is, version) at c.in-Ok-Some.ensures.reading in
    answers (well_made _) _ _ (line.Command c.in-Ok-Some.command) _ is _ c.add_command.ensures.answers

pub returns-in_err-room_for_command-in-Err-clause-answers : goal.returns-in_err-room_for_command-in-Err-clause-answers
returns-in_err-room_for_command-in-Err-clause-answers c =
    let p = err_from_is_err_and c.from_residual.result c.from_residual.ensures.1 in
    let version = ap (λ (v : ProgramLists). v.version) c.self.view_is in
    let some = rw version at c.in-Err.ensures.wanted in
    rw (p.1, p.2) (refuses (well_made _) _ (line.Command some.0) _ some.1 some.2 _
    (c.in_err-room_for_command-in-Err.ensures.refused some.0))

pub returns-in_ok-room_for_command-in-Err-clause-answers : goal.returns-in_ok-room_for_command-in-Err-clause-answers
returns-in_ok-room_for_command-in-Err-clause-answers c =
    let version = ap (λ (v : ProgramLists). v.version) c.self.view_is in
    let some = rw version at c.in-Err.ensures.wanted in
    refuses (well_made _) _ (line.Command some.0) _ some.1 some.2 cause.NoMemory
    (longer_begun (stands c.args.self.now) (line.Command some.0) c.requires.begun (search rules) (search rules) some.1
    (λ e. cc))

pub add_command-requires-clause-fits : goal.add_command-requires-clause-fits
add_command-requires-clause-fits c =
    let version = ap (λ (v : ProgramLists). v.version) c.self.view_is in
    let is = rw (c.in-Ok-Some.field-0-is, version) at c.in-Ok-Some.ensures.reading in is.0

pub add_other-requires-clause-no_command : goal.add_other-requires-clause-no_command
add_other-requires-clause-no_command c =
    let version = ap (λ (v : ProgramLists). v.version) c.self.view_is in
    rw (c.in-Ok-None.field-0-is, version) at c.in-Ok-None.ensures.reading
