use Rattle.smx_text.specs.ProgramLines as line
use Rattle.smx_text.proofs.GrammarLemmas.{answers}
use Rattle.smx_text.proofs.ProgramsGrammarLemmas.{well_made}
use Rattle.smx_text.proofs.programs.ProgramsDraft.add_other.Goals as goal

pub returns-in-Some-clause-answers : goal.returns-in-Some-clause-answers
returns-in-Some-clause-answers c =
    answers (well_made _) _ _ (line.Driver c.in-Some.driver) _ c.in-Some.ensures _ c.add_driver.ensures.answers

pub returns-in-Some-process_of-clause-answers : goal.returns-in-Some-process_of-clause-answers
returns-in-Some-process_of-clause-answers c =
    answers (well_made _) _ _ (line.Process c.in-Some-process_of.number) _ c.in-Some-process_of.ensures _
    c.add_process.ensures.answers
