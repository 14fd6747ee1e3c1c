use Rattle.smx_session.proofs.LawLemmas.{before_the_fault, one_start}
use Rattle.smx_session.proofs.laws_of_sessions.a_text_has_one_start.Goals as goal

pub returns-clause-one : goal.returns-clause-one
returns-clause-one c = λ text. one_start text c.one_text_has_one_reading.ensures c.drivers_have_one_fault.ensures

pub returns-clause-before : goal.returns-clause-before
returns-clause-before c = λ text.
    before_the_fault text c.one_text_has_one_reading.ensures c.want_of_memory_comes_before.ensures.programs
