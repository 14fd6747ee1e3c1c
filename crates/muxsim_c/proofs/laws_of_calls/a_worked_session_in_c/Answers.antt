use Rattle.std.proofs.Common.{[], Ok, Err, inl, inr, refl, arith}
use Rattle.std.specs.Prelude.{codes}
use Rattle.muxsim_c.specs.declared.call_fault.CallFault.TheVariants.{Line, NoEntry, NoRoom}
use Rattle.smx_session.specs.declared.faults.LineFault.TheVariants.{NoCommand}
use Rattle.muxsim_c.proofs.WorkedLemmas as worked
use Rattle.muxsim_c.proofs.laws_of_calls.a_worked_session_in_c.Goals as goal

pub returns-clause-open : goal.returns-clause-open
returns-clause-open c = (Ok tt, c.a_worked_session.ensures.starts, refl)

pub returns-clause-tell_text : goal.returns-clause-tell_text
returns-clause-tell_text c =
    let why = worked.form c.wrong_programs.ensures.no_process in
    (Ok tt, inl (codes "line 2: form", why, (refl, omega arith, refl)), refl)

pub returns-clause-tell_drivers : goal.returns-clause-tell_drivers
returns-clause-tell_drivers c = (Ok tt, inl (codes "driver 0 marks", worked.marks, (refl, omega arith, refl)), refl)

pub returns-clause-tell_no_room : goal.returns-clause-tell_no_room
returns-clause-tell_no_room c =
    (Err NoRoom, inl (codes "driver 0 marks", worked.marks, (refl, omega arith, refl, refl)), refl)

pub returns-clause-tell_no_fault : goal.returns-clause-tell_no_fault
returns-clause-tell_no_fault c =
    (Ok tt, inl ([], worked.fine c.a_worked_session.ensures.starts, (refl, omega arith, refl)), refl)

pub returns-clause-perform : goal.returns-clause-perform
returns-clause-perform c = (Ok tt, c.a_worked_session.ensures.opens, refl)

pub returns-clause-tell : goal.returns-clause-tell
returns-clause-tell c =
    let line = codes "3 clone eth = fd 0 0\n" in
    (Ok tt, inl (refl, inl (line, c.a_worked_session.ensures.tells, (refl, omega arith, refl))), refl)

pub returns-clause-tell_none : goal.returns-clause-tell_none
returns-clause-tell_none c = (Err NoEntry, inr (refl, (refl, refl), refl), refl)

pub returns-clause-not_line_3 : goal.returns-clause-not_line_3
returns-clause-not_line_3 c =
    worked.not_line_3 c.codes_tell_outcomes_apart.ensures c.words_are_those_of_the_text.ensures
    c.wrong_programs.ensures.no_process

pub returns-clause-not_silent : goal.returns-clause-not_silent
returns-clause-not_silent c =
    worked.not_silent c.codes_tell_outcomes_apart.ensures c.words_are_those_of_the_text.ensures

pub returns-clause-not_performed : goal.returns-clause-not_performed
returns-clause-not_performed c =
    (Err Line, (refl, NoCommand, c.a_worked_session.ensures.no_command, refl), refl)

pub returns-clause-not_for_want_of_memory : goal.returns-clause-not_for_want_of_memory
returns-clause-not_for_want_of_memory c = worked.not_for_want c.a_worked_session.ensures.not_for_want_of_memory

pub returns-clause-no_memory_for_none : goal.returns-clause-no_memory_for_none
returns-clause-no_memory_for_none c = worked.no_memory_for_none
