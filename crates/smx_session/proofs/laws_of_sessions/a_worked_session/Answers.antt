use Rattle.std.proofs.Common.{refl}
use Rattle.smx_session.proofs.WorkedLemmas as worked
use Rattle.smx_session.proofs.laws_of_sessions.a_worked_session.Goals as goal

pub returns : goal.returns
returns c = record {
  starts = worked.starts;
  no_memory = worked.no_memory;
  no_memory_for_a_wrong_header =
      worked.no_memory_for_a_wrong_header c.one_text_has_one_reading.ensures c.want_of_memory_comes_before.ensures.programs
      c.wrong_programs.ensures.version_3.0;
  opens = worked.opens;
  hangs_up = worked.hangs_up;
  tells = worked.tells;
  tells_none = worked.tells_none;
  no_other_process = worked.no_other_process c.one_value_each.ensures.call;
  not_undone = worked.not_undone c.one_value_each.ensures.call;
  no_command = λ call fits is. c.which_lines_are_calls.ensures.not_without_its_process (call, fits, is);
  not_for_want_of_memory = c.which_lines_are_calls.ensures.not_without_its_process;
  not_as_no_command = λ none. let call = c.which_lines_are_calls.ensures.hangup in none call.0 call.1 call.2;
  no_entry = refl;
  no_memory_for_none = λ some. absurd (cc some);
  not_as_no_entry = λ none. absurd (cc none);
}
