use Rattle.smx_session.proofs.LawLemmas.{always, not_both, one_step}
use Rattle.smx_session.proofs.laws_of_sessions.a_line_is_performed_in_one_way.Goals as goal

pub returns-clause-one : goal.returns-clause-one
returns-clause-one c = one_step c.one_value_each.ensures.call

pub returns-clause-not_both : goal.returns-clause-not_both
returns-clause-not_both c = not_both

pub returns-clause-always : goal.returns-clause-always
returns-clause-always c = always c.each_line_has_a_reading.ensures.call_in
