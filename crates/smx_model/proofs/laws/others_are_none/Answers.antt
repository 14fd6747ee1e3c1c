use Rattle.smx_model.proofs.ReportLemmas.{left_out, done_twice, exchanged, of_another, another_reply, another_view}
use Rattle.smx_model.proofs.laws.others_are_none.Goals as goal

pub returns-clause-left_out : goal.returns-clause-left_out
returns-clause-left_out c = left_out

pub returns-clause-done_twice : goal.returns-clause-done_twice
returns-clause-done_twice c = done_twice

pub returns-clause-exchanged : goal.returns-clause-exchanged
returns-clause-exchanged c = exchanged

pub returns-clause-of_another : goal.returns-clause-of_another
returns-clause-of_another c = of_another

pub returns-clause-another_reply : goal.returns-clause-another_reply
returns-clause-another_reply c = another_reply

pub returns-clause-another_view : goal.returns-clause-another_view
returns-clause-another_view c = another_view
