use Rattle.smx_session.proofs.HistoryLemmas.{begins, goes_on}
use Rattle.smx_session.proofs.laws_of_sessions.lines_make_a_legal_history.Goals as goal

pub returns-clause-begins : goal.returns-clause-begins
returns-clause-begins c = begins

pub returns-clause-goes_on : goal.returns-clause-goes_on
returns-clause-goes_on c = goes_on c.one_entry_more.ensures.after c.one_entry_more.ensures.legal
