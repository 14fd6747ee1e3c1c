use Rattle.smx_live.proofs.OverTableLemmas as over
use Rattle.smx_live.proofs.TableLemmas.{long_line, long_table}
use Rattle.smx_live.proofs.laws_of_live.what_is_too_long.Goals as goal

pub returns-clause-table : goal.returns-clause-table
returns-clause-table c = long_table

pub returns-clause-line : goal.returns-clause-line
returns-clause-line c = long_line

pub returns-clause-no_table : goal.returns-clause-no_table
returns-clause-no_table c = over.not_endless

pub returns-clause-no_line : goal.returns-clause-no_line
returns-clause-no_line c = over.line_fits

pub returns-clause-no_session : goal.returns-clause-no_session
returns-clause-no_session c = over.no_session_is_endless

pub returns-clause-no_end : goal.returns-clause-no_end
returns-clause-no_end c = over.no_line_at_the_end
