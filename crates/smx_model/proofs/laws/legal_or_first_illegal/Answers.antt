use Rattle.smx_model.proofs.IllegalEntryLemmas.{legal_or_first, not_both, one_number}
use Rattle.smx_model.proofs.laws.legal_or_first_illegal.Goals as goal

pub returns-clause-either : goal.returns-clause-either
returns-clause-either c = legal_or_first

pub returns-clause-not_both : goal.returns-clause-not_both
returns-clause-not_both c = not_both

pub returns-clause-one : goal.returns-clause-one
returns-clause-one c = one_number
