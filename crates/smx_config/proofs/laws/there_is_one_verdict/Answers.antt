use Rattle.smx_config.proofs.VerdictLemmas.{there_is_one}
use Rattle.smx_config.proofs.laws.there_is_one_verdict.Goals as goal

pub returns-clause-always : goal.returns-clause-always
returns-clause-always c = λ drivers entries shown.
    there_is_one drivers entries shown (c.legal_or_first_illegal.ensures.either drivers entries)
