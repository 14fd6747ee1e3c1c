use Rattle.muxsim.proofs.EndLemmas.{failed, no_verdict, no_words, unwritten}
use Rattle.muxsim.proofs.laws_of_ends.a_status_tells_what_failed.Goals as goal

pub returns-clause-failed : goal.returns-clause-failed
returns-clause-failed c = failed

pub returns-clause-unwritten : goal.returns-clause-unwritten
returns-clause-unwritten c = unwritten

pub returns-clause-no_words : goal.returns-clause-no_words
returns-clause-no_words c = no_words

pub returns-clause-no_verdict : goal.returns-clause-no_verdict
returns-clause-no_verdict c = no_verdict
