use Rattle.smx_filters.proofs.AnswerLemmas.{run_is_legal, run_spells_one}
use Rattle.smx_filters.proofs.laws.a_run_writes_one_legal_transcript.Goals as goal

pub returns-clause-legal : goal.returns-clause-legal
returns-clause-legal c = run_is_legal c.reports_are_judged_legal.ensures

pub returns-clause-no_other : goal.returns-clause-no_other
returns-clause-no_other c = run_spells_one c.one_transcript_has_one_reading.ensures
