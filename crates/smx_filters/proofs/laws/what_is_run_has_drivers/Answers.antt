use Rattle.smx_filters.proofs.AnswerLemmas.{run_or_refused}
use Rattle.smx_filters.proofs.laws.what_is_run_has_drivers.Goals as goal

pub returns : goal.returns
returns c = run_or_refused c.one_text_has_one_reading.ensures
