use Rattle.smx_filters.proofs.AnswerLemmas.{run_of_one}
use Rattle.smx_filters.proofs.laws.a_run_of_one_process_has_one_answer.Goals as goal

pub returns : goal.returns
returns c = run_of_one c.one_text_has_one_reading.ensures
