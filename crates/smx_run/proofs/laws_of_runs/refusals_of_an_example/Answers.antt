use Rattle.smx_run.proofs.FrontLemmas.{one_name}
use Rattle.smx_run.proofs.laws_of_runs.refusals_of_an_example.Goals as goal

pub returns-clause-not_no_memory : goal.returns-clause-not_no_memory
returns-clause-not_no_memory c = one_name

pub returns-clause-not_thread : goal.returns-clause-not_thread
returns-clause-not_thread c = one_name

pub returns-clause-not_full : goal.returns-clause-not_full
returns-clause-not_full c = one_name
