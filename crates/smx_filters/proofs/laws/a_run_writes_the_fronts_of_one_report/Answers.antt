use Rattle.smx_filters.proofs.FrontsLawLemmas.{of_one_report}
use Rattle.smx_filters.proofs.laws.a_run_writes_the_fronts_of_one_report.Goals as goal

pub returns : goal.returns
returns c = of_one_report
