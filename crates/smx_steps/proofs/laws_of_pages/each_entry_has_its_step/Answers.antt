use Rattle.smx_steps.proofs.StepLemmas.{step_in_page}
use Rattle.smx_steps.proofs.laws_of_pages.each_entry_has_its_step.Goals as goal

pub returns : goal.returns
returns c = step_in_page
