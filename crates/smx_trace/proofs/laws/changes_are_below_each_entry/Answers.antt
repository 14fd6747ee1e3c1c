use Rattle.smx_model.specs.Configuration.{empty}
use Rattle.smx_trace.proofs.LawLemmas.{below_each}
use Rattle.smx_trace.proofs.laws.changes_are_below_each_entry.Goals as goal

pub returns : goal.returns
returns c = λ each drivers before e more. below_each each drivers empty before e more
