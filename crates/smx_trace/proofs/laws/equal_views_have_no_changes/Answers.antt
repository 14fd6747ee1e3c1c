use Rattle.smx_trace.proofs.LawLemmas.{no_changes}
use Rattle.smx_trace.proofs.laws.equal_views_have_no_changes.Goals as goal

pub returns : goal.returns
returns c = no_changes
