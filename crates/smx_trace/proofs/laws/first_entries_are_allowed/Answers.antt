use Rattle.smx_trace.proofs.PrefixLemmas.{first_allowed}
use Rattle.smx_trace.proofs.laws.first_entries_are_allowed.Goals as goal

pub returns : goal.returns
returns c = first_allowed
