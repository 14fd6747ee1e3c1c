use Rattle.smx_streams.proofs.HungLemmas.{none_hung}
use Rattle.smx_streams.proofs.streams.Streams.new.Goals as goal

pub returns-clause-hungs : goal.returns-clause-hungs
returns-clause-hungs c = none_hung c.in_ok-new-2.field-0.hungs c.in_ok-new-2.ensures.hungs
