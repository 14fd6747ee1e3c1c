use Rattle.smx_model.proofs.Common.{subst}
use Rattle.smx_streams.specs.StreamTables.{AreHungsSound}
use Rattle.smx_streams.proofs.HungLemmas.{are_sound}
use Rattle.smx_streams.proofs.streams.Streams.holds_of.Goals as goal

pub returns-clause-sound : goal.returns-clause-sound
returns-clause-sound c = subst AreHungsSound c.self.view_is (are_sound c.self.inside c.self.invariant)
