use Rattle.smx_model.proofs.Common.{subst}
use Rattle.smx_streams.specs.StreamTables.{AreHungsSound}
use Rattle.smx_streams.proofs.HungLemmas.{are_sound}
use Rattle.smx_streams.proofs.streams.Streams.is_sound.Goals as goal

pub returns : goal.returns
returns c = subst AreHungsSound c.self.view_is (are_sound c.self.inside c.self.invariant)
