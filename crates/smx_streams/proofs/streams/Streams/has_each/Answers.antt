use Rattle.smx_model.proofs.Common.{subst, arith}
use Rattle.smx_model.proofs.TestLemmas.{all_same}
use Rattle.smx_streams.specs.StreamTables.{AreHungsSound}
use Rattle.smx_streams.specs.TableFields.{table_of}
use Rattle.smx_streams.proofs.HungLemmas.{are_sound}
use Rattle.smx_streams.proofs.NameLemmas.{used_exists}
use Rattle.smx_streams.proofs.streams.Streams.has_each.Goals as goal

pub returns-clause-answer : goal.returns-clause-answer
returns-clause-answer c = grind (arith, all_same, used_exists (table_of c.self.inside))

pub returns-clause-sound : goal.returns-clause-sound
returns-clause-sound c = subst AreHungsSound c.self.view_is (are_sound c.self.inside c.self.invariant)
