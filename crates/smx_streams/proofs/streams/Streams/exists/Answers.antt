use Rattle.smx_model.proofs.Common.{ap, subst, ◌∙◌}
use Rattle.smx_streams.specs.StreamTables.{StreamTable, AreHungsSound, exists, number_at}
use Rattle.smx_streams.specs.TableFields.{table_of}
use Rattle.smx_streams.proofs.HungLemmas.{are_sound}
use Rattle.smx_streams.proofs.NameLemmas.{used_exists}
use Rattle.smx_streams.proofs.streams.Streams.exists.Goals as goal

pub returns-clause-answer : goal.returns-clause-answer
returns-clause-answer c = c.has.ensures ∙ used_exists (table_of c.self.inside) c.args.stream
    (number_at c.self.inside.records.opens c.args.stream) (c.self.invariant.named c.args.stream)
    ∙ ap (λ (t : StreamTable). exists t c.args.stream) c.self.view_is

pub returns-clause-sound : goal.returns-clause-sound
returns-clause-sound c = subst AreHungsSound c.self.view_is (are_sound c.self.inside c.self.invariant)
