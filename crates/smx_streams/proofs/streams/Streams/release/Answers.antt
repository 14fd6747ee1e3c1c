use Rattle.smx_model.proofs.Common.{subst, ◌-◌}
use Rattle.smx_streams.specs.StreamTables.{StreamTable, AreHungsSound, HasHolds, number_at}
use Rattle.smx_streams.specs.TableFields.{table_of}
use Rattle.smx_streams.proofs.HungLemmas.{are_sound, holds_changed}
use Rattle.smx_streams.proofs.streams.Streams.release.Goals as goal

pub returns-clause-rest : goal.returns-clause-rest
returns-clause-rest c = subst
    (λ (t : StreamTable). HasHolds t c.args.stream (number_at t.holds c.args.stream - 1)
    (table_of (record c.self.inside { records = c.release.new.self }))) c.self.view_is
    (holds_changed c.self.inside c.release.new.self c.args.stream _ c.release.ensures.set c.self.invariant)

pub returns-clause-sound : goal.returns-clause-sound
returns-clause-sound c = subst AreHungsSound c.self.view_is (are_sound c.self.inside c.self.invariant)
