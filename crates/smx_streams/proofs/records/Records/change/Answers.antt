use Rattle.smx_model.proofs.Common.{subst, arith}
use Rattle.smx_streams.specs.RecordGrids.{AreSound}
use Rattle.smx_streams.proofs.RecordLemmas.{are_sound, key_tells}
use Rattle.smx_streams.proofs.records.Records.change.Goals as goal

pub returns-in-Some-clause-sound : goal.returns-in-Some-clause-sound
returns-in-Some-clause-sound c = are_sound c.put_back.new.drivers.items c.put_back.new.records c.put_back.ensures.whole

pub returns-in_default-clause-set : goal.returns-in_default-clause-set
returns-in_default-clause-set c =
    grind (arith, key_tells c.self.inside.drivers.items c.self.inside.records c.args.changed.stream c.self.invariant)

pub returns-in_default-clause-sound : goal.returns-in_default-clause-sound
returns-in_default-clause-sound c = subst AreSound c.self.view_is
    (are_sound c.self.inside.drivers.items c.self.inside.records c.self.invariant)
