use Rattle.smx_streams.proofs.RecordLemmas.{are_sound}
use Rattle.smx_streams.proofs.records.Records.add.Goals as goal

pub returns-clause-sound : goal.returns-clause-sound
returns-clause-sound c = are_sound c.put.new.drivers.items c.put.new.records c.in_ok-put.ensures.ok.whole
