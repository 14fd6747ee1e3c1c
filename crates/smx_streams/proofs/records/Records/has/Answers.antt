use Rattle.smx_model.proofs.Common.{arith}
use Rattle.smx_streams.proofs.RecordLemmas.{key_tells}
use Rattle.smx_streams.proofs.records.Records.has.Goals as goal

pub returns : goal.returns
returns c = grind (arith, key_tells c.self.inside.drivers.items c.self.inside.records c.args.stream c.self.invariant)
