use Rattle.smx_model.proofs.Common.{arith}
use Rattle.smx_streams.proofs.HungRowLemmas.{flag_tells}
use Rattle.smx_streams.proofs.streams.Streams.is_hung.Goals as goal

pub returns : goal.returns
returns c = grind (arith, flag_tells c.self.inside.records.hungs c.args.stream)
