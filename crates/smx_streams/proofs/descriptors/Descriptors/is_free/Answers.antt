use Rattle.smx_model.proofs.Common.{arith}
use Rattle.smx_streams.proofs.RowLemmas.{any_is_cell}
use Rattle.smx_streams.proofs.descriptors.Descriptors.is_free.Goals as goal

pub returns : goal.returns
returns c = grind (arith, any_is_cell c.self.inside.processes.items c.args.process c.args.fd)
