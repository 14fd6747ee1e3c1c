use Rattle.smx_model.proofs.Common.{arith}
use Rattle.smx_streams.proofs.NameLemmas.{no_driver}
use Rattle.smx_streams.proofs.streams.Streams.in_range.Goals as goal

pub returns-in-None : goal.returns-in-None
returns-in-None c = grind (arith, no_driver _ c.args.driver c.args.minor c.in-None.ensures)
