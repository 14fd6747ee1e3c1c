use Rattle.smx_model.proofs.Common.{arith}
use Rattle.smx_streams.proofs.NameLemmas.{find_below, minors_at}
use Rattle.smx_streams.proofs.streams.Streams.open_clone.Goals as goal

pub give-requires : goal.give-requires
give-requires c = grind (arith, minors_at, find_below)
