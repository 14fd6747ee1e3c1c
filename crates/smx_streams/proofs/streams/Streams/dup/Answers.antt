use Rattle.smx_model.proofs.Common.{arith}
use Rattle.smx_streams.proofs.NameLemmas.{names_some}
use Rattle.smx_streams.proofs.streams.Streams.dup.Goals as goal

pub give-requires : goal.give-requires
give-requires c =
    grind (arith, names_some, c.self.invariant.named c.in-Some.stream, c.self.invariant.records.range c.in-Some.stream)
