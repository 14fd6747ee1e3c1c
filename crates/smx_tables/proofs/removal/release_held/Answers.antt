use Rattle.std.proofs.Common.{arith}
use Rattle.smx_tables.proofs.ReleasedIdLemmas.{released_already}
use Rattle.smx_tables.proofs.removal.release_held.Goals as goal

pub returns-else-holds_of-gt0 : goal.returns-else-holds_of-gt0
returns-else-holds_of-gt0 c =
    released_already c.args.streams.now c.args.stream c.holds_of.ensures.sound
    (omega (arith, c.holds_of.ensures.number))
