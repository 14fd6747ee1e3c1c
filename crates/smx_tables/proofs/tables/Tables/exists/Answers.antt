use Rattle.std.proofs.Common.{arith}
use Rattle.smx_tables.proofs.TablesLemmas.{tells_seen}
use Rattle.smx_tables.proofs.tables.Tables.exists.Goals as goal

pub returns : goal.returns
returns c = grind (arith, tells_seen)
