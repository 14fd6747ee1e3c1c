use Rattle.std.proofs.Common.{refl}
use Rattle.smx_tables.proofs.tables.Tables.up.Goals as goal

pub returns : goal.returns
returns c = rw (← c.self.view_is, ← c.in_ok-link.ensures, ← c.in_ok-binding.ensures) refl
