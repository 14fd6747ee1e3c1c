use Rattle.std.proofs.Common.{sym}
use Rattle.smx_live.proofs.laws_of_live.when_entries_are_traced.Goals as goal
use Rattle.smx_live.specs.WorkedLives.{changes_shown}

pub returns-clause-changes : goal.returns-clause-changes
returns-clause-changes c = sym changes_shown
