use Rattle.std.proofs.Common.{rules}
use Rattle.smx_shared.proofs.StepLemmas.{takes_turn}
use Rattle.smx_shared.proofs.TellLemmas.{taken_free, taken_held}
use Rattle.smx_shared.proofs.turn_table.TurnTable.try_take.Goals as goal

pub fetch_or-word-requires : goal.fetch_or-word-requires
fetch_or-word-requires g c =
    (c.requires.table, search rules, takes_turn _ _ _ _ _ _ _ (c.requires.rest.2, c.requires.named) c.requires.rest.1)

pub returns-then-word-eq0-clause-taken : goal.returns-then-word-eq0-clause-taken
returns-then-word-eq0-clause-taken g c =
    (taken_free _ _ _ c.requires.rest c.fetch_or-word.ensures.2 c.if-word-eq0.true).0

pub returns-else-word-eq0-clause-held : goal.returns-else-word-eq0-clause-held
returns-else-word-eq0-clause-held g c =
    taken_held _ _ _ c.requires.rest c.fetch_or-word.ensures.2 c.if-word-eq0.false
