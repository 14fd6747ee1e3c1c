use Rattle.std.proofs.Common.{rules}
use Rattle.smx_shared.specs.Fronts.{front_of}
use Rattle.smx_shared.proofs.turn_table.front_word.Goals as goal

pub returns-clause-word : goal.returns-clause-word
unfolding front_of
returns-clause-word g c = search rules
