use Rattle.smx_shared.proofs.TurnLemmas.{held_by, one_holder, shown_by}
use Rattle.smx_shared.proofs.laws_of_systems.the_turn_is_one_seats.Goals as goal

pub returns-clause-held : goal.returns-clause-held
returns-clause-held c = held_by

pub returns-clause-only_then : goal.returns-clause-only_then
returns-clause-only_then c = shown_by

pub returns-clause-one : goal.returns-clause-one
returns-clause-one c = one_holder
