use Rattle.smx_shared.proofs.TurnLemmas.{home_at, out_at}
use Rattle.smx_shared.proofs.laws_of_systems.the_slot_is_home_or_out.Goals as goal

pub returns-clause-home : goal.returns-clause-home
returns-clause-home c = home_at

pub returns-clause-out : goal.returns-clause-out
returns-clause-out c = out_at
