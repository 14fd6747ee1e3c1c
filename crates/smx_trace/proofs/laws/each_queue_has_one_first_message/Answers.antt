use Rattle.smx_trace.proofs.WaitLemmas.{places_listed, places_once}
use Rattle.smx_trace.proofs.laws.each_queue_has_one_first_message.Goals as goal

pub returns-clause-once : goal.returns-clause-once
returns-clause-once c = places_once

pub returns-clause-listed : goal.returns-clause-listed
returns-clause-listed c = places_listed
