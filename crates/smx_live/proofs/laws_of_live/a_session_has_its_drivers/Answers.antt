use Rattle.smx_live.proofs.TableFaultLemmas.{are_short, no_fault, no_refusal}
use Rattle.smx_live.proofs.laws_of_live.a_session_has_its_drivers.Goals as goal

pub returns-clause-text : goal.returns-clause-text
returns-clause-text c = no_fault c.one_text_has_one_reading.ensures

pub returns-clause-drivers : goal.returns-clause-drivers
returns-clause-drivers c = no_refusal c.one_text_has_one_reading.ensures c.drivers_have_one_fault.ensures

pub returns-clause-short : goal.returns-clause-short
returns-clause-short c = are_short
