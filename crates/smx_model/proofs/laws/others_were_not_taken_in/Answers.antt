use Rattle.smx_model.proofs.UnlawfulLemmas.{other_serial, other_address, other_bytes, no_entry}
use Rattle.smx_model.proofs.laws.others_were_not_taken_in.Goals as goal

pub returns-clause-other_serial : goal.returns-clause-other_serial
returns-clause-other_serial c = other_serial

pub returns-clause-other_address : goal.returns-clause-other_address
returns-clause-other_address c = other_address

pub returns-clause-other_bytes : goal.returns-clause-other_bytes
returns-clause-other_bytes c = other_bytes

pub returns-clause-no_entry : goal.returns-clause-no_entry
returns-clause-no_entry c = no_entry
