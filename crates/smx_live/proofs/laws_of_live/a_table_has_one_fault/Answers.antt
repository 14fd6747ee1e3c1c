use Rattle.smx_live.proofs.Common.{ReadsAny, programs_grammar}
use Rattle.std.proofs.Common.{Err}
use Rattle.smx_live.specs.LiveText.{RefusesDriversOf}
use Rattle.smx_live.proofs.TableFaultLemmas.{no_endless, one_fault, one_refusal, refused_alone, text_or_drivers}
use Rattle.smx_live.proofs.laws_of_live.a_table_has_one_fault.Goals as goal

pub returns-clause-text : goal.returns-clause-text
returns-clause-text c = λ read ended fault o.
    let (fine, none, known, bad) = o.outcome in
    (known, none, no_endless read ended (λ text. ReadsAny programs_grammar text (Err fault)) bad)

pub returns-clause-drivers : goal.returns-clause-drivers
returns-clause-drivers c = λ read ended fault o known.
    let (none, bad) = refused_alone read ended fault o known in
    (none, no_endless read ended (RefusesDriversOf fault) bad)

pub returns-clause-one : goal.returns-clause-one
returns-clause-one c = one_fault c.one_text_has_one_reading.ensures

pub returns-clause-one_refusal : goal.returns-clause-one_refusal
returns-clause-one_refusal c = λ read ended.
    one_refusal c.one_text_has_one_reading.ensures read ended c.drivers_have_one_fault.ensures

pub returns-clause-text_first : goal.returns-clause-text_first
returns-clause-text_first c = text_or_drivers c.one_text_has_one_reading.ensures
