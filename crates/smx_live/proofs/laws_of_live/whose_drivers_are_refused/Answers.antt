use Rattle.smx_live.proofs.Common.{◌≡◌, ◌∙◌, [], ◌∷◌, ap, arith, refl, rules, subst, sym, codes, V2, eth, Spells}
use Rattle.smx_live.proofs.Common.{programs_grammar, table_text, worked_table}
use Rattle.std.proofs.Common.{Err, Ok, Result}
use Rattle.std.proofs.lemmas.Option.{same_Some}
use Rattle.smx_types.specs.Drivers.{spec_check}
use Rattle.smx_types.specs.declared.driver.SpecFault.{SpecFault}
use Rattle.smx_types.specs.declared.driver.SpecFault.TheVariants.{BadMinors}
use Rattle.smx_model.specs.DriverList.{IsDriverList}
use Rattle.smx_model.specs.Worked.Common.{leaf}
use Rattle.smx_config.specs.declared.config_fault.ConfigFault.TheVariants as config
use Rattle.smx_run.specs.RunFaults.{RefusesAlone}
use Rattle.smx_run.specs.declared.run_fault.RunFault.TheVariants as run
use Rattle.smx_live.specs.WorkedLives.{minorless_text}
use Rattle.smx_live.proofs.TableFaultLemmas.{drivers_of}
use Rattle.smx_live.proofs.WorkedLiveLemmas.{minorless, of_one, worked}
use Rattle.smx_live.proofs.laws_of_live.whose_drivers_are_refused.Goals as goal

pub returns-clause-refused : goal.returns-clause-refused
returns-clause-refused c = (
  V2,
  of_one 0,
  minorless,
  (
    (leaf eth 0, record { few = search (rules, arith); here = refl; before = search (rules, arith) }, refl),
    λ e. absurd (cc e),
  ),
)

pub returns-clause-not_for_want_of_memory : goal.returns-clause-not_for_want_of_memory
returns-clause-not_for_want_of_memory c = λ h.
    let had : IsDriverList (leaf eth 0 ∷ []) = drivers_of c.one_text_has_one_reading.ensures minorless_text
    (λ ds. RefusesAlone ds run.NoMemory) h V2 (of_one 0) minorless in
    absurd (cc (had.each 0 (leaf eth 0) (omega arith)))

pub returns-clause-no_memory : goal.returns-clause-no_memory
returns-clause-no_memory c = (V2, of_one 2, worked, search (rules, arith))

pub returns-clause-not_refused : goal.returns-clause-not_refused
returns-clause-not_refused c = λ h.
    let (d, bad, check) = (drivers_of c.one_text_has_one_reading.ensures (table_text worked_table)
    (λ ds. RefusesAlone ds (run.ConfigFault (config.BadSpec 0 BadMinors))) h V2 (of_one 2) worked).0 in
    let e : ◌≡◌ {A = Result (Unit {0}) SpecFault} (Ok tt) (Err BadMinors) =
    ap spec_check (same_Some (leaf eth 2) d bad.here) ∙ check in
    absurd (cc e)

pub returns-clause-not_of_what_is_cut : goal.returns-clause-not_of_what_is_cut
returns-clause-not_of_what_is_cut c = λ fault (version, p, spelled, others).
    c.wrong_programs.ensures.version_2_alone.1 p (subst (λ v. Spells (programs_grammar v) (codes "programs 2\n") p)
    (sym spelled.allowed.version_is) spelled)
