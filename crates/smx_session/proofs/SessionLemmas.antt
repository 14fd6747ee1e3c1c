-- How a session starts over a text, or why it doesn't.
use Rattle.std.proofs.Common.{◌≡◌, ℕ, List, Ok, Err, None, inl, inr, refl, sym, subst, ◌∙◌}
use Rattle.std.specs.Prelude.{◌≢◌, ◌⊎◌}
use Rattle.smx_types.specs.ProgramLists.{ProgramLists}
use Rattle.smx_types.specs.declared.driver.DriverSpec.{DriverSpec}
use Rattle.smx_types.specs.declared.version.Version.{Version}
use Rattle.smx_config.specs.DriverFaults.{RefusesDrivers}
use Rattle.smx_config.specs.Machine.{Machine}
use Rattle.smx_config.specs.declared.config_fault.ConfigFault.{ConfigFault}
use Rattle.smx_config.specs.declared.config_fault.ConfigFault.TheVariants as config
use Rattle.smx_model.specs.Configuration.{empty}
use Rattle.smx_model.specs.DriverList.{IsDriverList}
use Rattle.smx_text.specs.Grammar.{ReadsAny, Spells}
use Rattle.smx_text.specs.ProgramsText.{programs_grammar}
use Rattle.smx_text.specs.declared.text_fault.Cause.TheVariants as cause
use Rattle.smx_text.specs.declared.text_fault.TextFault.{TextFault}
use Rattle.smx_session.specs.Sessions.{IsStartOf, StartsAs}
use Rattle.smx_session.specs.declared.faults.StartFault.{StartFault}
use Rattle.smx_session.specs.declared.faults.StartFault.TheVariants.{NoMemory, Text, Drivers}

-- a session doesn't start over a text that has a fault, or for which memory ran out
pub at_fault : (text : List ℕ) (fault : TextFault) (t : StartFault) → ReadsAny programs_grammar text (Err fault)
    → ((t ≡ NoMemory) × (fault.cause ≡ cause.NoMemory)) ⊎ ((t ≡ Text fault) × (fault.cause ≢ cause.NoMemory))
    → StartsAs text (Err t)
at_fault text fault t read (inl (is, wanting)) =
    subst (λ (x : StartFault). StartsAs text (Err x)) (sym is) (inl (fault, read, wanting))
at_fault text fault t read (inr (is, other)) =
    subst (λ (x : StartFault). StartsAs text (Err x)) (sym is) (read, other)

-- a session doesn't start over drivers that are refused, or for which memory ran out
pub refused : (text : List ℕ) (p : ProgramLists) (ds : List DriverSpec) (fault : ConfigFault) (t : StartFault)
    → ReadsAny programs_grammar text (Ok p) → ds ≡ p.drivers → RefusesDrivers ds fault
    → ((t ≡ NoMemory) × (fault ≡ config.NoMemory)) ⊎ ((t ≡ Drivers fault) × (fault ≢ config.NoMemory))
    → StartsAs text (Err t)
refused text p ds fault t read same bad (inl (is, wanting)) =
    let why : RefusesDrivers p.drivers fault = subst (λ (xs : List DriverSpec). RefusesDrivers xs fault) same bad in
    let can : IsDriverList p.drivers = subst (RefusesDrivers p.drivers) wanting why in
    subst (λ (x : StartFault). StartsAs text (Err x)) (sym is) (inr (read.0, p, read.1, can))
refused text p ds fault t read same bad (inr (is, other)) =
    let why : RefusesDrivers p.drivers fault = subst (λ (xs : List DriverSpec). RefusesDrivers xs fault) same bad in
    subst (λ (x : StartFault). StartsAs text (Err x)) (sym is) ((read.0, p, read.1, why), other)

-- a session starts over a text with nothing open, if its drivers are valid
pub started : (text : List ℕ) (p : ProgramLists) (v : Version) (ds : List DriverSpec) (m : Machine)
    → ReadsAny programs_grammar text (Ok p) → v ≡ p.version → ds ≡ p.drivers → m.drivers ≡ ds → IsDriverList ds
    → m.configuration ≡ empty
    → IsStartOf text (record { version = v; drivers = m.drivers; configuration = m.configuration; last = None })
started text p v ds m read version drivers same can nothing =
    let spelled : Spells (programs_grammar read.0) text p = read.1 in
    let is : read.0 ≡ v = sym spelled.allowed.version_is ∙ sym version in
    record {
      programs = p;
      spelled = subst (λ (x : Version). Spells (programs_grammar x) text p) is spelled;
      drivers = same ∙ drivers;
      valid_drivers = rw same can;
      nothing = nothing;
      no_entry = refl;
    }
