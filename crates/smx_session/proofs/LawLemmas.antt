-- A text has one start, and a line is performed in one way.
use Rattle.std.proofs.Common.{◌≡◌, ◌≢◌, ℕ, List, Option, Some, None, Result, Ok, Err, inl, inr, refl, sym, ap, subst}
use Rattle.std.proofs.Common.{◌∙◌, arith}
use Rattle.std.specs.Prelude.{◌<◌, ◌⊎◌, IfErr}
use Rattle.smx_types.specs.ProgramLists.{ProgramLists}
use Rattle.smx_types.specs.declared.command.Command.{Command}
use Rattle.smx_types.specs.declared.command.Entry.{Entry}
use Rattle.smx_types.specs.declared.driver.DriverSpec.{DriverSpec}
use Rattle.smx_types.specs.declared.reply.Reply.{Reply}
use Rattle.smx_types.specs.declared.version.Version.{Version}
use Rattle.smx_config.specs.DriverFaults.{RefusesDrivers}
use Rattle.smx_config.specs.declared.config_fault.ConfigFault.{ConfigFault}
use Rattle.smx_config.specs.declared.config_fault.ConfigFault.TheVariants as config
use Rattle.smx_model.specs.Commands.{step}
use Rattle.smx_model.specs.Configuration.{Configuration}
use Rattle.smx_model.specs.DriverList.{IsDriverList}
use Rattle.smx_model.specs.Histories.{call_of}
use Rattle.smx_text.specs.Grammar.{IsFault, ReadsAny, Spells, last_line}
use Rattle.smx_text.specs.ProgramsText.{programs_grammar}
use Rattle.smx_text.specs.declared.text_fault.Cause.TheVariants as cause
use Rattle.smx_text.specs.declared.text_fault.TextFault.{TextFault}
use Rattle.smx_words.specs.LineReading.{IsNoCallLine, IsReadAs}
use Rattle.smx_words.specs.Spellable.{FitsCall, FitsCallIn}
use Rattle.smx_words.specs.Spelling.{call_words}
use Rattle.smx_words.specs.Words.{line_of}
use Rattle.smx_session.specs.Sessions.{HasDrivers, IsStartOf, Performs, StartsAs, State}
use Rattle.smx_session.specs.declared.faults.StartFault.{StartFault}
use Rattle.smx_session.specs.declared.faults.StartFault.TheVariants.{NoMemory, Text, Drivers}

-- ---- what other crates' laws say

-- a programs text has one reading, apart from out-of-memory
abbrev pub HasOneReading : Type 0
HasOneReading = (bytes : List ℕ) (r s : Result ProgramLists TextFault) → ReadsAny programs_grammar bytes r
    → ReadsAny programs_grammar bytes s → IfErr r (λ f. f.cause ≢ cause.NoMemory)
    → IfErr s (λ f. f.cause ≢ cause.NoMemory) → r ≡ s

-- out-of-memory is reported only before the line at which any other reading of a programs text ends
abbrev pub IsReportedBefore : Type 0
IsReportedBefore = (version : Version) (bytes : List ℕ) (line : ℕ) (r : Result ProgramLists TextFault)
    → IsFault (programs_grammar version) bytes line cause.NoMemory → ReadsAny programs_grammar bytes r
    → IfErr r (λ f. f.cause ≢ cause.NoMemory) → line < last_line (programs_grammar version) r

-- drivers are refused for only one fault
abbrev pub HaveOneFault : Type 0
HaveOneFault =
    (drivers : List DriverSpec) (f g : ConfigFault) → RefusesDrivers drivers f → RefusesDrivers drivers g → f ≡ g

-- no two calls have the same line
abbrev pub AreDistinguished : Type 0
AreDistinguished =
    (x y : ℕ × Command) → FitsCall x → FitsCall y → line_of (call_words x) ≡ line_of (call_words y) → x ≡ y

-- each line is a call, or not a call
abbrev pub HaveReadings : Type 0
HaveReadings =
    (v : Version) (line : List ℕ) → (o : Option (ℕ × Command)) × IsReadAs (FitsCallIn v) call_words line o

-- ---- starts

-- the state with these parts
abbrev state_of : Version → List DriverSpec → Configuration → Option Entry → State
state_of v ds c last = record { version = v; drivers = ds; configuration = c; last = last }

-- states with the same parts are the same
same_state : (a b : State) → a.version ≡ b.version → a.drivers ≡ b.drivers → a.configuration ≡ b.configuration
    → a.last ≡ b.last → a ≡ b
same_state a b v d c l =
    let same : state_of a.version a.drivers a.configuration a.last
    ≡ state_of b.version b.drivers b.configuration b.last = cc in same

module _ (text : List ℕ) (reading : HasOneReading) where
  -- a text spells one value, in either version
  one_value : (v w : Version) (x y : ProgramLists) → Spells (programs_grammar v) text x
      → Spells (programs_grammar w) text y → x ≡ y
  one_value v w x y h k =
      let same : ◌≡◌ {A = Result ProgramLists TextFault} (Ok x) (Ok y) = reading text _ _ (v, h, tt) (w, k, tt) tt tt in
      cc

  -- a text that spells programs has no fault, apart from out-of-memory
  no_fault : (v : Version) (x : ProgramLists) (f : TextFault) → Spells (programs_grammar v) text x
      → ReadsAny programs_grammar text (Err f) → f.cause ≢ cause.NoMemory → ⊥
  no_fault v x f h k known =
      let same : ◌≡◌ {A = Result ProgramLists TextFault} (Ok x) (Err f) = reading text _ _ (v, h, tt) k tt known in
      absurd cc

  -- a text has at most one fault, apart from out-of-memory
  one_text_fault : (f e : TextFault) → ReadsAny programs_grammar text (Err f) → ReadsAny programs_grammar text (Err e)
      → f.cause ≢ cause.NoMemory → e.cause ≢ cause.NoMemory → f ≡ e
  one_text_fault f e h k known known_too =
      let same : ◌≡◌ {A = Result ProgramLists TextFault} (Err f) (Err e) = reading text _ _ h k known known_too in cc

  -- two sessions that start over one text are the same
  one_session : (a b : State) → IsStartOf text a → IsStartOf text b → a ≡ b
  one_session a b h k =
      let same : h.programs ≡ k.programs =
      one_value a.version b.version h.programs k.programs h.spelled k.spelled in
      same_state a b
      (sym h.spelled.allowed.version_is ∙ (ap (λ (p : ProgramLists). p.version) same ∙ k.spelled.allowed.version_is))
      (h.drivers ∙ (ap (λ (p : ProgramLists). p.drivers) same ∙ sym k.drivers)) (h.nothing ∙ sym k.nothing)
      (h.no_entry ∙ sym k.no_entry)

  -- out-of-memory is not reported for a text whose first or second line has a fault
  pub before_the_fault : IsReportedBefore → (fault : TextFault) → StartsAs text (Err (Text fault))
      → StartsAs text (Err NoMemory) → 2 < fault.line
  before_the_fault told fault (reads, known) (inl (want, (v, is, other), memory)) =
      let at : IsFault (programs_grammar v) text want.line cause.NoMemory =
      subst (IsFault (programs_grammar v) text want.line) memory is in
      let before : want.line < fault.line = told v text want.line (Err fault) at reads known in
      omega (arith, at.2.numbered, before)
  before_the_fault told fault (reads, known) (inr (v, p, spelled, can)) =
      absurd (no_fault v p fault spelled reads known)

  module _ (one_fault : HaveOneFault) where
    -- no session starts over drivers that are refused
    none_refused : (a : State) (f : ConfigFault) → IsStartOf text a → HasDrivers text (λ ds. RefusesDrivers ds f)
        → f ≢ config.NoMemory → ⊥
    none_refused a f h (v, p, spelled, bad) known =
        let same : h.programs ≡ p = one_value a.version v h.programs p h.spelled spelled in
        let can : IsDriverList p.drivers =
        subst IsDriverList (h.drivers ∙ ap (λ (q : ProgramLists). q.drivers) same) h.valid_drivers in
        known (one_fault p.drivers f config.NoMemory bad can)

    -- the drivers of a text are refused for at most one fault
    one_refusal : (f g : ConfigFault) → HasDrivers text (λ ds. RefusesDrivers ds f)
        → HasDrivers text (λ ds. RefusesDrivers ds g) → f ≡ g
    one_refusal f g (v, p, spelled, bad) (w, q, spelled_too, bad_too) =
        let same : p ≡ q = one_value v w p q spelled spelled_too in
        one_fault q.drivers f g (subst (λ (x : ProgramLists). RefusesDrivers x.drivers f) same bad) bad_too

    -- a text has at most one start, apart from out-of-memory
    pub one_start : (one other : Result State StartFault) → StartsAs text one → StartsAs text other
        → IfErr one (λ t. t ≢ NoMemory) → IfErr other (λ t. t ≢ NoMemory) → one ≡ other
    one_start (Ok a) (Ok b) h k known known_too = ap Ok (one_session a b h k)
    one_start (Err NoMemory) other h k known known_too = absurd (known refl)
    one_start (Ok a) (Err NoMemory) h k known known_too = absurd (known_too refl)
    one_start (Ok a) (Err (Text f)) h k known known_too =
        absurd (no_fault a.version h.programs f h.spelled k.0 k.1)
    one_start (Ok a) (Err (Drivers f)) h k known known_too = absurd (none_refused a f h k.0 k.1)
    one_start (Err (Text f)) (Ok b) h k known known_too =
        absurd (no_fault b.version k.programs f k.spelled h.0 h.1)
    one_start (Err (Text f)) (Err (Text g)) h k known known_too =
        ap (λ (x : TextFault). Err (Text x)) (one_text_fault f g h.0 k.0 h.1 k.1)
    one_start (Err (Text f)) (Err (Drivers g)) h k known known_too = absurd (no_fault k.0.0 k.0.1 f k.0.2 h.0 h.1)
    one_start (Err (Text f)) (Err NoMemory) h k known known_too = absurd (known_too refl)
    one_start (Err (Drivers f)) (Ok b) h k known known_too = absurd (none_refused b f k h.0 h.1)
    one_start (Err (Drivers f)) (Err (Text g)) h k known known_too =
        absurd (no_fault h.0.0 h.0.1 g h.0.2 k.0 k.1)
    one_start (Err (Drivers f)) (Err (Drivers g)) h k known known_too =
        ap (λ (x : ConfigFault). Err (Drivers x)) (one_refusal f g h.0 k.0)
    one_start (Err (Drivers f)) (Err NoMemory) h k known known_too = absurd (known_too refl)

-- ---- lines

-- the entry of a call and its reply
abbrev pub entry_with : ℕ × Command → Reply → Entry
entry_with call reply = record { process = call.0; command = call.1; reply = reply }

-- a line is performed in only one way
pub one_step : AreDistinguished → (old new other : State) (line : List ℕ) → Performs old line new
    → Performs old line other → new ≡ other
one_step apart old new other line h k =
    let call : call_of h.entry ≡ call_of k.entry =
    apart (call_of h.entry) (call_of k.entry) h.fits.0 k.fits.0 (sym h.is_read ∙ k.is_read) in
    let same : (new.configuration, h.entry.reply) ≡ (other.configuration, k.entry.reply) =
    sym h.does
    ∙ (ap (λ (c : ℕ × Command). step old.drivers old.configuration c.0 c.1) call ∙ k.does) in
    let reply : h.entry.reply ≡ k.entry.reply = ap (λ (p : Configuration × Reply). p.1) same in
    let last : h.entry ≡ k.entry =
    ap (λ (c : ℕ × Command). entry_with c h.entry.reply) call ∙ ap (entry_with (call_of k.entry)) reply in
    same_state new other (h.version ∙ sym k.version) (h.drivers ∙ sym k.drivers)
    (ap (λ (p : Configuration × Reply). p.0) same) (h.last ∙ (ap Some last ∙ sym k.last))

-- a line that is performed is that of a call
pub not_both : (old new : State) (line : List ℕ) → Performs old line new → IsNoCallLine old.version line → ⊥
not_both old new line h none = none (call_of h.entry) h.fits h.is_read

-- a line is performed, or it is not that of a call
pub always : HaveReadings → (old : State) (line : List ℕ)
    → ((new : State) × Performs old line new) ⊎ IsNoCallLine old.version line
always readings old line = found (readings old.version line) where
  found : (o : Option (ℕ × Command)) × IsReadAs (FitsCallIn old.version) call_words line o
      → ((new : State) × Performs old line new) ⊎ IsNoCallLine old.version line
  found (None, none) = inr none
  found (Some c, (fits, read)) =
      let made = step old.drivers old.configuration c.0 c.1 in
      let e : Entry = entry_with c made.1 in
      inl (
        state_of old.version old.drivers made.0 (Some e),
        record {
          entry = e;
          fits = fits;
          is_read = read;
          does = refl;
          last = refl;
          drivers = refl;
          version = refl;
        },
      )
