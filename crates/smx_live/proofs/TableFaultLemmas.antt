-- The text of a table, read as a programs text: it has one value, or one fault.
use Rattle.smx_live.proofs.Common.{◌≡◌, ◌≢◌, ℕ, ◌≤◌, Bool, List, [], ◌∷◌, ◌++◌, length, refl, sym, ap, subst, ◌∙◌}
use Rattle.smx_live.proofs.Common.{inl, inr, AllByRecursion, ProgramLists, Entry, DriverSpec, Version, ReadsAny}
use Rattle.smx_live.proofs.Common.{Spells, programs_grammar, State, MAX_INPUT, Refused, Text, HasOneReading}
use Rattle.smx_live.proofs.Common.{one_value, HasComeSoFar, IsLive, IsEndlessTable, table_text}
use Rattle.smx_live.proofs.Common.{AreAnswered, Turn, entries_in, Progress}
use Rattle.std.proofs.Common.{Err}
use Rattle.smx_config.specs.DriverFaults.{RefusesDrivers}
use Rattle.smx_config.specs.declared.config_fault.ConfigFault.{ConfigFault}
use Rattle.smx_run.specs.RunFaults.{RefusesAlone}
use Rattle.smx_run.specs.declared.run_fault.RunFault.{RunFault}
use Rattle.smx_run.specs.declared.run_fault.RunFault.TheVariants as run
use Rattle.smx_text.specs.declared.text_fault.Cause.TheVariants as cause
use Rattle.smx_text.specs.declared.text_fault.TextFault.{TextFault}
use Rattle.smx_session.specs.Sessions.{HasDrivers}
use Rattle.smx_run.proofs.RefusalLemmas.{HaveOneFault, only_memory_refuses}
use Rattle.smx_run.proofs.ReadingLemmas as texts
use Rattle.smx_live.specs.LiveText.{RefusesDriversOf, Returned}
use Rattle.smx_live.specs.Tables.{HasShortTableOf, HasTableOf}
use Rattle.smx_live.proofs.OverTableLemmas.{not_endless, table_once}

-- ---- one table

-- what was read starts with one table, so two facts about the text of a table are about one text
both : {read : List ℕ} {ended : Bool} (IsOne IsOther : List ℕ → Type 0) → HasTableOf read ended IsOne
    → HasTableOf read ended IsOther → (text : List ℕ) × IsOne text × IsOther text
both {read} {ended} IsOne IsOther (table, rest, parts, over, one) (second, more, parts_too, over_too, so) =
    let same = table_once ended table second rest more over over_too (sym parts ∙ parts_too) in
    (table_text second, subst (λ (t : List ℕ). IsOne (table_text t)) same.0 one, so)

-- a table within the limit is a table
of_short : {read : List ℕ} {ended : Bool} (IsSo : List ℕ → Type 0) → HasShortTableOf read ended IsSo
    → HasTableOf read ended IsSo
of_short IsSo (table, rest, parts, over, fits, so) = (table, rest, parts, over, so)

-- bytes that start with a table within the limit don't start with one that is too long
pub no_endless : (read : List ℕ) (ended : Bool) (IsSo : List ℕ → Type 0) → HasShortTableOf read ended IsSo
    → IsEndlessTable read → ⊥
no_endless read ended IsSo (table, rest, parts, over, fits, so) long =
    not_endless ended table rest over fits (rw parts at long)

-- what holds of the drivers of a text holds of those of any programs that the text spells
pub drivers_of : HasOneReading programs_grammar → (text : List ℕ) (AreSuch : List DriverSpec → Type 0)
    → HasDrivers text AreSuch → (v : Version) (p : ProgramLists) → Spells (programs_grammar v) text p
    → AreSuch p.drivers
drivers_of reading text AreSuch (w, q, also, such) v p spelled =
    subst (λ (x : ProgramLists). AreSuch x.drivers) (one_value programs_grammar reading text w v q p also spelled) such

-- ---- the table of a session

-- the table of a session spells the session's programs
spells : {explain : Bool} {read : List ℕ} {ended : Bool} {output : List ℕ} {s : State} {far : Progress} {held : List ℕ}
    (l : IsLive explain read ended output s far held)
    → HasTableOf read ended (λ text. Spells (programs_grammar s.version) text l.programs)
spells l = (l.table, _, l.read_is, l.over, l.spelled)

-- it has no fault as a programs text, except out-of-memory
pub no_fault : HasOneReading programs_grammar → (explain : Bool) (read output : List ℕ) (ended : Bool)
    (fault : TextFault) → HasComeSoFar explain read ended output
    → HasTableOf read ended (λ text. ReadsAny programs_grammar text (Err fault)) → fault.cause ≢ cause.NoMemory → ⊥
no_fault reading explain read output ended fault (s, far, held, l) bad =
    let (text, spelled, also) = both (λ t. Spells (programs_grammar s.version) t l.programs)
    (λ t. ReadsAny programs_grammar t (Err fault)) (spells l) bad in
    texts.no_fault programs_grammar reading text s.version l.programs fault spelled also

-- its drivers are not refused, except for lack of memory
pub no_refusal : HasOneReading programs_grammar → HaveOneFault → (explain : Bool) (read output : List ℕ) (ended : Bool)
    (fault : RunFault) → HasComeSoFar explain read ended output
    → HasTableOf read ended (RefusesDriversOf fault) → fault ≡ run.NoMemory
no_refusal reading determined explain read output ended fault (s, far, held, l) bad =
    let (text, spelled, refused) = both (λ t. Spells (programs_grammar s.version) t l.programs)
    (RefusesDriversOf fault) (spells l) bad in
    only_memory_refuses determined s.drivers l.valid_drivers fault
    (rw l.drivers (drivers_of reading text (λ ds. RefusesAlone ds fault) refused s.version l.programs spelled))

-- each line that was answered is within the limit
all_short : (version : Version) (drivers : List DriverSpec) (history : List Entry) (ts : List Turn)
    → AreAnswered version drivers history ts → AllByRecursion (λ t. length t.line ≤ MAX_INPUT) ts
all_short version drivers history [] was = tt
all_short version drivers history (t ∷ ts) was =
    (was.0.1, all_short version drivers (history ++ entries_in t.answer) ts was.2)

-- the table of a session and each line that it answered are within the limit
pub are_short : (explain : Bool) (read output held : List ℕ) (ended : Bool) (s : State) (far : Progress)
    (l : IsLive explain read ended output s far held)
    → (length l.table ≤ MAX_INPUT) × AllByRecursion (λ t. length t.line ≤ MAX_INPUT) l.turns
are_short explain read output held ended s far l = (l.fits, all_short s.version s.drivers [] l.turns l.answered)

-- ---- a table with a fault

-- drivers that are refused, but not for lack of memory, have a fault of their own
fault_of_drivers : (drivers : List DriverSpec) (fault : RunFault) → RefusesAlone drivers fault → fault ≢ run.NoMemory
    → (f : ConfigFault) × (fault ≡ run.ConfigFault f) × RefusesDrivers drivers f
fault_of_drivers drivers (run.ConfigFault f) (is, known) other = (f, refl, is)
fault_of_drivers drivers run.NoMemory had other = absurd (other refl)
fault_of_drivers drivers run.NoThread never other = absurd never
fault_of_drivers drivers (run.Strange process) never other = absurd never
fault_of_drivers drivers run.HistoryFull never other = absurd never
fault_of_drivers drivers run.Held never other = absurd never
fault_of_drivers drivers (run.FewEntries count) never other = absurd never
fault_of_drivers drivers (run.LongPage count) never other = absurd never

-- if the drivers of a table are refused, but not for lack of memory, nothing was written, and the table is not too long
pub refused_alone : (read : List ℕ) (ended : Bool) (fault : RunFault) (o : Returned read ended (Err (Refused fault)))
    → fault ≢ run.NoMemory → (o.output ≡ []) × HasShortTableOf read ended (RefusesDriversOf fault)
refused_alone read ended fault o known = elim o.outcome.1 [
  | inl (is, broken) ↦ absurd (known is)
  | inr refused ↦ refused
]

module _ (reading : HasOneReading programs_grammar) (read : List ℕ) (ended : Bool) where
  -- only one fault is reported for a table
  pub one_fault : (one other : TextFault) → Returned read ended (Err (Text one))
      → Returned read ended (Err (Text other)) → one ≡ other
  one_fault one other o p =
      let (fine, none, known, bad) = o.outcome in
      let (fine_too, none_too, known_too, bad_too) = p.outcome in
      let IsBad : TextFault → List ℕ → Type 0 = λ f t. ReadsAny programs_grammar t (Err f) in
      let (text, first, last) = both (IsBad one) (IsBad other) (of_short (IsBad one) bad)
      (of_short (IsBad other) bad_too) in
      texts.one_fault programs_grammar reading text one other first last known known_too

  -- if the text of a table has a fault, its drivers are not refused
  pub text_or_drivers : (fault : TextFault) (other : RunFault) → Returned read ended (Err (Text fault))
      → Returned read ended (Err (Refused other)) → other ≡ run.NoMemory
  text_or_drivers fault other o p = elim p.outcome.1 [
    | inl (is, broken) ↦ is
    | inr (none_too, refused) ↦
        let (fine, none, known, bad) = o.outcome in
        let IsBad : List ℕ → Type 0 = λ t. ReadsAny programs_grammar t (Err fault) in
        let (text, first, (w, q, spelled, last)) = both IsBad (RefusesDriversOf other) (of_short IsBad bad)
        (of_short (RefusesDriversOf other) refused) in
        absurd (texts.no_fault programs_grammar reading text w q fault spelled first known)
  ]

  -- the drivers of a table are refused for one fault, if it is not out-of-memory
  pub one_refusal : HaveOneFault → (one other : RunFault) → Returned read ended (Err (Refused one))
      → Returned read ended (Err (Refused other)) → one ≢ run.NoMemory → other ≢ run.NoMemory → one ≡ other
  one_refusal determined one other o p known known_too =
      let bad = (refused_alone read ended one o known).1 in
      let bad_too = (refused_alone read ended other p known_too).1 in
      let (text, (v, q, spelled, refused), also) = both (RefusesDriversOf one) (RefusesDriversOf other)
      (of_short (RefusesDriversOf one) bad) (of_short (RefusesDriversOf other) bad_too) in
      let first = fault_of_drivers q.drivers one refused known in
      let last = fault_of_drivers q.drivers other
      (drivers_of reading text (λ ds. RefusesAlone ds other) also v q spelled) known_too in
      first.1 ∙ ap run.ConfigFault (determined q.drivers first.0 last.0 first.2 last.2) ∙ sym last.1
