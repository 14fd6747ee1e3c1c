-- Worked texts that make no session, with the words that say why; and counterexamples.
use Rattle.std.proofs.Common.{◌≡◌, ℕ, List, [], ◌∷◌, Some, Ok, Err, inl, inr, refl, sym, ap, subst, ◌∙◌, get_or}
use Rattle.std.proofs.Common.{arith, rules}
use Rattle.std.specs.Prelude.{codes, pos}
use Rattle.std.specs.Fmt.{digits}
use Rattle.smx_types.specs.ProgramLists.{ProgramLists, program_lists}
use Rattle.smx_types.specs.declared.driver.DriverKind.TheVariants as kind
use Rattle.smx_types.specs.declared.driver.DriverSpec.{DriverSpec}
use Rattle.smx_types.specs.declared.driver.SpecFault.TheVariants.{BadMarks}
use Rattle.smx_types.specs.declared.version.Version.TheVariants.{V1, V2}
use Rattle.smx_config.specs.DriverFaults.{RefusesDrivers}
use Rattle.smx_config.specs.declared.config_fault.ConfigFault.TheVariants as config
use Rattle.smx_text.specs.Grammar.{Spells}
use Rattle.smx_text.specs.ProgramsText.{programs_grammar, programs_text}
use Rattle.smx_text.specs.WorkedFaults.{AreWrongPrograms}
use Rattle.smx_text.specs.declared.text_fault.Cause.TheVariants as cause
use Rattle.smx_session.specs.Sessions.{IsNotPerformed, IsStartOf}
use Rattle.smx_session.specs.WorkedSessions.{begun, table}
use Rattle.smx_session.specs.declared.faults.LineFault.TheVariants as line
use Rattle.smx_session.specs.declared.faults.StartFault.TheVariants as start
use Rattle.muxsim_c.specs.Calls.{Answers, Copies, IsWhy, Performs, Tells, TellsWhy}
use Rattle.muxsim_c.specs.Codes.{Outcome, code}
use Rattle.muxsim_c.specs.declared.call_fault.CallFault.{CallFault}
use Rattle.muxsim_c.specs.declared.call_fault.CallFault.TheVariants.{Line, NoEntry}
use Rattle.muxsim_c.specs.WorkedCalls.{without_a_process, without_marks, words_without_a_process, words_without_marks}

-- a text whose line 2 is malformed has the words that say so
pub form : AreWrongPrograms without_a_process 2 cause.Form → IsWhy without_a_process (codes "line 2: form")
form wrong = (
  Err (start.Text (record { line = 2; cause = cause.Form })),
  (wrong.0, λ e. cc),
  λ e. cc,
  sym words_without_a_process,
)

-- a driver whose two water marks are equal
abbrev same_marks : DriverSpec
same_marks = record { name = codes "ip"; kind = kind.Mux; minors = 4; high = 8; low = 8; max = 16 }

-- programs with only that driver, and no program
abbrev programs : ProgramLists
programs = program_lists (same_marks ∷ []) []

-- the worked text of that driver is the text of these programs
is_text : without_marks ≡ programs_text programs
unfolding digits
is_text = refl

-- the text spells these programs
spelled : Spells (programs_grammar V1) without_marks programs
spelled = record { allowed = search (rules, arith); text = is_text }

-- drivers whose first one has two equal water marks are refused for its marks
refused : RefusesDrivers programs.drivers (config.BadSpec 0 BadMarks)
refused = (same_marks, record { few = omega arith; here = refl; before = search (rules, arith) }, refl)

-- a text whose driver has two equal water marks has the words that say so
pub marks : IsWhy without_marks (codes "driver 0 marks")
marks = (
  Err (start.Drivers (config.BadSpec 0 BadMarks)),
  ((V1, programs, spelled, refused), λ e. cc),
  λ e. cc,
  sym words_without_marks,
)

-- a text that makes a session has no such words
pub fine : IsStartOf table begun → IsWhy table []
fine starts = (Ok begun, starts, tt, refl)

module _ (apart : (one other : Outcome) → code one ≡ code other → one ≡ other)
    (one_why : (text one other : List ℕ) → IsWhy text one → IsWhy text other → one ≡ other) where
  -- if the code is 0, the words of the text are copied
  copied : (text words old new : List ℕ) (was len : ℕ) → IsWhy text words
      → Answers (pos 0) (TellsWhy text old new was len) → Copies words old new len (Ok tt)
  copied text words old new was len is (Ok tt, inl (written, is_too, copies), code_is) =
      subst (λ (w : List ℕ). Copies w old new len (Ok tt)) (one_why text written words is_too is) copies
  copied text words old new was len is (Ok tt, inr (nothing, no_memory), code_is) = absurd cc
  copied text words old new was len is (Err t, told, code_is) =
      let same : ◌≡◌ {A = Outcome} (Ok tt) (Err t) = apart (Ok tt) (Err t) code_is in
      absurd cc

  -- a fault at line 2 is not reported as one at line 3
  pub not_line_3 : AreWrongPrograms without_a_process 2 cause.Form
      → Answers (pos 0) (TellsWhy without_a_process (codes "............") (codes "line 3: form") 7 12) → ⊥
  not_line_3 wrong told =
      let copies = copied without_a_process (codes "line 2: form") _ _ 7 12 (form wrong) told in
      let digit : 51 ≡ 50 = ap (λ (xs : List ℕ). get_or xs 5 0) copies.2 in
      omega (arith, digit)

  -- a fault of the drivers is not reported by no words
  pub not_silent : Answers (pos 0) (TellsWhy without_marks (codes "...") (codes "...") 7 0) → ⊥
  not_silent told =
      let copies = copied without_marks (codes "driver 0 marks") _ _ 7 0 marks told in
      omega (arith, copies.0)

-- a line that is not a command is not refused for lack of memory
pub not_for_want : (IsNotPerformed V2 (codes "dup 0") line.NoMemory → ⊥)
    → Answers (pos 1) (Performs (Some begun) (codes "dup 0") (Some begun)) → ⊥
not_for_want none (Ok tt, performed, code_is) = absurd cc
not_for_want none (Err t, (same, line.NoMemory, is, told), code_is) = none is
not_for_want none (Err t, (same, line.NoCommand, is, told), code_is) =
    let codes_are : pos 1 ≡ code (Err Line) = code_is ∙ ap (λ (x : CallFault). code (Err x)) told in
    absurd (cc codes_are)

-- before the first entry, memory does not run out for its line
pub no_memory_for_none : Answers (pos 1) (Tells (Some begun) (codes "1") (codes "1") 7 7) → ⊥
no_memory_for_none (outcome, inl (some, written), code_is) = absurd (cc some)
no_memory_for_none (outcome, inr (none, nothing, no_entry), code_is) =
    let codes_are : pos 1 ≡ code (Err NoEntry) = code_is ∙ ap code no_entry in
    absurd (cc codes_are)
