-- The worked session.
use Rattle.std.proofs.Common.{◌≡◌, ◌≢◌, ℕ, [], ◌∷◌, Option, Some, None, Err, inr, refl, ap, arith, rules}
use Rattle.std.specs.Prelude.{◌<◌, codes}
use Rattle.std.specs.Fmt.{digits}
use Rattle.smx_types.specs.ProgramLists.{ProgramLists, program_lists, raised}
use Rattle.smx_types.specs.declared.command.Entry.{Entry}
use Rattle.smx_types.specs.declared.version.Version.TheVariants.{V2}
use Rattle.smx_model.specs.Worked.Common.{Done, Fd, Hangup, OpenClone, ◌does◌gets◌, eth}
use Rattle.smx_text.specs.Grammar.{ReadsAny, Spells}
use Rattle.smx_text.specs.ProgramsText.{programs_grammar}
use Rattle.smx_text.specs.declared.text_fault.Cause.TheVariants as cause
use Rattle.smx_text.specs.declared.text_fault.TextFault.{TextFault}
use Rattle.smx_session.specs.Sessions.{IsLastLine, IsStartOf, Performs, StartsAs, State}
use Rattle.smx_session.specs.WorkedSessions.{begun, drivers, hung, opened, table}
use Rattle.smx_session.specs.declared.faults.StartFault.TheVariants.{NoMemory}
use Rattle.smx_session.proofs.LawLemmas.{AreDistinguished, HasOneReading, IsReportedBefore, before_the_fault, one_step}

-- programs of the worked drivers, without a process
abbrev programs : ProgramLists
programs = raised (program_lists drivers [])

-- the worked table spells these programs
spelled : Spells (programs_grammar V2) table programs
unfolding digits
spelled = record { allowed = search (rules, arith); text = refl }

-- the worked table starts a session
pub starts : IsStartOf table begun
starts =
    record {
      programs = programs;
      spelled = spelled;
      drivers = refl;
      valid_drivers = search (rules, arith);
      nothing = refl;
      no_entry = refl;
    }

-- memory may run out for the drivers of the worked table
pub no_memory : StartsAs table (Err NoMemory)
no_memory = inr (V2, programs, spelled, starts.valid_drivers)

-- the header of a third version is wrong
abbrev wrong_header : TextFault
wrong_header = record { line = 1; cause = cause.Header }

-- out-of-memory is not reported for a text with a wrong header
pub no_memory_for_a_wrong_header : HasOneReading → IsReportedBefore
    → ReadsAny programs_grammar (codes "programs 3\n") (Err wrong_header)
    → StartsAs (codes "programs 3\n") (Err NoMemory) → ⊥
no_memory_for_a_wrong_header reading told wrong wants =
    let known : cause.Header ≢ cause.NoMemory = λ e. absurd (cc e) in
    let late : 2 < 1 = before_the_fault (codes "programs 3\n") reading told wrong_header (wrong, known) wants in
    omega (arith, late)

-- `3 clone eth` opens a stream for process 3
pub opens : Performs begun (codes "3 clone eth") opened
unfolding digits
opens =
    record {
      entry = 3 does OpenClone eth gets Fd 0 0;
      fits = search (rules, arith);
      is_read = refl;
      does = refl;
      last = refl;
      drivers = refl;
      version = refl;
    }

-- `5 hangup eth 0` hangs up the open stream
pub hangs_up : Performs opened (codes "5 hangup eth 0") hung
unfolding digits
hangs_up =
    record {
      entry = 5 does Hangup eth 0 gets Done [];
      fits = search (rules, arith);
      is_read = refl;
      does = refl;
      last = refl;
      drivers = refl;
      version = refl;
    }

-- the last line of the session has the reply of the clone
pub tells : IsLastLine opened (codes "3 clone eth = fd 0 0\n")
unfolding digits
tells = (3 does OpenClone eth gets Fd 0 0, refl, refl)

-- before the first command there is no last line
pub tells_none : IsLastLine begun (codes "3 clone eth = fd 0 0\n") → ⊥
tells_none (e, none, line) = absurd cc

-- the state in which process 2 has opened a stream
abbrev opened_by_2 : State
opened_by_2 =
    record opened {
      configuration = record opened.configuration {
        fds = record { process = 2; fd = 0; stream = record { driver = 0; minor = 0 } } ∷ [];
      };
      last = Some (2 does OpenClone eth gets Fd 0 0);
    }

-- `2 clone eth` opens a stream for process 2
opens_by_2 : Performs begun (codes "2 clone eth") opened_by_2
unfolding digits
opens_by_2 =
    record {
      entry = 2 does OpenClone eth gets Fd 0 0;
      fits = search (rules, arith);
      is_read = refl;
      does = refl;
      last = refl;
      drivers = refl;
      version = refl;
    }

-- the process of the last entry, or 64 if there is no entry
abbrev process_of : Option Entry → ℕ
process_of (Some e) = e.process
process_of None = 64

-- `2 clone eth` doesn't open a stream for process 3
pub no_other_process : AreDistinguished → Performs begun (codes "2 clone eth") opened → ⊥
no_other_process apart h =
    let same : opened_by_2 ≡ opened = one_step apart begun opened_by_2 opened (codes "2 clone eth") opens_by_2 h in
    let numbers : 2 ≡ 3 = ap (λ (s : State). process_of s.last) same in
    omega (arith, numbers)

-- a command that was performed has changed the state
pub not_undone : AreDistinguished → Performs begun (codes "3 clone eth") begun → ⊥
not_undone apart h =
    let same : opened ≡ begun = one_step apart begun opened begun (codes "3 clone eth") opens h in
    let numbers : 3 ≡ 64 = ap (λ (s : State). process_of s.last) same in
    omega (arith, numbers)
