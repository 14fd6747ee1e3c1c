-- The fields that are enough for a report; the example of a report, and transcripts that are not reports.
use Rattle.smx_model.proofs.Common.{◌≡◌, zero, suc, List, [], ◌∷◌, map, refl, ap, length, arith, nat_tests}
use Rattle.smx_model.proofs.Common.{All-from_recursion, ProgramLists, Command, Entry, DriverSpec, Transcript, rules}
use Rattle.smx_model.proofs.Common.{ConfigView, IsDriverList, IsReportOf, after, call_of, HoldsPrograms, IsLegal, view}
use Rattle.smx_model.specs.Worked.Common.{OpenClone, Dup, CloseAll, Fd, Fault, BadDescriptor, ip}
use Rattle.smx_model.specs.Worked.Reports.{another_exited, copied, drivers, exited, once_more, one, opened, programs}
use Rattle.smx_model.specs.Worked.Reports.{report_with, three, too_early, two}
use Rattle.smx_model.proofs.DropLemmas.{few_drop}
use Rattle.smx_model.proofs.HistoryLemmas.{lawful_throughout}

-- the first parts of a report suffice for all
pub report_of : (programs : ProgramLists) (r : Transcript) → r.drivers ≡ programs.drivers
    → IsDriverList programs.drivers → IsLegal programs.drivers r.entries → HoldsPrograms r.entries programs.programs
    → r.view ≡ view programs.drivers (after programs.drivers r.entries) → IsReportOf programs r
report_of programs r same can legal holds shown = record {
  drivers = same;
  valid_drivers = can;
  legal = legal;
  holds = holds;
  shown = shown;
  lawful = lawful_throughout programs.drivers r.entries legal;
  drops = few_drop programs.drivers r.entries legal;
}

-- the example

-- the entries of the example hold its programs
example_holds : HoldsPrograms (opened ∷ exited ∷ copied ∷ []) programs.programs
example_holds zero = refl
example_holds (suc zero) = refl
example_holds (suc (suc p)) = grind (arith, nat_tests)

-- the drivers of the example are valid
example_drivers : IsDriverList drivers
example_drivers = grind (arith, All-from_recursion)

-- the example, an open of process 0, the exit of process 1 and a dup of process 0, is a report
pub is_report : IsReportOf programs (report_with (opened ∷ exited ∷ copied ∷ []) two)
is_report = search (rules, report_of, example_drivers, example_holds)

-- transcripts that are not reports

-- the program of process 0 in the example, an open and a dup
abbrev both : List Command
both = OpenClone ip ∷ Dup 0 ∷ []

-- the example without the dup of process 0 is not a report
pub left_out : IsReportOf programs (report_with (opened ∷ exited ∷ []) one) → ⊥
left_out h = let e : OpenClone ip ∷ [] ≡ both = h.holds 0 in absurd cc

-- the example with a second dup of process 0 is not a report
pub done_twice : IsReportOf programs (report_with (opened ∷ copied ∷ once_more ∷ exited ∷ []) three) → ⊥
done_twice h = let e : OpenClone ip ∷ Dup 0 ∷ Dup 0 ∷ [] ≡ both = h.holds 0 in absurd cc

-- the example with the dup of process 0 before its open is not a report
pub exchanged : IsReportOf programs (report_with (too_early ∷ opened ∷ exited ∷ []) one) → ⊥
exchanged h = let e : Dup 0 ∷ OpenClone ip ∷ [] ≡ both = h.holds 0 in absurd cc

-- the example with the exit of a process without a program, in place of the other's, is not a report
pub of_another : IsReportOf programs (report_with (opened ∷ copied ∷ another_exited ∷ []) two) → ⊥
of_another h = let e : CloseAll ∷ [] ≡ [] = h.holds 7 in absurd cc

-- the example with another reply to the dup is not a report
pub another_reply : IsReportOf programs (report_with (opened ∷ too_early ∷ exited ∷ []) two) → ⊥
another_reply h = let e : Fd 1 0 ≡ Fault BadDescriptor = h.legal.1.0 in absurd cc

-- the example with a view of one descriptor, where there are two, is not a report
pub another_view : IsReportOf programs (report_with (opened ∷ copied ∷ exited ∷ []) one) → ⊥
another_view h = let e : 1 ≡ 2 = ap (λ (v : ConfigView). length v.fds) h.shown in absurd (omega (arith, e))
