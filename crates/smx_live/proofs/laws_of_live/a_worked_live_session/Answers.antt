use Rattle.smx_live.proofs.Common.{[], ◌+◌, arith, drop, false, inl, inr, refl, rules, subst, take, true, codes}
use Rattle.smx_live.proofs.Common.{call_of, not_one, IsOneLine, V2, worked_table}
use Rattle.smx_live.proofs.AskedLineLemmas.{no_call_line}
use Rattle.smx_live.proofs.OverTableLemmas.{table_once}
use Rattle.smx_live.proofs.TableLemmas.{over_at_the_end, over_within}
use Rattle.smx_live.proofs.WorkedLiveLemmas as worked
use Rattle.smx_live.proofs.laws_of_live.a_worked_live_session.Goals as goal

pub returns-clause-over : goal.returns-clause-over
returns-clause-over c = worked.over c.a_worked_session.ensures.starts c.worked_explanations.ensures.no_request

pub returns-clause-table : goal.returns-clause-table
returns-clause-table c = worked.worked_over []

pub returns-clause-not_too_early : goal.returns-clause-not_too_early
returns-clause-not_too_early c = λ t.
    let same = table_once false worked_table (codes "programs 2\n") _ _ (worked.worked_over []) t refl in
    absurd (cc same.0)

pub returns-clause-not_too_late : goal.returns-clause-not_too_late
returns-clause-not_too_late c = λ t.
    let same = table_once false (codes "programs 2\n") _ _ _ worked.header_alone t refl in absurd (cc same.0)

pub returns-clause-not_before_its_header : goal.returns-clause-not_before_its_header
returns-clause-not_before_its_header c = λ t.
    let same = table_once false (codes "programs 2\n") _ _ _ worked.header_alone t refl in absurd (cc same.0)

pub returns-clause-not_within_a_line : goal.returns-clause-not_within_a_line
returns-clause-not_within_a_line c = λ t.
    let one : IsOneLine (codes "3 clone eth") = search (rules, arith) in
    elim t.over [
      | inl (n, none, has, small, some, other) ↦ not_one (take n (codes "3 clone eth"))
          (drop (n + 1) (codes "3 clone eth")) (subst IsOneLine has.parts one)
      | inr (end, behind) ↦ absurd (cc end)
    ]

pub returns-clause-over_within_a_driver : goal.returns-clause-over_within_a_driver
returns-clause-over_within_a_driver c =
    over_within (codes "programs 2\n") _ (codes "driver eth") refl worked.header_lines true refl
    (search (rules, arith), search arith) (λ none. absurd (cc none)) refl

pub returns-clause-not_before_a_cut_driver : goal.returns-clause-not_before_a_cut_driver
returns-clause-not_before_a_cut_driver c = λ t.
    let longer = over_within (codes "programs 2\n") _ (codes "driver eth") refl worked.header_lines true refl
    (search (rules, arith), search arith) (λ none. absurd (cc none)) refl in
    let same = table_once true (codes "programs 2\ndriver eth") _ _ _ longer t refl in absurd (cc same.0)

pub returns-clause-over_within_another : goal.returns-clause-over_within_another
returns-clause-over_within_another c =
    over_at_the_end (codes "programs 2\n") _ (codes "3 clone") refl worked.header_lines true refl
    (search (rules, arith), search arith) (inr refl)

pub returns-clause-not_performed : goal.returns-clause-not_performed
returns-clause-not_performed c = λ e is. no_call_line V2 (codes "x") refl (call_of e) is.in_version is.is_read
