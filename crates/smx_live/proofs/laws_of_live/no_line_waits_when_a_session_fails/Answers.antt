use Rattle.smx_live.proofs.Common.{◌++◌, inl, inr, arith, length-append, worked_table}
use Rattle.smx_live.specs.WorkedLives.{worked_line}
use Rattle.smx_live.proofs.FailedLiveLemmas.{endless_is_long, not_one_line, not_too_long}
use Rattle.smx_live.proofs.laws_of_live.no_line_waits_when_a_session_fails.Goals as goal

pub returns-clause-done : goal.returns-clause-done
returns-clause-done c = λ read ended o.
    let ((no_read, no_write), out, over) = o.outcome in (no_read, no_write, out, over)

pub returns-clause-unread : goal.returns-clause-unread
returns-clause-unread c = λ read ended o.
    let (one, none, answered) = o.outcome in (
      one,
      none,
      λ some. elim answered [
        | inl (nothing, unfinished) ↦ absurd (some nothing)
        | inr (out, s, far, held, l, is) ↦ out
      ],
    )

pub returns-clause-unwritten : goal.returns-clause-unwritten
returns-clause-unwritten c = λ read ended o. (o.outcome.0, o.outcome.1)

pub returns-clause-long : goal.returns-clause-long
returns-clause-long c = λ read ended o.
    let ((no_read, no_write), endless) = o.outcome in
    (no_read, no_write, endless_is_long o.explain read ended o.output endless)

pub returns-clause-none_unread : goal.returns-clause-none_unread
returns-clause-none_unread c = λ more o opening. elim o.outcome.2 [
  | inl (nothing, unfinished) ↦ absurd (cc (opening, nothing))
  | inr (out, s, far, held, l, is) ↦ not_one_line c.one_text_has_one_reading.ensures
      c.a_worked_session.ensures.starts o.explain more held s far (rw opening at l) is
]

pub returns-clause-none_too_long : goal.returns-clause-none_too_long
returns-clause-none_too_long c = λ more o opening few. elim o.outcome.1 [
  | inl (nothing, long) ↦ absurd (cc (opening, nothing))
  | inr (s, far, held, l, inl long) ↦ not_too_long c.one_text_has_one_reading.ensures c.a_worked_session.ensures.starts
      o.explain more held s far (rw opening at l) long
  | inr (s, far, held, l, inr many) ↦ omega (
    arith,
    few,
    many,
    length-append worked_table (worked_line ++ more),
    length-append worked_line more,
  )
]
