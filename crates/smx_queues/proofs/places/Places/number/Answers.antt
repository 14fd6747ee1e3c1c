use Rattle.std.proofs.Common.{ap, arith, length}
use Rattle.std.proofs.lemmas.Option.{same_Some}
use Rattle.smx_queues.proofs.PlacesOfLemmas.{number_is, number_within, row_unknown, unknown_absent}
use Rattle.smx_queues.proofs.places.Places.number.Goals as goal

pub overflow_add-result : goal.overflow_add-result
overflow_add-result c =
    let at = rw (c.deref.ensures.value, c.self.invariant.rows_are) at c.in_ok-row.ensures in
    let within = number_within _ c.args.place _ at (omega (arith, c.if-minor-row.false)) in
    omega (arith, within, ap length c.self.invariant.places_are, c.self.inside.places.ok.0, c.self.inside.places.small)

pub overflow_add-result-2 : goal.overflow_add-result-2
overflow_add-result-2 c =
    let at = rw (c.deref.ensures.value, c.self.invariant.rows_are) at c.in_ok-row.ensures in
    let within = number_within _ c.args.place _ at (omega (arith, c.if-minor-row.false)) in
    omega (
      arith,
      within,
      ap length c.self.invariant.places_are,
      c.self.inside.places.ok.0,
      c.self.inside.places.small,
      c.side_number.ensures,
    )

pub returns-in_err-row-clause-none : goal.returns-in_err-row-clause-none
returns-in_err-row-clause-none c =
    let at = rw (c.deref.ensures.value, c.self.invariant.rows_are) at c.in_err-row.ensures in
    rw (c.from_residual.ensures, ← c.self.view_is)
    (unknown_absent _ c.args.place (row_unknown _ c.args.place _ at (λ row e. absurd (cc))))

pub returns-in_err-row-clause-known : goal.returns-in_err-row-clause-known
returns-in_err-row-clause-known c =
    let at = rw (c.deref.ensures.value, c.self.invariant.rows_are) at c.in_err-row.ensures in
    rw (← c.self.view_is) (λ known. absurd (row_unknown _ c.args.place _ at (λ row e. absurd (cc)) known))

pub returns-then-minor-row-clause-none : goal.returns-then-minor-row-clause-none
returns-then-minor-row-clause-none c =
    let at = rw (c.deref.ensures.value, c.self.invariant.rows_are) at c.in_ok-row.ensures in
    rw (← c.self.view_is) (unknown_absent _ c.args.place (row_unknown _ c.args.place _ at
    (λ row e. rw (← same_Some _ row e) (omega (arith, c.if-minor-row.true)))))

pub returns-then-minor-row-clause-known : goal.returns-then-minor-row-clause-known
returns-then-minor-row-clause-known c =
    let at = rw (c.deref.ensures.value, c.self.invariant.rows_are) at c.in_ok-row.ensures in
    rw (← c.self.view_is) (λ known. absurd (row_unknown _ c.args.place _ at
    (λ row e. rw (← same_Some _ row e) (omega (arith, c.if-minor-row.true))) known))

pub returns-clause-found : goal.returns-clause-found
returns-clause-found c =
    let at = rw (c.deref.ensures.value, c.self.invariant.rows_are) at c.in_ok-row.ensures in
    rw (c.side_number.ensures, ← c.self.view_is)
    (number_is _ c.args.place c.in_ok-row.row at (omega (arith, c.if-minor-row.false)))
