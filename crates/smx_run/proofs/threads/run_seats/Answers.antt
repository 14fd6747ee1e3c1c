use Rattle.smx_run.proofs.Common.{rules, ◌≡◌, vec_len, arith, ◌∙◌, length-map, made_calls}
use Rattle.smx_run.proofs.AssignmentLemmas.{assignment_count}
use Rattle.smx_run.proofs.threads.run_seats.Goals as goal

pub collect-requires-clause-assigned : goal.collect-requires-clause-assigned
collect-requires-clause-assigned g c =
    let assigned = c.in_ok-assignments-2.ensures.1.0 ∙ c.in_ok-assignments.ensures.assigned in
    let count : vec_len c.in_ok-assignments-2.assignments
    ≡ c.args.workers =
    omega (arith, assignment_count _ _ _ assigned, length-map c.in_ok-assignments-2.assignments.items made_calls) in
    rw (count, c.of-asked.ensures) assigned

pub scoped-requires : goal.scoped-requires
scoped-requires g c =
    let fresh = c.in_ok-assignments.ensures.fresh c.args.shared.now.name c.requires.fresh in
    search rules

pub returns-clause-ended : goal.returns-clause-ended
returns-clause-ended g c = c.in_ok-collect.ensures.ended c.args.shared.now.name c.in_ok-assignments-2.ensures.1.1.0
