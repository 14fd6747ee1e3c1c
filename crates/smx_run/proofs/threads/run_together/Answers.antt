use Rattle.smx_run.proofs.Common.{rules, ◌≡◌, ℕ, List, [], All, length, map, ap, sym, subst, ◌∙◌, range_with_len}
use Rattle.smx_run.proofs.Common.{Entry, Recorded, Seated, Front, AreFrontsFrom, IsFresh}
use Rattle.std.proofs.Common.{true≢false}
use Rattle.smx_shared.specs.Seats.{GoesOnNamed}
use Rattle.smx_run.proofs.RunLemmas.{first_processes, first_fresh, some_ended, holds_all, fronts_all}
use Rattle.smx_run.proofs.MeetingLemmas.{all_known}
use Rattle.smx_run.proofs.threads.run_together.Goals as goal

pub run_seats-requires-clause-seats : goal.run_seats-requires-clause-seats
run_seats-requires-clause-seats g c κs within =
    let many : length c.as_slice.result.now ≡ length c.args.programs = search rules in
    ap (map (λ (s : Seated). s.known.process)) c.in_ok-shared.ensures.seats ∙ first_processes _ _ _
    ∙ ap (λ (n : ℕ). range_with_len 0 n) many

pub run_seats-requires-clause-fresh : goal.run_seats-requires-clause-fresh
run_seats-requires-clause-fresh g c κs within =
    subst (All (IsFresh c.in_ok-shared.shared.name)) (sym c.in_ok-shared.ensures.seats)
    (first_fresh _ _ _ c.requires.system.0)

pub meet_all-requires-clause-some : goal.meet_all-requires-clause-some
meet_all-requires-clause-some g c = some_ended _ _ c.in_ok-ended.ensures.called c.requires.processes.0

pub returns-in-Ok-clause-holds : goal.returns-in-Ok-clause-holds
returns-in-Ok-clause-holds g c =
    let s = c.in-Ok.system in
    let end = c.in-Ok.ensures in
    let many : c.in_ok-shared.shared.processes ≡ length c.args.programs = search rules in
    let none : c.in_ok-shared.shared.start.history
    ≡ [] = ap (λ (s : Recorded). s.history) c.in_ok-shared.ensures.shared.0 ∙ c.requires.system.0 in
    let named : GoesOnNamed (length c.args.programs) [] s.history = subst
    (λ (x : ℕ × List Entry). GoesOnNamed x.0 x.1 s.history) (λ i. (many i, none i)) end.begun.history in
    holds_all s _ _ c.in_ok-ended.ensures.called (c.in_ok-seat.ensures.met s end.ends) named

pub returns-in-Ok-clause-fronts : goal.returns-in-Ok-clause-fronts
returns-in-Ok-clause-fronts g c =
    let s = c.in-Ok.system in
    let met = c.in_ok-seat.ensures in
    subst (λ (fronts : List Front). AreFrontsFrom s.drivers s.history 0 c.args.programs fronts) (sym met.fronts)
    (fronts_all c.in_ok-shared.shared.name s 0 _ _ c.in_ok-ended.ensures.called c.in_ok-ended.ensures.ended
    (met.met s c.in-Ok.ensures.ends))

-- the seat has met all others, so the system comes back
pub returns-in-Err-Held-clause-refused : goal.returns-in-Err-Held-clause-refused
returns-in-Err-Held-clause-refused g c =
    let many : c.in_ok-shared.shared.processes ≡ length c.args.programs = search rules in
    let all = all_known c.in_ok-shared.shared.processes c.in_ok-seat.seat c.in_ok-ended.ended.items c.args.programs many
    c.in_ok-ended.ensures.called c.in_ok-seat.ensures.known in
    absurd (true≢false (sym (c.in-Err-Held.ensures.alone all)))
