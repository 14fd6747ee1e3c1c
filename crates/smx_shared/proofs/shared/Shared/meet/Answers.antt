use Rattle.std.proofs.Common.{rules, ap, ◌∙◌}
use Rattle.smx_shared.proofs.SeatStepLemmas.{meets}
use Rattle.smx_shared.proofs.StepLemmas.{looks}
use Rattle.smx_shared.proofs.shared.Shared.meet.Goals as goal

pub join_seat-requires : goal.join_seat-requires
join_seat-requires g c =
    let other = c.other.invariant in
    (search rules, search rules, other.0.0, search rules, meets _ _ _ _ _ _ _ _ other.0.1 (other.0.2, other.1))

pub load-requires : goal.load-requires
load-requires g c =
    let rest = c.seat.invariant.0 in
    let joined = c.join_seat.ensures.2 in (
      search rules,
      search rules,
      looks _ _ _ _ _ _ _ (ap (λ m. m.0.spent) joined ∙ rest.2)
          (ap (λ m. m.0.turn) joined ∙ rest.1),
    )
