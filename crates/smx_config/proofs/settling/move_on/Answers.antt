use Rattle.smx_config.proofs.Common.{◌≡◌, ◌∙◌, true, sym, subst, inl, inr, ℕ, arith, false≢true, Place, same_place}
use Rattle.smx_config.proofs.Common.{after_move, turned_by_move, has_bit, Machine, Marks, AreMarks, IsAt}
use Rattle.smx_config.proofs.Common.{IsMarkedWhere}
use Rattle.smx_model.proofs.WaitingLemmas.{first_left}
use Rattle.smx_config.specs.Marking.{AreOver, IsNumber, IsReleased}
use Rattle.smx_queues.proofs.PlaceLemmas.{place_self}
use Rattle.smx_config.proofs.MoveLemmas.{moved_marks, moves_there}
use Rattle.smx_config.proofs.NextMoveLemmas.{movable_marked, movable_to}
use Rattle.smx_config.proofs.NextPlaceLemmas.{IsOpenNext, open_next}
use Rattle.smx_config.proofs.PlaceNumberLemmas.{at_number, one_number, one_place}
use Rattle.smx_config.proofs.WakeLemmas.{woken}
use Rattle.smx_config.proofs.WokenLemmas.{turned_ends}
use Rattle.smx_config.proofs.settling.move_on.Goals as goal
use Rattle.smx_config.proofs.settling.move_on.Goals.{After-carry}

-- the move is the model's
moved : (c : After-carry) → c.carry.new.self ≡ record c.args.tables.now {
  configuration = after_move c.args.tables.now.drivers c.args.tables.now.configuration c.requires.open.from;
}
moved c = moves_there c.args.tables.now c.carry.new.self c.requires.open.from c.requires.open.to c.requires.open.goes
    (c.carry.ensures c.requires.open.from c.requires.open.to c.requires.open.from_at c.requires.open.to_at)

pub clear_if_empty-requires-clause-marks : goal.clear_if_empty-requires-clause-marks
clear_if_empty-requires-clause-marks c =
    let drivers = c.args.tables.now.drivers in
    let before = c.args.tables.now.configuration in
    let from = c.requires.open.from in
    let to = c.requires.open.to in
    let from_at = c.requires.open.from_at in
    let value = moved (goal.at.clear_if_empty-requires-clause-marks c).After-carry in
    let mid = c.release_if_open.new.marks in
    let run = c.mark_unless.new.run in
    let last : Marks = record { run = run; wanted = mid.wanted; waits = mid.waits } in
    let next : IsOpenNext drivers before from to = open_next drivers before from to c.requires.sound
    c.requires.open.goes in
    let arrived = c.mark_unless.ensures in
    let released : IsReleased drivers (after_move drivers before from) (same_place from) c.args.marks.now mid =
    subst (λ (m : Machine). IsReleased m.drivers m.configuration (same_place from) c.args.marks.now mid) value
    (c.release_if_open.ensures from
    (subst (λ (m : Machine). IsAt m.drivers c.args.next.from from) (sym value) from_at)) in
    -- the place that it takes from has had a mark all along
    let left : has_bit run c.args.next.from ≡ true = arrived.kept c.args.next.from (released.kept.kept c.args.next.from
    (movable_marked drivers before c.args.marks.now c.args.next.from from c.requires.marks from_at
    (movable_to drivers before from to c.requires.open.goes))) in
    let marked : IsMarkedWhere drivers (after_move drivers before from).flow (turned_by_move drivers before from)
    mid.run run = record {
      kept = arrived.kept;
      marked = λ i p there some t. elim (turned_ends drivers before from to p c.requires.open.goes
          (first_left before.flow from to next.differ) t) [
            | inl f ↦ subst (λ (x : ℕ). has_bit run x ≡ true)
                (one_number drivers c.args.next.from i from p from_at there f) left
            | inr h ↦ subst (λ (x : ℕ). has_bit run x ≡ true)
                (one_number drivers c.args.next.to i to p c.requires.open.to_at there h.0)
                (arrived.here ((rw (c.queues.ensures.drivers, c.queues.ensures.flow)
                at c.has_messages_at-filled.ensures) to c.requires.open.to_at ∙ h.1))
          ];
      count = arrived.count;
    } in
    subst (λ (m : Machine). AreMarks m.drivers m.configuration last) (sym value)
    (moved_marks drivers before from to c.args.marks.now last c.requires.sound c.requires.marks c.requires.open.goes
    (woken drivers (after_move drivers before from) (turned_by_move drivers before from) (same_place from)
    c.args.marks.now mid run released marked))

pub carry-requires-clause-differ : goal.carry-requires-clause-differ
carry-requires-clause-differ c = λ same.
    let drivers = c.args.tables.now.drivers in
    let from = c.requires.open.from in
    let to = c.requires.open.to in
    let next = open_next drivers c.args.tables.now.configuration from to c.requires.sound c.requires.open.goes in
    false≢true (sym next.differ ∙ subst (λ (x : Place). same_place from x ≡ true)
    (one_place drivers c.args.next.from c.args.next.to from to c.requires.open.from_at c.requires.open.to_at same)
    (place_self from))

pub release_if_open-requires-clause-over : goal.release_if_open-requires-clause-over
release_if_open-requires-clause-over c =
    let value = moved (goal.at.release_if_open-requires-clause-over c).After-carry in
    subst (λ (m : Machine). AreOver m.drivers c.args.marks.now) (sym value) c.requires.marks.over

pub release_if_open-requires-clause-number : goal.release_if_open-requires-clause-number
release_if_open-requires-clause-number c =
    let drivers = c.args.tables.now.drivers in
    let from = c.requires.open.from in
    let from_at = c.requires.open.from_at in
    let value = moved (goal.at.release_if_open-requires-clause-number c).After-carry in
    subst (λ (m : Machine). IsNumber m.drivers c.args.next.from) (sym value)
    (at_number drivers c.args.next.from from from_at)

pub clear_if_empty-requires-clause-number : goal.clear_if_empty-requires-clause-number
clear_if_empty-requires-clause-number c =
    let drivers = c.args.tables.now.drivers in
    let from = c.requires.open.from in
    let from_at = c.requires.open.from_at in
    let value = moved (goal.at.clear_if_empty-requires-clause-number c).After-carry in
    subst (λ (m : Machine). IsNumber m.drivers c.args.next.from) (sym value)
    (at_number drivers c.args.next.from from from_at)

pub mark_unless-requires : goal.mark_unless-requires
mark_unless-requires c =
    let drivers = c.args.tables.now.drivers in
    let from = c.requires.open.from in
    let from_at = c.requires.open.from_at in
    let value = moved (goal.at.mark_unless-requires c).After-carry in
    let over = (c.release_if_open.ensures from
    (subst (λ (m : Machine). IsAt m.drivers c.args.next.from from) (sym value) from_at)).kept.over _
    c.requires.marks.over in
    omega (arith, over.run, at_number drivers c.args.next.to c.requires.open.to c.requires.open.to_at)
