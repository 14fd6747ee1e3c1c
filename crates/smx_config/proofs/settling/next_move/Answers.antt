use Rattle.smx_config.proofs.Common.{subst, arith, sym, none_is_least, BitTable, AreMarks, IsNextOf}
use Rattle.smx_config.proofs.NextMoveLemmas.{least_is, movable_to, moves_to, none_marked, with_run}
use Rattle.smx_config.proofs.PlaceNumberLemmas.{place_of_number}
use Rattle.smx_config.proofs.settling.next_move.Goals as goal

pub returns-in-Some-if_open-clause-least : goal.returns-in-Some-if_open-clause-least
returns-in-Some-if_open-clause-least c =
    let drivers = c.args.tables.now.drivers in
    let now = c.args.tables.now.configuration in
    let here = place_of_number drivers c.in-Some.from
    (omega (arith, c.in-Some.ensures.below, c.loop-from.invariant.marks.over.run)) in
    let goes = subst (IsNextOf drivers now here.0) c.in-Some-if_open.ensures.same
    (c.next_of_first-next.ensures.value here.0 here.1) in
    let moves = moves_to drivers now here.0 goes.place goes.next
    (c.in-Some-if_open.ensures.open goes.place goes.there) in
    record {
      moves = record { from = here.0; to = goes.place; from_at = here.1; to_at = goes.there; goes = moves };
      least = least_is drivers now c.loop-from.marks c.in-Some.from here.0 c.requires.sound c.loop-from.invariant.marks
          here.1 c.in-Some.ensures.least (movable_to drivers now here.0 goes.place moves);
    }

pub returns-clause-least : goal.returns-clause-least
returns-clause-least c = grind (arith, none_is_least c.args.tables.now.drivers, none_marked c.args.tables.now.drivers)

pub returns-in-Some-if_open-clause-marks : goal.returns-in-Some-if_open-clause-marks
returns-in-Some-if_open-clause-marks c = subst
    (λ (b : BitTable). AreMarks c.args.tables.now.drivers c.args.tables.now.configuration
    (with_run c.loop-from.marks b))
    (sym c.first.ensures.same) c.loop-from.invariant.marks

pub clear_mark-requires-clause-marks : goal.clear_mark-requires-clause-marks
clear_mark-requires-clause-marks c = subst
    (λ (b : BitTable). AreMarks c.args.tables.now.drivers c.args.tables.now.configuration
    (with_run c.loop-from.marks b))
    (sym c.first.ensures.same) c.loop-from.invariant.marks
