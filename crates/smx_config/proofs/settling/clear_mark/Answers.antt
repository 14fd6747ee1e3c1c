use Rattle.smx_config.proofs.Common.{subst, Option, ℕ, IsFullAt, IsNextOf}
use Rattle.std.specs.Prelude.{IfSome}
use Rattle.smx_config.proofs.NextMoveLemmas.{held_up, unmarked}
use Rattle.smx_config.proofs.PlaceNumberLemmas.{place_of_number}
use Rattle.smx_config.proofs.settling.clear_mark.Goals as goal

pub returns-in-Some-clause-marks : goal.returns-in-Some-clause-marks
returns-in-Some-clause-marks c =
    let drivers = c.args.tables.now.drivers in
    let now = c.args.tables.now.configuration in
    let here = place_of_number drivers c.args.from c.requires.number in
    let goes = subst (IsNextOf drivers now here.0) c.in-Some.is (c.requires.next here.0 here.1) in
    let full = subst (λ (o : Option ℕ). IfSome o (IsFullAt drivers now)) c.in-Some.is c.requires.stays in
    rw c.enter.ensures (held_up drivers now c.args.from c.in-Some.to here.0 goes.place c.args.marks.now
    c.clear.new.self c.set.new.self c.requires.marks here.1 goes.there c.requires.number goes.next
    (full goes.place goes.there)
    (record {
      gone = c.clear.ensures.gone;
      wants = c.set.ensures.here;
      kept = c.set.ensures.kept;
      run_over = c.clear.ensures.count;
      wanted_over = c.set.ensures.count;
    }))

pub returns-in_default-clause-marks : goal.returns-in_default-clause-marks
returns-in_default-clause-marks c =
    let drivers = c.args.tables.now.drivers in
    let now = c.args.tables.now.configuration in
    let here = place_of_number drivers c.args.from c.requires.number in
    unmarked drivers now c.args.from here.0 c.args.marks.now c.clear.new.self c.requires.marks here.1
    (subst (IsNextOf drivers now here.0) c.in_default.is (c.requires.next here.0 here.1))
    c.clear.ensures.gone c.clear.ensures.count
