use Rattle.smx_config.proofs.Common.{◌∙◌, arith, ap, refl, Machine}
use Rattle.smx_model.proofs.KeptLemmas.{moved_sound, settled_kept}
use Rattle.smx_config.proofs.SettleLemmas.{settled_one, settled_to, within_zero}
use Rattle.smx_config.proofs.NextMoveLemmas.{none_left}
use Rattle.smx_config.proofs.WayLemmas.{hops_kept, move_keeps}
use Rattle.smx_config.proofs.settling.settle_marked.Goals as goal

pub loop-left-preserved : goal.loop-left-preserved
loop-left-preserved c =
    let old = c.loop-left.tables in
    let least = c.in-Some.ensures.least in
    let value = c.move_on.ensures.value least.moves.from least.moves.from_at in
    record {
      drivers = ap (λ (m : Machine). m.drivers) value ∙ c.loop-left.invariant.drivers;
      comes_to = rw value (settled_one old.drivers c.loop-left.left old.configuration _
          least.moves.from (omega arith) least.least refl ∙ c.loop-left.invariant.comes_to);
      sound = rw value (moved_sound old.drivers old.configuration least.moves.from c.loop-left.invariant.sound);
      marks = c.move_on.ensures.marks;
      hops = rw value (hops_kept old.drivers old.configuration _ c.next_move.new.hops
          (move_keeps old.drivers old.configuration least.moves.from) c.next_move.ensures.hops);
    }

pub returns-clause-none : goal.returns-clause-none
returns-clause-none c = grind (arith, settled_to, within_zero, none_left, settled_kept)
