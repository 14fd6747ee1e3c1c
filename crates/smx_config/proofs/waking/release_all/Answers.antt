use Rattle.smx_config.proofs.WakeLemmas.{all_released, kept_both}
use Rattle.smx_config.proofs.PlaceNumberLemmas.{place_of_number}
use Rattle.smx_config.proofs.waking.release_all.Goals as goal

pub loop-n-preserved : goal.loop-n-preserved
loop-n-preserved c =
    let there = place_of_number c.args.tables.now.drivers c.in-Some.n c.in-Some.ensures.number in
    kept_both _ _ _ c.loop-n.invariant
    (c.release.ensures.released c.args.tables.now.drivers c.args.tables.now.configuration there.0 there.1
    (c.in-Some.ensures.open there.0 there.1)).kept

pub returns : goal.returns
returns c = all_released c.args.tables.now.drivers c.args.tables.now.configuration _ _ c.loop-n.invariant
    c.in_default.ensures.none
