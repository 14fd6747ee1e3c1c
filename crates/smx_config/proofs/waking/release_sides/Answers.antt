use Rattle.smx_config.proofs.WakeLemmas.{released_both}
use Rattle.smx_config.proofs.waking.release_sides.Goals as goal

pub returns : goal.returns
returns c = released_both c.args.tables.now.drivers c.args.tables.now.configuration _ _ _ _ _ c.release_place.ensures
    c.release_place-2.ensures
