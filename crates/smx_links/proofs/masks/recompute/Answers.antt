use Rattle.smx_model.proofs.Common.{take, take_more, arith}
use Rattle.smx_links.proofs.masks.recompute.Goals as goal

pub loop-link-preserved : goal.loop-link-preserved
loop-link-preserved c =
    grind (
      arith,
      take_more c.args.links.now c.loop-link.link-index,
      c.join_link.ensures.masks (take c.loop-link.link-index c.args.links.now) c.loop-link.invariant.masks,
    )
