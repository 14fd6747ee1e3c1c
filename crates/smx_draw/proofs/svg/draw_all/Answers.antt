use Rattle.smx_draw.proofs.DrawingLemmas.{draws_next}
use Rattle.smx_draw.proofs.svg.draw_all.Goals as goal

pub loop-item-preserved : goal.loop-item-preserved
loop-item-preserved g c =
    draws_next g.T.Drawn.element c.args.items.now c.loop-item.item-index c.item-item.result c.unwrap_or_default-at.result
    c.args.out.now.items c.loop-item.out.items c.put_at.new.out.items c.loop-item-test.true c.item-item.is
    c.loop-item.invariant c.in_ok-put_at.ensures
