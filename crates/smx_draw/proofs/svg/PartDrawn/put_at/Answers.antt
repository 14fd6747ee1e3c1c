use Rattle.smx_draw.proofs.DrawingLemmas.{put_five}
use Rattle.smx_draw.proofs.svg.PartDrawn.put_at.Goals as goal

pub returns : goal.returns
returns c = put_five c.args.out.now.items _ _ _ _ _ c.put.new.out.items c.put-2.new.out.items c.put-3.new.out.items
    c.put-4.new.out.items c.put-5.new.out.items c.in_ok-put.ensures c.in_ok-put-2.ensures c.in_ok-put-3.ensures
    c.in_ok-put-4.ensures c.in_ok-put-5.ensures
