use Rattle.std.proofs.Common.{take}
use Rattle.smx_draw.specs.Drawing.{Draws}
use Rattle.smx_draw.proofs.svg.draw_all.Given as goal

abbrev pub invariant-loop-item : goal.invariant-loop-item
invariant-loop-item g l = Draws g.T.Drawn.element (take l.item-index l.items) l.initial.out.items l.out.items
