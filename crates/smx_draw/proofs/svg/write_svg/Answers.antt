use Rattle.std.proofs.Common.{◌≡◌, ℕ, List, ◌++◌, ap, subst, ◌∙◌}
use Rattle.smx_types.specs.declared.view.LinkLine.{LinkLine}
use Rattle.smx_draw.specs.Drawing.{Draws}
use Rattle.smx_draw.specs.Parts.{parts}
use Rattle.smx_draw.specs.Queues.{queue_rows}
use Rattle.smx_draw.specs.SvgElements.{frame_element, gauge_element, row, way_element}
use Rattle.smx_draw.specs.SvgFrame.{svg_head}
use Rattle.smx_draw.specs.declared.parts.Part.{Part}
use Rattle.smx_draw.specs.declared.queues.QueueRow.{QueueRow}
use Rattle.smx_draw.proofs.svg.write_svg.Goals as goal

pub returns : goal.returns
returns c =
    let plan = c.in_ok-plan.plan in
    let drivers = c.args.drivers.now in
    let view = c.args.view.now in
    let queues : c.in_ok-queues.queues.items ≡ queue_rows drivers view.msgs =
    c.in_ok-queues.ensures ∙ ap (queue_rows drivers) c.as_slice.ensures in
    let all : c.in_ok-parts.parts.items ≡ parts drivers view (queue_rows drivers view.msgs) =
    c.in_ok-parts.ensures ∙ ap (λ (qs : List QueueRow). parts drivers view qs) (c.as_slice-2.ensures.value ∙ queues) in
    let head : c.put.new.out.items ≡ svg_head plan.width.0 plan.height.0 = c.in_ok-put.ensures
    ∙ ap (λ (t : List ℕ). t ++ svg_head plan.width.0 plan.height.0) c.new-out.ensures.items in
    record {
      width = plan.width.0;
      height = plan.height.0;
      streams = c.as_slice-6.result.now;
      behind_frames = c.draw_all.new.out.items;
      behind_ways = c.draw_all-2.new.out.items;
      behind_streams = c.draw_all-3.new.out.items;
      behind_gauges = c.draw_all-4.new.out.items;
      behind_rows = c.draw_all-5.new.out.items;
      frames =
          subst (λ (t : List ℕ). Draws frame_element drivers t c.draw_all.new.out.items) head c.in_ok-draw_all.ensures;
      ways =
          subst (λ (ls : List LinkLine). Draws way_element ls c.draw_all.new.out.items c.draw_all-2.new.out.items)
          c.as_slice-5.ensures c.in_ok-draw_all-2.ensures;
      columns = c.in_ok-draw_all-3.ensures;
      gauges =
          subst (λ (qs : List QueueRow). Draws gauge_element qs c.draw_all-3.new.out.items c.draw_all-4.new.out.items)
          (c.as_slice-7.ensures.value ∙ queues) c.in_ok-draw_all-4.ensures;
      rows =
          subst (λ (ps : List Part). Draws row ps c.draw_all-4.new.out.items c.draw_all-5.new.out.items)
          (c.as_slice-8.ensures.value ∙ all) c.in_ok-draw_all-5.ensures;
      ends = c.in_ok-put-2.ensures;
    }
