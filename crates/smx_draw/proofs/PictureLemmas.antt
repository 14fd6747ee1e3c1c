-- The contents of a picture.
use Rattle.std.proofs.Common.{◌≡◌, ℕ, List, [], ◌++◌, codes, append-nil, append_assoc, sym, ap, ◌∙◌, subst}
use Rattle.std.specs.List.{AllByRecursion}
use Rattle.smx_types.specs.declared.driver.DriverSpec.{DriverSpec}
use Rattle.smx_types.specs.declared.view.ConfigView.{ConfigView}
use Rattle.smx_draw.specs.DotText.{dot_head, dot_text}
use Rattle.smx_draw.specs.Drawing.{Draws, HasPart}
use Rattle.smx_draw.specs.Parts.{part_text, parts}
use Rattle.smx_draw.specs.Pictures.{EachIsDrawn, HasEachInDot, HasEachInSvg}
use Rattle.smx_draw.specs.Pieces.{filled}
use Rattle.smx_draw.specs.Queues.{queue_rows}
use Rattle.smx_draw.specs.SvgFrame.{svg_foot}
use Rattle.smx_draw.specs.SvgText.{IsSvgOf}
use Rattle.smx_draw.specs.declared.parts.Look.TheVariants.{Line}
use Rattle.smx_draw.specs.declared.svg.block.Area.{Area}
use Rattle.smx_draw.proofs.DrawingLemmas.{draws_behind, draws_each, each_line, each_still_there}

-- the text begins with another one
abbrev GoesOn : List ℕ → List ℕ → Type 0
GoesOn output text = (more : List ℕ) × (output ≡ text ++ more)

module _ {X : Type 0} (element : X → Area → List ℕ) (xs : List X) (before after output : List ℕ)
    (draws : Draws element xs before after) (on : GoesOn output after) where
  -- a text that goes on after elements goes on after the text before them
  from_before : GoesOn output before
  from_before =
      let behind = draws_behind element xs before after draws in (
        behind.0 ++ on.0,
        on.1 ∙ (ap (λ (t : List ℕ). t ++ on.0) behind.1 ∙ append_assoc before behind.0 on.0),
      )

  -- it contains each of the elements
  each_drawn : EachIsDrawn element xs output
  each_drawn = subst (EachIsDrawn element xs) (sym on.1)
      (each_still_there element xs after on.0 (draws_each element xs before after draws))

-- each element is between the head and the foot
pub each_in_svg : (drivers : List DriverSpec) (v : ConfigView) (output : List ℕ) → IsSvgOf drivers v output
    → HasEachInSvg drivers v output
each_in_svg drivers v output h =
    let rows : GoesOn output h.behind_rows = (svg_foot v.next_id v.next_serial, h.ends) in
    let gauges = from_before _ _ _ _ _ h.rows rows in
    let columns = from_before _ _ _ _ _ h.gauges gauges in
    let ways = from_before _ _ _ _ _ h.columns columns in
    record {
      frames = each_drawn _ _ _ _ _ h.frames (from_before _ _ _ _ _ h.ways ways);
      ways = each_drawn _ _ _ _ _ h.ways ways;
      gauges = each_drawn _ _ _ _ _ h.gauges gauges;
      rows = each_drawn _ _ _ _ _ h.rows rows;
    }

-- the foot is at the end
pub foot_in_svg : (drivers : List DriverSpec) (v : ConfigView) (output : List ℕ) → IsSvgOf drivers v output
    → HasPart output (svg_foot v.next_id v.next_serial)
foot_in_svg drivers v output h =
    (h.behind_rows, [], h.ends ∙ sym (append-nil (h.behind_rows ++ svg_foot v.next_id v.next_serial)))

-- each line is between the beginning and the end
pub each_in_dot : (drivers : List DriverSpec) (v : ConfigView) (output : List ℕ) → output ≡ dot_text drivers v
    → HasEachInDot drivers v output
each_in_dot drivers v output is =
    let lines = parts drivers v (queue_rows drivers v.msgs) in
    subst (λ (t : List ℕ). AllByRecursion (λ p. HasPart t (part_text Line p)) lines) (sym is)
    (each_line (part_text Line) lines (filled dot_head []) (filled (codes "}\n") []))
