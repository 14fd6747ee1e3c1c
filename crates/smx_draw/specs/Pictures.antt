-- A picture of the configuration that a transcript shows, and what it contains.
use Rattle.std.specs.Prelude.{◌≡◌, ℕ, List}
use Rattle.std.specs.List.{AllByRecursion}
use Rattle.smx_types.specs.declared.driver.DriverSpec.{DriverSpec}
use Rattle.smx_types.specs.declared.transcript.Transcript.{Transcript}
use Rattle.smx_types.specs.declared.view.ConfigView.{ConfigView}
use Rattle.smx_draw.specs.DotText.{dot_text}
use Rattle.smx_draw.specs.Drawing.{HasPart}
use Rattle.smx_draw.specs.Parts.{part_text, parts}
use Rattle.smx_draw.specs.Queues.{queue_rows}
use Rattle.smx_draw.specs.SvgElements.{frame_element, gauge_element, row, way_element}
use Rattle.smx_draw.specs.SvgText.{IsSvgOf}
use Rattle.smx_draw.specs.declared.form.Form.{Form}
use Rattle.smx_draw.specs.declared.form.Form.TheVariants.{Svg, Dot}
use Rattle.smx_draw.specs.declared.parts.Look.TheVariants.{Line}
use Rattle.smx_draw.specs.declared.svg.block.Area.{Area}

-- a picture of the configuration that a transcript shows, in this form
abbrev pub IsPictureOf : Form → Transcript → List ℕ → Type 0
IsPictureOf Svg t output = IsSvgOf t.drivers t.view output
IsPictureOf Dot t output = output ≡ dot_text t.drivers t.view

-- the text contains the element of each of these, at some place
abbrev pub EachIsDrawn : {X : Type 0} → (X → Area → List ℕ) → List X → List ℕ → Type 0
EachIsDrawn element xs output = AllByRecursion (λ x. (at : Area) × HasPart output (element x at)) xs

-- The text contains the frame of each driver, the way of each link, the gauge of each queue with messages, and the row of
-- each part: of each driver and each line of the view; of the messages of a queue, those up to the eighth and the number
-- of the others.
pub record HasEachInSvg (table : List DriverSpec) (v : ConfigView) (output : List ℕ) : Type 0 where
  pub frames : EachIsDrawn frame_element table output
  pub ways : EachIsDrawn way_element v.links output
  pub gauges : EachIsDrawn gauge_element (queue_rows table v.msgs) output
  pub rows : EachIsDrawn row (parts table v (queue_rows table v.msgs)) output

-- the text contains the line of each part
abbrev pub HasEachInDot : List DriverSpec → ConfigView → List ℕ → Type 0
HasEachInDot table v output =
    AllByRecursion (λ p. HasPart output (part_text Line p)) (parts table v (queue_rows table v.msgs))
