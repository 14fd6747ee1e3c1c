-- A configuration as SVG.
use Rattle.std.specs.Prelude.{◌≡◌, ℕ, List, ◌++◌}
use Rattle.smx_types.specs.declared.driver.DriverSpec.{DriverSpec}
use Rattle.smx_types.specs.declared.view.ConfigView.{ConfigView}
use Rattle.smx_draw.specs.Drawing.{Draws}
use Rattle.smx_draw.specs.Parts.{parts}
use Rattle.smx_draw.specs.Queues.{queue_rows}
use Rattle.smx_draw.specs.SvgElements.{frame_element, gauge_element, row, stream_element, way_element}
use Rattle.smx_draw.specs.SvgFrame.{svg_foot, svg_head}
use Rattle.smx_draw.specs.declared.svg.under.Stream.{Stream}

-- the picture: a head, the frames of the drivers, the links, the columns of some streams, the gauges of queues, the row
-- of each part, and a foot
pub record IsSvgOf (drivers : List DriverSpec) (v : ConfigView) (output : List ℕ) : Type 0 where
  pub width : ℕ
  pub height : ℕ
  pub streams : List Stream
  pub behind_frames : List ℕ
  pub behind_ways : List ℕ
  pub behind_streams : List ℕ
  pub behind_gauges : List ℕ
  pub behind_rows : List ℕ
  pub frames : Draws frame_element drivers (svg_head width height) behind_frames
  pub ways : Draws way_element v.links behind_frames behind_ways
  pub columns : Draws stream_element streams behind_ways behind_streams
  pub gauges : Draws gauge_element (queue_rows drivers v.msgs) behind_streams behind_gauges
  pub rows : Draws row (parts drivers v (queue_rows drivers v.msgs)) behind_gauges behind_rows
  pub ends : output ≡ behind_rows ++ svg_foot v.next_id v.next_serial
