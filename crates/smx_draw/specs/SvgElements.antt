-- The SVG element of each part of a picture, at some place.
use Rattle.std.specs.Prelude.{ℕ, ◌-◌, Bool, true, false, List, [], ◌∷◌, ◌++◌, codes}
use Rattle.std.specs.Fmt.{decimal}
use Rattle.smx_types.specs.declared.driver.DriverSpec.{DriverSpec}
use Rattle.smx_types.specs.declared.view.LinkLine.{LinkLine}
use Rattle.smx_draw.specs.Parts.{part_text}
use Rattle.smx_draw.specs.Pieces.{driver_word, filled, link_word}
use Rattle.smx_draw.specs.declared.parts.Look.TheVariants.{Class, Label}
use Rattle.smx_draw.specs.declared.parts.Part.{Part}
use Rattle.smx_draw.specs.declared.queues.QueueItem.{QueueItem}
use Rattle.smx_draw.specs.declared.queues.QueueItem.TheVariants.{Bytes, Message, More}
use Rattle.smx_draw.specs.declared.queues.QueueRow.{QueueRow}
use Rattle.smx_draw.specs.declared.svg.block.Area.{Area}
use Rattle.smx_draw.specs.declared.svg.under.Stream.{Stream}

-- the corners of a place
abbrev pub corners : Area → List (List ℕ)
corners at = decimal at.left ∷ decimal at.top ∷ decimal at.right ∷ decimal at.bottom ∷ []

-- the row of a part: a rectangle with its label
abbrev pub row : Part → Area → List ℕ
row p at =
    codes "<g class=\"" ++ (part_text Class p ++ (
    filled (codes "\"><path d=\"M@0 @1H@2V@3H@0Z\"/><text x=\"@0\" y=\"@1\" dx=\"6\" dy=\"11\">") (corners at)
    ++ (part_text Label p ++ codes "</text></g>\n")))

-- the frame of a driver
abbrev pub frame_element : DriverSpec → Area → List ℕ
frame_element d at =
    filled (codes "<path class=\"frame @4\" d=\"M@0 @1H@2V@3H@0Z\"/>\n") (corners at ++ driver_word d.kind ∷ [])

-- a link: its way from its controlling stream to its lower stream, twice, since the first is its halo
abbrev pub way_element : LinkLine → Area → List ℕ
way_element l at =
    filled (
    codes "<g class=\"way @1 link-@0\"><title>link @0 @1 by @2 @3</title>"
    ++ codes "<path class=\"halo\" d=\"M@4 @5V@6H@7V@8H@9\"/><path d=\"M@4 @5V@6H@7V@8H@9\"/></g>\n"
    ) (
    decimal l.id ∷ link_word l.kind ∷ l.ctl_driver ∷ decimal l.ctl_minor ∷ decimal at.left ∷ decimal at.top ∷
    decimal at.bend ∷ decimal at.lane ∷ decimal at.bottom ∷ decimal at.right ∷ []
    )

-- the column of a stream, with its driver and its minor
abbrev pub stream_template : Bool → List ℕ
stream_template true =
    codes "<g class=\"closed\"><path d=\"M@0 @1H@2V@3H@0Z\"/>"
    ++ codes "<text x=\"@0\" y=\"@1\" dx=\"6\" dy=\"11\">@4 @5 closed</text></g>\n"
stream_template false =
    codes "<g class=\"stream stream-@4-@5\"><path d=\"M@0 @1H@2V@3H@0Z\"/>"
    ++ codes "<text x=\"@0\" y=\"@1\" dx=\"6\" dy=\"11\">@4 @5</text></g>\n"

abbrev pub stream_element : Stream → Area → List ℕ
stream_element s at = filled (stream_template s.is_closed) (corners at ++ s.driver ∷ decimal s.minor ∷ [])

-- the gauge of a queue, of this width, which is its high water mark: its bytes, and below them its low water mark
abbrev pub sized_gauge : ℕ → ℕ → ℕ → ℕ → Area → List ℕ
sized_gauge width bytes high low at =
    filled (
    codes "<svg class=\"gauge\" x=\"@0\" y=\"@1\" width=\"@2\" height=\"14\" viewBox=\"0 0 @4 14\""
    ++ codes " preserveAspectRatio=\"none\"><path class=\"bytes\" d=\"M0 0H@3V14H0Z\"/>"
    ++ codes "<path class=\"low\" d=\"M0 12H@5V14H0Z\"/></svg>\n"
    ) (
    decimal at.left ∷ decimal at.top ∷ decimal width ∷ decimal bytes ∷ decimal high ∷ decimal low ∷ []
    )

-- the gauge of a row of a queue, as wide as the row: only the row of its bytes has one
abbrev pub gauge : QueueItem → Area → List ℕ
gauge (Message serial addr length) at = []
gauge (More count) at = []
gauge (Bytes bytes high low) at = sized_gauge (at.right - at.left) bytes high low at

abbrev pub gauge_element : QueueRow → Area → List ℕ
gauge_element q at = gauge q.item at
