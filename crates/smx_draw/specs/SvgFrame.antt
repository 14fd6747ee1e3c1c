-- The head and the foot of a picture.
use Rattle.std.specs.Prelude.{ℕ, List, [], ◌∷◌, ◌++◌, codes}
use Rattle.std.specs.Fmt.{decimal}
use Rattle.smx_draw.specs.Pieces.{filled}

-- the start of the picture, the looks of its parts, and the legend
abbrev pub head_template : List ℕ
head_template =
    codes "<svg xmlns=\"http://www.w3.org/2000/svg\" class=\"muxsim\" width=\"@0\" height=\"@1\" viewBox=\"0 0 @0 @1\">\n"
    ++ codes "<style>\n"
    ++ codes ".muxsim text { font: 10px monospace; fill: #1f2328 }\n"
    ++ codes ".muxsim path { fill: none }\n"
    ++ codes ".muxsim .page { fill: #ffffff }\n"
    ++ codes ".muxsim .frame { stroke: #57606a }\n"
    ++ codes ".muxsim .frame.mux, .muxsim .route path { fill: #eef4fb }\n"
    ++ codes ".muxsim .route path { stroke: #57606a }\n"
    ++ codes ".muxsim .frame.leaf { fill: #eef7ee }\n"
    ++ codes ".muxsim .mux path { fill: #35638a }\n"
    ++ codes ".muxsim .leaf path { fill: #3c6e47 }\n"
    ++ codes ".muxsim .stream path, .muxsim .closed path { fill: #ffffff; stroke: #57606a }\n"
    ++ codes ".muxsim .closed path { stroke-dasharray: 3 3 }\n"
    ++ codes ".muxsim .stream text { font-weight: bold }\n"
    ++ codes ".muxsim .ordinary text { fill: #35638a }\n"
    ++ codes ".muxsim .persistent text { fill: #a04f00 }\n"
    ++ codes ".muxsim .way path { stroke: #4682b4; stroke-width: 1.5 }\n"
    ++ codes ".muxsim .way.persistent path { stroke: #d96b00; stroke-width: 3 }\n"
    ++ codes ".muxsim .way path.halo { stroke: #ffffff; stroke-width: 5 }\n"
    ++ codes ".muxsim .bytes { fill: #ffdf8a }\n"
    ++ codes ".muxsim .low { fill: #bf8700 }\n"
    ++ codes ".muxsim .queue path { stroke: #8c959f }\n"
    ++ codes ".muxsim .message path { fill: #fff8e1; stroke: #d9c27a }\n"
    ++ codes ".muxsim .full path { fill: #cf222e }\n"
    ++ codes ".muxsim .hung path { fill: #57606a }\n"
    ++ codes ".muxsim .mux text, .muxsim .leaf text, .muxsim .full text, .muxsim .hung text { fill: #ffffff; font-weight: bold }\n"
    ++ codes "</style>\n"
    ++ codes "<path class=\"page\" d=\"M0 0H@0V@1H0Z\"/>\n"
    ++ codes "<g class=\"way ordinary\"><path d=\"M24 20H64\"/><text x=\"70\" y=\"24\">ordinary link</text></g>\n"
    ++ codes "<g class=\"way persistent\"><path d=\"M164 20H204\"/><text x=\"210\" y=\"24\">persistent link</text></g>\n"
    ++ codes "<path class=\"bytes\" d=\"M320 13H371V27H320Z\"/><path class=\"low\" d=\"M320 25H345V27H320Z\"/>\n"
    ++ codes "<g class=\"queue\"><path d=\"M320 13H422V27H320Z\"/><text x=\"326\" y=\"24\">bytes, low mark</text></g>\n"
    ++ codes "<g class=\"full\"><path d=\"M442 13H514V27H442Z\"/><text x=\"448\" y=\"24\">full queue</text></g>\n"
    ++ codes "<g class=\"hung\"><path d=\"M534 13H630V27H534Z\"/><text x=\"540\" y=\"24\">stream hung up</text></g>\n"

-- its head, with its size in pixels
abbrev pub svg_head : ℕ → ℕ → List ℕ
svg_head width height = filled head_template (decimal width ∷ decimal height ∷ [])

-- its foot, with the id of the next link and the serial of the next message
abbrev pub svg_foot : ℕ → ℕ → List ℕ
svg_foot next_id next_serial =
    filled (codes "<text x=\"24\" y=\"44\">next link @0, next message @1</text>\n</svg>\n")
    (decimal next_id ∷ decimal next_serial ∷ [])
