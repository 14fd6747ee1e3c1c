-- A configuration in the language of Graphviz.
use Rattle.std.specs.Prelude.{ℕ, List, [], ◌++◌, codes}
use Rattle.std.specs.List.{flat_map}
use Rattle.smx_types.specs.declared.driver.DriverSpec.{DriverSpec}
use Rattle.smx_types.specs.declared.view.ConfigView.{ConfigView}
use Rattle.smx_draw.specs.Parts.{part_text, parts}
use Rattle.smx_draw.specs.Pieces.{filled}
use Rattle.smx_draw.specs.Queues.{queue_rows}
use Rattle.smx_draw.specs.declared.parts.Look.TheVariants.{Line}

-- the start of the graph, which merges edges that are drawn twice. A node without a label of its own is a stream.
abbrev pub dot_head : List ℕ
dot_head =
    codes "strict digraph muxsim {\n" ++ codes "  graph [rankdir=TB nodesep=0.2 fontname=\"sans-serif\"];\n"
    ++ codes "  node [shape=record fontname=\"sans-serif\" fontsize=10 label=\"{\\N|{<write>write|<read>read}}\"];\n"
    ++ codes "  edge [dir=none color=gray fontname=\"sans-serif\" fontsize=10];\n"

-- the text: a line for each part, that is, for each driver, each line of the view, and each row of its queues
abbrev pub dot_text : List DriverSpec → ConfigView → List ℕ
dot_text drivers v =
    filled dot_head [] ++ (flat_map (part_text Line) (parts drivers v (queue_rows drivers v.msgs))
    ++ filled (codes "}\n") [])
