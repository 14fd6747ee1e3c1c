-- Worked rows of queues, and worked texts for Graphviz, typed in by hand.
use Rattle.std.specs.Prelude.{◌≡◌, ℕ, List, [], ◌∷◌, ◌++◌, map, codes, refl}
use Rattle.std.specs.Fmt.{digits}
use Rattle.smx_types.specs.declared.stream.Side.TheVariants.{Read, Write}
use Rattle.smx_types.specs.declared.view.MessageLine.{MessageLine}
use Rattle.smx_draw.specs.DotText.{dot_text}
use Rattle.smx_draw.specs.Parts.{queue_row_text}
use Rattle.smx_draw.specs.Pieces.{shown_number}
use Rattle.smx_draw.specs.Queues.{queue_rows}
use Rattle.smx_draw.specs.WorkedViews.{ip, message, nothing, shown, table}
use Rattle.smx_draw.specs.declared.parts.Look.TheVariants.{Class, Label}
use Rattle.smx_draw.specs.declared.queues.QueueItem.{QueueItem}
use Rattle.smx_draw.specs.declared.queues.QueueItem.TheVariants.{Bytes, Message, More}

-- a number above the largest of 32 bits is shown as that one
pub the_most_is_shown : map shown_number (4294967294 ∷ 4294967295 ∷ 4294967296 ∷ [])
    ≡ 4294967294 ∷ 4294967295 ∷ 4294967295 ∷ []
the_most_is_shown = refl

-- the contents of the rows of some queues
abbrev pub items : List MessageLine → List QueueItem
items ms = map (λ q. q.item) (queue_rows table ms)

-- three messages, the last of them in the same queue as the first
abbrev pub back_again : List MessageLine
back_again =
    message ip 1 Read 21 77 (1 ∷ []) ∷ message ip 1 Write 22 77 (1 ∷ 2 ∷ [])
    ∷ message ip 1 Read 23 77 (1 ∷ 2 ∷ 3 ∷ []) ∷ []

-- a queue that messages return to is started anew
pub a_queue_is_left : items back_again
    ≡ Message 21 77 1 ∷ Bytes 1 8 3 ∷ Message 22 77 2 ∷ Bytes 2 8 3 ∷ Message 23 77 3 ∷ Bytes 3 8 3 ∷ []
a_queue_is_left = refl

-- messages of one byte with these serials in one queue
abbrev pub queued : List ℕ → List MessageLine
queued serials = map (λ n. message ip 1 Write n 5 (0 ∷ [])) serials

-- eight messages are all shown
pub eight_are_shown : items (queued (1 ∷ 2 ∷ 3 ∷ 4 ∷ 5 ∷ 6 ∷ 7 ∷ 8 ∷ []))
    ≡ Message 1 5 1 ∷ Message 2 5 1 ∷ Message 3 5 1 ∷ Message 4 5 1 ∷ Message 5 5 1 ∷ Message 6 5 1
    ∷ Message 7 5 1 ∷ Message 8 5 1 ∷ Bytes 8 8 3 ∷ []
eight_are_shown = refl

-- of ten messages the last two are only counted
pub two_are_counted : items (queued (1 ∷ 2 ∷ 3 ∷ 4 ∷ 5 ∷ 6 ∷ 7 ∷ 8 ∷ 9 ∷ 10 ∷ []))
    ≡ Message 1 5 1 ∷ Message 2 5 1 ∷ Message 3 5 1 ∷ Message 4 5 1 ∷ Message 5 5 1 ∷ Message 6 5 1
    ∷ Message 7 5 1 ∷ Message 8 5 1 ∷ More 2 ∷ Bytes 10 8 3 ∷ []
two_are_counted = refl

-- their number, as it is drawn
pub as_it_is_drawn : map
    (λ look. queue_row_text look (record { driver = ip; minor = 1; side = Write; item = More 2 }))
    (Class ∷ Label ∷ []) ≡ codes "more queue-ip-1-w" ∷ codes ".. 2 more" ∷ []
unfolding digits
as_it_is_drawn = refl

-- no driver and no line
pub of_nothing : dot_text [] nothing ≡
    codes "strict digraph muxsim {\n"
    ++ codes "  graph [rankdir=TB nodesep=0.2 fontname=\"sans-serif\"];\n"
    ++ codes "  node [shape=record fontname=\"sans-serif\" fontsize=10 label=\"{\\N|{<write>write|<read>"
    ++ codes "read}}\"];\n"
    ++ codes "  edge [dir=none color=gray fontname=\"sans-serif\" fontsize=10];\n"
    ++ codes "}\n"
unfolding digits
of_nothing = refl

-- a line of each kind
abbrev pub shown_text : List ℕ
shown_text =
    codes "strict digraph muxsim {\n"
    ++ codes "  graph [rankdir=TB nodesep=0.2 fontname=\"sans-serif\"];\n"
    ++ codes "  node [shape=record fontname=\"sans-serif\" fontsize=10 label=\"{\\N|{<write>write|<read>"
    ++ codes "read}}\"];\n"
    ++ codes "  edge [dir=none color=gray fontname=\"sans-serif\" fontsize=10];\n"
    ++ codes "  subgraph \"cluster ip\" { \"ip\" [shape=box label=\"ip mux\\nminors 4, longest "
    ++ codes "16\\nhigh 8, low 3\"] }\n"
    ++ codes "  subgraph \"cluster eth\" { \"eth\" [shape=box label=\"eth leaf\\nminors 2, longest "
    ++ codes "1024\\nhigh 64, low 9\"] }\n"
    ++ codes "  subgraph \"cluster eth\" { \"eth 0\" -> \"eth\" } \"ip\" -> \"eth 0\" [color=steelblue "
    ++ codes "label=\"link 1 ordinary\\nby ip 3\"]\n"
    ++ codes "  subgraph \"cluster eth\" { \"eth 1\" -> \"eth\" } \"ip\" -> \"eth 1\" [color=darkorange "
    ++ codes "penwidth=3 label=\"link 2 persistent\\nby ip 2\"]\n"
    ++ codes "  subgraph \"cluster eth\" { \"eth 1\" -> \"eth\"; \"eth 1\" [style=filled xlabel=\"hung "
    ++ codes "up\"] }\n"
    ++ codes "  subgraph \"cluster ip\" { \"ip\" -> \"route:ip:88\" [style=dotted]; \"route:ip:88\" "
    ++ codes "[shape=plain label=\"route 88 by link 2\"] }\n"
    ++ codes "  subgraph \"cluster ip\" { \"ip 1\" -> \"ip\" } \"fd:5:6\" -> \"ip 1\"; \"fd:5:6\" "
    ++ codes "[shape=plain label=\"process 5 fd 6\"]\n"
    ++ codes "  subgraph \"cluster ip\" { \"ip 1\" -> \"ip\" } \"bind:ip:77\" -> \"ip 1\"; \"bind:ip:77\" "
    ++ codes "[shape=plain label=\"bound to 77\"]\n"
    ++ codes "  subgraph \"cluster ip\" { \"ip 1\" -> \"ip\" } \"msg:21\" -> \"ip 1\":write; \"msg:21\" "
    ++ codes "[shape=note label=\"message 21 to 77, 3 B\"]\n"
    ++ codes "  subgraph \"cluster ip\" { \"ip 1\" -> \"ip\" } \"msg:22\" -> \"ip 1\":write; \"msg:22\" "
    ++ codes "[shape=note label=\"message 22 to 78, 5 B\"]\n"
    ++ codes "  subgraph \"cluster ip\" { \"ip 1\" -> \"ip\" } \"queue:ip:1:w\" -> \"ip 1\":write;"
    ++ codes " \"queue:ip:1:w\" [shape=plain label=\"write 8 of 8, low 3\"]\n"
    ++ codes "  subgraph \"cluster ip\" { \"ip 1\" -> \"ip\" } \"msg:23\" -> \"ip 1\":read; \"msg:23\" "
    ++ codes "[shape=note label=\"message 23 to 79, 1 B\"]\n"
    ++ codes "  subgraph \"cluster ip\" { \"ip 1\" -> \"ip\" } \"msg:24\" -> \"ip 1\":read; \"msg:24\" "
    ++ codes "[shape=note label=\"message 24 to 80, 1 B\"]\n"
    ++ codes "  subgraph \"cluster ip\" { \"ip 1\" -> \"ip\" } \"queue:ip:1:r\" -> \"ip 1\":read;"
    ++ codes " \"queue:ip:1:r\" [shape=plain label=\"read 2 of 8, low 3\"]\n"
    ++ codes "  subgraph \"cluster eth\" { \"eth 0\" -> \"eth\" } \"msg:25\" -> \"eth 0\":write;"
    ++ codes " \"msg:25\" [shape=note label=\"message 25 to 81, 1 B\"]\n"
    ++ codes "  subgraph \"cluster eth\" { \"eth 0\" -> \"eth\" } \"queue:eth:0:w\" -> \"eth 0\":write;"
    ++ codes " \"queue:eth:0:w\" [shape=plain label=\"write 1 of 64, low 9\"]\n"
    ++ codes "  subgraph \"cluster eth\" { \"eth 1\" -> \"eth\" } \"msg:26\" -> \"eth 1\":write;"
    ++ codes " \"msg:26\" [shape=note label=\"message 26 to 82, 0 B\"]\n"
    ++ codes "  subgraph \"cluster eth\" { \"eth 1\" -> \"eth\" } \"queue:eth:1:w\" -> \"eth 1\":write;"
    ++ codes " \"queue:eth:1:w\" [shape=plain label=\"write 0 of 64, low 9\"]\n"
    ++ codes "  subgraph \"cluster tap\" { \"tap 1\" -> \"tap\" } \"msg:27\" -> \"tap 1\":write;"
    ++ codes " \"msg:27\" [shape=note label=\"message 27 to 83, 2 B\"]\n"
    ++ codes "  subgraph \"cluster tap\" { \"tap 1\" -> \"tap\" } \"queue:tap:1:w\" -> \"tap 1\":write;"
    ++ codes " \"queue:tap:1:w\" [shape=plain label=\"write 2 of 0, low 0\"]\n"
    ++ codes "  subgraph \"cluster ip\" { \"ip 1\" -> \"ip\" } \"full:ip:1:w\" -> \"ip 1\":write;"
    ++ codes " \"full:ip:1:w\" [shape=plain fontcolor=red label=\"write queue full\"]\n"
    ++ codes "  subgraph \"cluster eth\" { \"eth 0\" -> \"eth\" } \"full:eth:0:r\" -> \"eth 0\":read;"
    ++ codes " \"full:eth:0:r\" [shape=plain fontcolor=red label=\"read queue full\"]\n"
    ++ codes "}\n"

pub of_a_view : dot_text table shown ≡ shown_text
unfolding digits
of_a_view = refl
