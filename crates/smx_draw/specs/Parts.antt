-- The texts of each part of a configuration: the class words and the label of its row in an SVG, and its line for
-- Graphviz, which names drivers, streams, queues and the items attached to them apart.
use Rattle.std.specs.Prelude.{ℕ, List, [], ◌∷◌, ◌++◌, codes, map}
use Rattle.std.specs.Fmt.{decimal}
use Rattle.smx_types.specs.declared.driver.DriverSpec.{DriverSpec}
use Rattle.smx_types.specs.declared.view.BindingLine.{BindingLine}
use Rattle.smx_types.specs.declared.view.ConfigView.{ConfigView}
use Rattle.smx_types.specs.declared.view.DescriptorLine.{DescriptorLine}
use Rattle.smx_types.specs.declared.view.FullLine.{FullLine}
use Rattle.smx_types.specs.declared.view.HungLine.{HungLine}
use Rattle.smx_types.specs.declared.view.LinkLine.{LinkLine}
use Rattle.smx_types.specs.declared.view.RouteLine.{RouteLine}
use Rattle.smx_draw.specs.Pieces.{driver_word, filled, link_word, side_letter, side_word, stroke}
use Rattle.smx_draw.specs.declared.parts.Look.{Look}
use Rattle.smx_draw.specs.declared.parts.Look.TheVariants.{Class, Label, Line}
use Rattle.smx_draw.specs.declared.parts.Part.{Part}
use Rattle.smx_draw.specs.declared.parts.Part.TheVariants as part
use Rattle.smx_draw.specs.declared.queues.QueueItem.{QueueItem}
use Rattle.smx_draw.specs.declared.queues.QueueItem.TheVariants as item
use Rattle.smx_draw.specs.declared.queues.QueueRow.{QueueRow}

-- a driver: its name and kind, its minors, its longest message, and its water marks
abbrev pub driver_template : Look → List ℕ
driver_template Class = codes "@1 driver-@0"
driver_template Label = codes "@0 @1, minors @2, longest @3, high @4, low @5"
driver_template Line =
    codes "  subgraph \"cluster @0\" { \"@0\" [shape=box label=\"@0 @1\\nminors "
    ++ codes "@2, longest @3\\nhigh @4, low @5\"] }\n"

abbrev pub driver_text : Look → DriverSpec → List ℕ
driver_text look d =
    filled (driver_template look) (d.name ∷ driver_word d.kind ∷ decimal d.minors ∷ decimal d.max ∷
    decimal d.high ∷ decimal d.low ∷ [])

-- a route: its address and the id of its link
abbrev pub route_template : Look → List ℕ
route_template Class = codes "route route-@0-@1"
route_template Label = codes "route @1 by link @2"
route_template Line =
    codes "  subgraph \"cluster @0\" { \"@0\" -> \"route:@0:@1\" [style=dotted];"
    ++ codes " \"route:@0:@1\" [shape=plain label=\"route @1 by link @2\"] }\n"

abbrev pub route_text : Look → RouteLine → List ℕ
route_text look r = filled (route_template look) (r.driver ∷ decimal r.addr ∷ decimal r.id ∷ [])

-- a link: its id, its kind and its controlling stream; for Graphviz an edge from its upper driver to its lower stream
abbrev pub link_template : Look → List ℕ
link_template Class = codes "@1 link-@0"
link_template Label = codes "link @0 @1 by @2 @3"
link_template Line =
    codes "  subgraph \"cluster @4\" { \"@4 @5\" -> \"@4\" } \"@2\" -> \"@4 @5\" "
    ++ codes "[@6 label=\"link @0 @1\\nby @2 @3\"]\n"

abbrev pub link_text : Look → LinkLine → List ℕ
link_text look l =
    filled (link_template look) (decimal l.id ∷ link_word l.kind ∷ l.ctl_driver ∷
    decimal l.ctl_minor ∷ l.lower_driver ∷ decimal l.lower_minor ∷ stroke l.kind ∷ [])

-- a stream whose device has hung up
abbrev pub hung_template : Look → List ℕ
hung_template Class = codes "hung stream-@0-@1"
hung_template Label = codes "hung up"
hung_template Line =
    codes "  subgraph \"cluster @0\" { \"@0 @1\" -> \"@0\"; \"@0 @1\" [style=filled "
    ++ codes "xlabel=\"hung up\"] }\n"

abbrev pub hung_text : Look → HungLine → List ℕ
hung_text look h = filled (hung_template look) (h.driver ∷ decimal h.minor ∷ [])

-- a descriptor: its process and its number
abbrev pub descriptor_template : Look → List ℕ
descriptor_template Class = codes "descriptor fd-@2-@3"
descriptor_template Label = codes "process @2 fd @3"
descriptor_template Line =
    codes "  subgraph \"cluster @0\" { \"@0 @1\" -> \"@0\" } \"fd:@2:@3\" -> \"@0 "
    ++ codes "@1\"; \"fd:@2:@3\" [shape=plain label=\"process @2 fd @3\"]\n"

abbrev pub descriptor_text : Look → DescriptorLine → List ℕ
descriptor_text look d =
    filled (descriptor_template look) (d.driver ∷ decimal d.minor ∷ decimal d.process ∷
    decimal d.fd ∷ [])

-- the address to which a stream is bound
abbrev pub binding_template : Look → List ℕ
binding_template Class = codes "bind bind-@0-@2"
binding_template Label = codes "bound to @2"
binding_template Line =
    codes "  subgraph \"cluster @0\" { \"@0 @1\" -> \"@0\" } \"bind:@0:@2\" -> \"@0 "
    ++ codes "@1\"; \"bind:@0:@2\" [shape=plain label=\"bound to @2\"]\n"

abbrev pub binding_text : Look → BindingLine → List ℕ
binding_text look b =
    filled (binding_template look) (b.driver ∷ decimal b.minor ∷ decimal b.addr ∷ [])

-- a full queue
abbrev pub full_template : Look → List ℕ
full_template Class = codes "full queue-@0-@1-@2"
full_template Label = codes "@3 queue full"
full_template Line =
    codes "  subgraph \"cluster @0\" { \"@0 @1\" -> \"@0\" } \"full:@0:@1:@2\" -> "
    ++ codes "\"@0 @1\":@3; \"full:@0:@1:@2\" [shape=plain fontcolor=red label=\"@3 "
    ++ codes "queue full\"]\n"

abbrev pub full_text : Look → FullLine → List ℕ
full_text look f =
    filled (full_template look) (f.driver ∷ decimal f.minor ∷ side_letter f.side ∷
    side_word f.side ∷ [])

-- a message in a queue: its serial, its address and its length
abbrev pub message_template : Look → List ℕ
message_template Class = codes "message msg-@4"
message_template Label = codes "message @4 to @5, @6 B"
message_template Line =
    codes "  subgraph \"cluster @0\" { \"@0 @1\" -> \"@0\" } \"msg:@4\" -> \"@0 "
    ++ codes "@1\":@3; \"msg:@4\" [shape=note label=\"message @4 to @5, @6 B\"]\n"

-- the number of the messages of a queue that are not shown
abbrev pub more_template : Look → List ℕ
more_template Class = codes "more queue-@0-@1-@2"
more_template Label = codes ".. @4 more"
more_template Line =
    codes "  subgraph \"cluster @0\" { \"@0 @1\" -> \"@0\" } \"more:@0:@1:@2\" -> "
    ++ codes "\"@0 @1\":@3; \"more:@0:@1:@2\" [shape=plain label=\".. @4 more\"]\n"

-- the bytes of a queue, and its high and its low water mark
abbrev pub bytes_template : Look → List ℕ
bytes_template Class = codes "queue queue-@0-@1-@2"
bytes_template Label = codes "@3 @4 of @5, low @6"
bytes_template Line =
    codes "  subgraph \"cluster @0\" { \"@0 @1\" -> \"@0\" } \"queue:@0:@1:@2\" "
    ++ codes "-> \"@0 @1\":@3; \"queue:@0:@1:@2\" [shape=plain label=\"@3 @4 of @5, "
    ++ codes "low @6\"]\n"

-- a template with a queue and three numbers
abbrev pub queue_text : List ℕ → QueueRow → ℕ → ℕ → ℕ → List ℕ
queue_text template q first second third =
    filled template (q.driver ∷ decimal q.minor ∷ side_letter q.side ∷ side_word q.side ∷ decimal first ∷
    decimal second ∷ decimal third ∷ [])

-- a row of a queue
abbrev pub item_template : Look → QueueItem → List ℕ
item_template look (item.Message serial addr length) = message_template look
item_template look (item.More count) = more_template look
item_template look (item.Bytes bytes high low) = bytes_template look

abbrev pub item_text : Look → QueueRow → QueueItem → List ℕ
item_text look q (item.Message serial addr length) = queue_text (message_template look) q serial addr length
item_text look q (item.More count) = queue_text (more_template look) q count 0 0
item_text look q (item.Bytes bytes high low) = queue_text (bytes_template look) q bytes high low

abbrev pub queue_row_text : Look → QueueRow → List ℕ
queue_row_text look q = item_text look q q.item

-- one of the texts of a part
abbrev pub part_text : Look → Part → List ℕ
part_text look (part.Driver d) = driver_text look d
part_text look (part.Link l) = link_text look l
part_text look (part.Hung h) = hung_text look h
part_text look (part.Route r) = route_text look r
part_text look (part.Descriptor d) = descriptor_text look d
part_text look (part.Binding b) = binding_text look b
part_text look (part.Queue q) = queue_row_text look q
part_text look (part.Full f) = full_text look f

-- all parts: the drivers, the lines of the view, and the rows of its queues
abbrev pub parts : List DriverSpec → ConfigView → List QueueRow → List Part
parts drivers v queues =
    map part.Driver drivers ++ map part.Link v.links ++ map part.Hung v.hungs ++ map part.Route v.routes
    ++ map part.Descriptor v.fds ++ map part.Binding v.binds ++ map part.Queue queues ++ map part.Full v.fulls
