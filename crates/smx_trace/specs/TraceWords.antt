-- The text of changes and waits: lines that begin with two spaces.
use Rattle.std.specs.Prelude.{ℕ, List, [], ◌∷◌, ◌++◌, codes}
use Rattle.std.specs.Fmt.{decimal}
use Rattle.std.specs.List.{flat_map}
use Rattle.smx_types.specs.declared.driver.DriverSpec.{DriverSpec}
use Rattle.smx_types.specs.declared.stream.Place.{Place}
use Rattle.smx_types.specs.declared.stream.Side.{Side}
use Rattle.smx_types.specs.declared.stream.StreamId.{StreamId}
use Rattle.smx_types.specs.declared.view.MessageLine.{MessageLine}
use Rattle.smx_model.specs.Changes.{Change, ViewLine}
use Rattle.smx_model.specs.Changes as change
use Rattle.smx_model.specs.DriverList.{name_of}
use Rattle.smx_model.specs.Waits.{Reason, Wait}
use Rattle.smx_model.specs.Waits as reason
use Rattle.smx_words.specs.Spelling.{bind_words, descriptor_words, full_words, hung_words, link_words, message_words}
use Rattle.smx_words.specs.Spelling.{route_words, side_word}
use Rattle.smx_words.specs.Words.{LINE_FEED, line_of}

-- a line of a view, as a transcript spells it
abbrev pub view_line_words : ViewLine → List (List ℕ)
view_line_words (change.Fd d) = descriptor_words d
view_line_words (change.Link l) = link_words l
view_line_words (change.Bind b) = bind_words b
view_line_words (change.Route r) = route_words r
view_line_words (change.Msg m) = message_words m
view_line_words (change.Full f) = full_words f
view_line_words (change.Hung h) = hung_words h

-- a driver's name, a minor and a side
abbrev pub place_words : List ℕ → ℕ → Side → List (List ℕ)
place_words name minor side = name ∷ decimal minor ∷ side_word side ∷ []

-- a stream: its driver's name and its minor
abbrev pub stream_words : List DriverSpec → StreamId → List (List ℕ)
stream_words drivers s = name_of drivers s.driver ∷ decimal s.minor ∷ []

-- the place of a queue
abbrev pub words_of_place : List DriverSpec → Place → List (List ℕ)
words_of_place drivers p = place_words (name_of drivers p.stream.driver) p.stream.minor p.side

-- a message that moved: its serial, the place where it was, and the place where it is
abbrev pub moved_words : MessageLine → MessageLine → List (List ℕ)
moved_words was now = codes "msg" ∷ decimal now.message.serial ∷ place_words was.driver was.minor was.side
    ++ codes "->" ∷ place_words now.driver now.minor now.side

-- a line after these bytes
abbrev pub marked : List ℕ → List (List ℕ) → List ℕ
marked mark words = mark ++ (line_of words ++ LINE_FEED ∷ [])

-- the line of a change: `-` for a line that is gone, `+` for a new one, `~` for a message that moved
abbrev pub change_text : Change → List ℕ
change_text (change.Gone l) = marked (codes "  - ") (view_line_words l)
change_text (change.New l) = marked (codes "  + ") (view_line_words l)
change_text (change.Moved was now) = marked (codes "  ~ ") (moved_words was now)

-- the lines of some changes
abbrev pub changes_text : List Change → List ℕ
changes_text changes = flat_map change_text changes

-- why a first message can't move
abbrev pub reason_words : List DriverSpec → Reason → List (List ℕ)
reason_words drivers (reason.NoRoute addr) = codes "no" ∷ codes "route" ∷ codes "for" ∷ decimal addr ∷ []
reason_words drivers (reason.NotBound addr driver) = codes "nobody" ∷ codes "is" ∷ codes "bound" ∷ codes "to"
    ∷ decimal addr ∷ codes "on" ∷ name_of drivers driver ∷ []
reason_words drivers (reason.FullPlace q) = words_of_place drivers q ++ codes "is" ∷ codes "full" ∷ []
reason_words drivers (reason.HungStream s) = stream_words drivers s ++ codes "has" ∷ codes "hung" ∷ codes "up" ∷ []
reason_words drivers reason.ForDevice = codes "for" ∷ codes "the" ∷ codes "device" ∷ []
reason_words drivers reason.ForRead = codes "for" ∷ codes "a" ∷ codes "read" ∷ []

-- the line of a wait: the place, the serial of its first message, and why this can't move
abbrev pub wait_text : List DriverSpec → Wait → List ℕ
wait_text drivers w = marked (codes "  waits ") (words_of_place drivers w.place
    ++ (decimal w.serial ++ codes ":") ∷ reason_words drivers w.reason)

-- the lines of some waits
abbrev pub waits_text : List DriverSpec → List Wait → List ℕ
waits_text drivers waits = flat_map (wait_text drivers) waits
