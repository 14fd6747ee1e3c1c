-- The texts of a picture, each made from a template and pieces.
use Rattle.std.specs.Prelude.{ℕ, ◌-◌, Bool, true, false, List, [], ◌∷◌, ◌++◌, codes, get_or, length, min, nat_eq}
use Rattle.std.specs.Prelude.{if◌then◌else◌}
use Rattle.std.specs.Fmt.{decimal}
use Rattle.smx_types.specs.declared.driver.DriverKind.{DriverKind}
use Rattle.smx_types.specs.declared.driver.DriverKind.TheVariants as kind
use Rattle.smx_types.specs.declared.link.LinkKind.{LinkKind}
use Rattle.smx_types.specs.declared.link.LinkKind.TheVariants as link
use Rattle.smx_types.specs.declared.stream.Side.{Side}
use Rattle.smx_types.specs.declared.stream.Side.TheVariants as side
use Rattle.smx_draw.specs.declared.pieces.Piece.{Piece}
use Rattle.smx_draw.specs.declared.pieces.Piece.TheVariants as piece

-- the kind of a driver
abbrev pub driver_word : DriverKind → List ℕ
driver_word kind.Leaf = codes "leaf"
driver_word kind.Mux = codes "mux"

-- the kind of a link
abbrev pub link_word : LinkKind → List ℕ
link_word link.Ordinary = codes "ordinary"
link_word link.Persistent = codes "persistent"

-- how Graphviz draws a link of this kind
abbrev pub stroke : LinkKind → List ℕ
stroke link.Ordinary = codes "color=steelblue"
stroke link.Persistent = codes "color=darkorange penwidth=3"

-- the side of a queue
abbrev pub side_word : Side → List ℕ
side_word side.Write = codes "write"
side_word side.Read = codes "read"

abbrev pub side_letter : Side → List ℕ
side_letter side.Write = codes "w"
side_letter side.Read = codes "r"

-- a number, at most the largest of 32 bits
abbrev pub shown_number : ℕ → ℕ
shown_number n = min n 4294967295

-- the number of bytes, at most the largest number of 32 bits
abbrev pub shown_length : List ℕ → ℕ
shown_length bytes = shown_number (length bytes)

-- a number in decimal, a name, a word
abbrev pub piece_text : Piece → List ℕ
piece_text (piece.Number n) = decimal n
piece_text (piece.Process process) = decimal process
piece_text (piece.Name name) = name
piece_text (piece.Driver kind) = driver_word kind
piece_text (piece.Link kind) = link_word kind
piece_text (piece.Stroke kind) = stroke kind
piece_text (piece.Side side) = side_word side
piece_text (piece.Letter side) = side_letter side

-- the rest of a template, with the text number N in place of each `@N`; the first argument is whether `@` comes just
-- before the rest
abbrev pub filled_from : Bool → List ℕ → List (List ℕ) → List ℕ
filled_from hole [] texts = []
filled_from true (c ∷ template) texts = get_or texts (c - 48) [] ++ filled_from false template texts
filled_from false (c ∷ template) texts =
    if nat_eq c 64 then filled_from true template texts else c ∷ filled_from false template texts

-- a template with a text in place of each hole
abbrev pub filled : List ℕ → List (List ℕ) → List ℕ
filled template texts = filled_from false template texts
