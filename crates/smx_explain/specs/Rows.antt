-- The words that may occur in each column of a line, and how the line goes on after each.
use Rattle.std.specs.Prelude.{◌≡◌, ◌≢◌, ◌⊎◌, ℕ, List, [], ◌∷◌, ◌++◌, codes}
use Rattle.std.specs.Borrow.{Bor}
use Rattle.std.specs.Fmt.{decimal}
use Rattle.smx_types.specs.declared.version.Version.{Version}
use Rattle.smx_types.specs.declared.version.Version.TheVariants.{V1, V2}
use Rattle.smx_words.specs.HexWords.{hex_word}
use Rattle.smx_words.specs.LineReading.{IsSpelled}
use Rattle.smx_words.specs.Spellable.{FitsAlways, FitsBytes, FitsName, FitsNumber, FitsProcess, FitsWhich}
use Rattle.smx_words.specs.Spelling.{kind_word, link_kind_word, side_word, sides_word, which_word}
use Rattle.smx_explain.specs.declared.kinds.Choice.{Choice}
use Rattle.smx_explain.specs.declared.kinds.Choice.TheVariants.{ProgramsLine, TranscriptLine, SessionLine, Command}
use Rattle.smx_explain.specs.declared.kinds.Choice.TheVariants.{SessionCommand, Switch, Equals, Reply, BadDescriptor}
use Rattle.smx_explain.specs.declared.kinds.Choice.TheVariants.{Invalid, Again, NoDevice, Serials, End}
use Rattle.smx_explain.specs.declared.kinds.Value.{Value}
use Rattle.smx_explain.specs.declared.kinds.Value.TheVariants.{Name, DriverKind, Number, Process, Which, Sides, Side}
use Rattle.smx_explain.specs.declared.kinds.Value.TheVariants.{LinkKind, Bytes}

-- ---- words

-- a word that gives a value of this kind
abbrev pub IsValue : Value → List ℕ → Type 0
IsValue Name word = FitsName word
IsValue DriverKind word = IsSpelled FitsAlways kind_word word
IsValue Number word = IsSpelled FitsNumber decimal word
IsValue Process word = IsSpelled FitsProcess decimal word
IsValue Which word = IsSpelled FitsWhich which_word word
IsValue Sides word = IsSpelled FitsAlways sides_word word
IsValue Side word = IsSpelled FitsAlways side_word word
IsValue LinkKind word = IsSpelled FitsAlways link_kind_word word
IsValue Bytes word = IsSpelled FitsBytes hex_word word

-- a fixed word, the values expected after it, and the choice after these values
abbrev pub WordRow : Type 0
WordRow = List ℕ × List Value × Choice

-- ---- tables

-- the first words of the lines of programs, except commands
abbrev pub programs_lines : List WordRow
programs_lines =
    (codes "driver", Name ∷ DriverKind ∷ Number ∷ Number ∷ Number ∷ Number ∷ [], End)
    ∷ (codes "process", Number ∷ [], End)
    ∷ (codes "end", [], End)
    ∷ []

-- the first words of the lines of a transcript, except entries
abbrev pub transcript_lines : List WordRow
transcript_lines =
    (codes "driver", Name ∷ DriverKind ∷ Number ∷ Number ∷ Number ∷ Number ∷ [], End)
    ∷ (codes "config", [], End)
    ∷ (codes "next", Number ∷ Number ∷ [], End)
    ∷ (codes "fd", Process ∷ Number ∷ Name ∷ Number ∷ [], End)
    ∷ (codes "link", Number ∷ Name ∷ Number ∷ Name ∷ Number ∷ LinkKind ∷ [], End)
    ∷ (codes "bind", Name ∷ Number ∷ Number ∷ [], End)
    ∷ (codes "route", Name ∷ Number ∷ Number ∷ [], End)
    ∷ (codes "msg", Name ∷ Number ∷ Side ∷ Number ∷ Number ∷ Bytes ∷ [], End)
    ∷ (codes "full", Name ∷ Number ∷ Side ∷ [], End)
    ∷ (codes "end", [], End)
    ∷ []

-- the first words of the lines of a session, except processes
abbrev pub session_lines : List WordRow
session_lines = (codes "show", [], End) ∷ (codes "trace", [], Switch) ∷ (codes "end", [], End) ∷ []

-- the commands of an entry
abbrev pub commands : List WordRow
commands =
    (codes "clone", Name ∷ [], Equals)
    ∷ (codes "open", Name ∷ Number ∷ [], Equals)
    ∷ (codes "dup", Number ∷ [], Equals)
    ∷ (codes "close", Number ∷ [], Equals)
    ∷ (codes "exit", [], Equals)
    ∷ (codes "link", Number ∷ Number ∷ [], Equals)
    ∷ (codes "plink", Number ∷ Number ∷ [], Equals)
    ∷ (codes "unlink", Number ∷ Which ∷ [], Equals)
    ∷ (codes "punlink", Number ∷ Which ∷ [], Equals)
    ∷ (codes "bind", Number ∷ Number ∷ [], Equals)
    ∷ (codes "unbind", Number ∷ [], Equals)
    ∷ (codes "route", Number ∷ Number ∷ Number ∷ [], Equals)
    ∷ (codes "unroute", Number ∷ Number ∷ [], Equals)
    ∷ (codes "write", Number ∷ Number ∷ Bytes ∷ [], Equals)
    ∷ (codes "read", Number ∷ [], Equals)
    ∷ (codes "flush", Number ∷ Sides ∷ [], Equals)
    ∷ (codes "inject", Name ∷ Number ∷ Number ∷ Bytes ∷ [], Equals)
    ∷ (codes "transmit", Name ∷ Number ∷ [], Equals)
    ∷ []

-- the replies
abbrev pub replies : List WordRow
replies =
    (codes "fd", Number ∷ Number ∷ [], End)
    ∷ (codes "id", Number ∷ [], End)
    ∷ (codes "took", Number ∷ [], End)
    ∷ (codes "got", Number ∷ Number ∷ Bytes ∷ [], End)
    ∷ (codes "done", [], Serials)
    ∷ (codes "EBADF", [], BadDescriptor)
    ∷ (codes "EINVAL", [], Invalid)
    ∷ (codes "EAGAIN", [], Again)
    ∷ (codes "ENXIO", [], NoDevice)
    ∷ (codes "EMFILE", [], End)
    ∷ (codes "EADDRINUSE", [], End)
    ∷ (codes "ERANGE", [], End)
    ∷ []

-- the reasons after `EINVAL`
abbrev pub invalid : List WordRow
invalid =
    (codes "below", [], End)
    ∷ (codes "notmux", [], End)
    ∷ (codes "already", [], End)
    ∷ (codes "cycle", [], End)
    ∷ (codes "id", [], End)
    ∷ (codes "unbound", [], End)
    ∷ (codes "unrouted", [], End)
    ∷ []

-- the fixed words of a choice in both versions
abbrev pub rows : Choice → List WordRow
rows ProgramsLine = programs_lines
rows TranscriptLine = transcript_lines
rows SessionLine = session_lines
rows Command = commands
rows SessionCommand = []
rows Switch = (codes "on", [], End) ∷ (codes "off", [], End) ∷ []
rows Equals = (codes "=", [], Reply) ∷ []
rows Reply = replies
rows BadDescriptor = (codes "fd", [], End) ∷ []
rows Invalid = invalid
rows Again = (codes "links", [], End) ∷ (codes "full", [], End) ∷ (codes "empty", [], End) ∷ []
rows NoDevice = (codes "driver", [], End) ∷ (codes "minor", [], End) ∷ []
rows Serials = []
rows End = []

-- the fixed words of a choice that only version 2 adds
abbrev pub later_rows : Choice → List WordRow
later_rows ProgramsLine = []
later_rows TranscriptLine = (codes "hung", Name ∷ Number ∷ [], End) ∷ []
later_rows SessionLine = []
later_rows Command = (codes "hangup", Name ∷ Number ∷ [], Equals) ∷ []
later_rows SessionCommand = []
later_rows Switch = []
later_rows Equals = []
later_rows Reply = (codes "eof", [], End) ∷ []
later_rows BadDescriptor = []
later_rows Invalid = []
later_rows Again = []
later_rows NoDevice = (codes "hangup", [], End) ∷ []
later_rows Serials = []
later_rows End = []

-- the fixed words of a choice in this version
abbrev pub rows_in : Version → Choice → List WordRow
rows_in V1 choice = rows choice
rows_in V2 choice = later_rows choice ++ rows choice

-- some row has this word, these values and this choice
abbrev pub IsRow : List WordRow → List ℕ → List Value → Choice → Type 0
IsRow [] word values next = ⊥
IsRow (row ∷ rows) word values next =
    ((word ≡ row.0) × (values ≡ row.1) × (next ≡ row.2)) ⊎ IsRow rows word values next

-- no row has this word
abbrev pub IsNoRow : List WordRow → List ℕ → Type 0
IsNoRow [] word = Unit {0}
IsNoRow (row ∷ rows) word = (word ≢ row.0) × IsNoRow rows word

-- rows as the code stores them
abbrev pub rows_of : List (Bor (List ℕ) × Bor (List Value) × Choice) → List WordRow
rows_of [] = []
rows_of (row ∷ rows) = (row.0.now, row.1.now, row.2) ∷ rows_of rows

-- ---- one word

-- the word is a fixed one
abbrev pub IsFixed : Version → Choice → List ℕ → List Value → Choice → Type 0
IsFixed version choice word values next = IsRow (rows_in version choice) word values next

-- the word begins a command, and the line ends after its values
abbrev pub IsLoneCommand : Version → List ℕ → List Value → Choice → Type 0
IsLoneCommand version word values next = IsFixed version Command word values Equals × (next ≡ End)

-- The word is of another kind. A line of programs may be a command. A line of a transcript may begin with the process
-- of an entry. A line of a session may be a process and a command. Another serial may follow a serial.
abbrev pub IsOther : Version → Choice → List ℕ → List Value → Choice → Type 0
IsOther version ProgramsLine word values next = IsLoneCommand version word values next
IsOther version TranscriptLine word values next = IsValue Process word × (values ≡ []) × (next ≡ Command)
IsOther version SessionLine word values next = IsValue Process word × (values ≡ []) × (next ≡ SessionCommand)
IsOther version Command word values next = ⊥
IsOther version SessionCommand word values next = IsLoneCommand version word values next
IsOther version Switch word values next = ⊥
IsOther version Equals word values next = ⊥
IsOther version Reply word values next = ⊥
IsOther version BadDescriptor word values next = ⊥
IsOther version Invalid word values next = ⊥
IsOther version Again word values next = ⊥
IsOther version NoDevice word values next = ⊥
IsOther version Serials word values next = IsValue Number word × (values ≡ []) × (next ≡ Serials)
IsOther version End word values next = ⊥

-- the word makes this choice; then these values are expected, and after them the choice `next`
abbrev pub IsChosen : Version → Choice → List ℕ → List Value → Choice → Type 0
IsChosen version choice word values next =
    IsFixed version choice word values next ⊎ IsOther version choice word values next

-- Before the word, some values and then a choice were expected. After it, `values` and then the choice `next` are
-- expected.
abbrev pub GoesOn : Version → List Value → Choice → List ℕ → List Value → Choice → Type 0
GoesOn version [] choice word values next = IsChosen version choice word values next
GoesOn version (value ∷ more) choice word values next = IsValue value word × (values ≡ more) × (next ≡ choice)

-- a line may end in place of this choice
abbrev pub MayEnd : Choice → Type 0
MayEnd ProgramsLine = ⊥
MayEnd TranscriptLine = ⊥
MayEnd SessionLine = ⊥
MayEnd Command = ⊥
MayEnd SessionCommand = ⊥
MayEnd Switch = ⊥
MayEnd Equals = ⊥
MayEnd Reply = ⊥
MayEnd BadDescriptor = ⊥
MayEnd Invalid = ⊥
MayEnd Again = ⊥
MayEnd NoDevice = ⊥
MayEnd Serials = Unit {0}
MayEnd End = Unit {0}
