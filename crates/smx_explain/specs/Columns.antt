-- The column at which a line becomes invalid.
use Rattle.std.specs.Prelude.{◌≡◌, ◌↔◌, ◌⊎◌, ℕ, ◌+◌, List, [], ◌∷◌, ◌++◌, length, Option, Some, None, codes}
use Rattle.std.specs.Borrow.{Bor}
use Rattle.std.specs.List.{AllByRecursion, flat_map}
use Rattle.smx_types.specs.declared.command.Command.{Command}
use Rattle.smx_types.specs.declared.version.Version.{Version}
use Rattle.smx_words.specs.Spellable.{FitsCallIn}
use Rattle.smx_words.specs.Spelling.{call_words}
use Rattle.smx_words.specs.Words.{IsFree, SPACE}
use Rattle.smx_text.specs.ProgramLines.{Line}
use Rattle.smx_text.specs.ProgramsText as programs
use Rattle.smx_text.specs.TranscriptLines.{TranscriptLine}
use Rattle.smx_text.specs.TranscriptText as transcript
use Rattle.smx_explain.specs.Rows.{GoesOn, IsChosen, IsValue, MayEnd}
use Rattle.smx_explain.specs.declared.kinds.Choice.{Choice}
use Rattle.smx_explain.specs.declared.kinds.Choice.TheVariants as choice
use Rattle.smx_explain.specs.declared.kinds.LineKind.{LineKind}
use Rattle.smx_explain.specs.declared.kinds.LineKind.TheVariants.{Programs, Transcript, Session}
use Rattle.smx_explain.specs.declared.kinds.Value.{Value}
use Rattle.smx_explain.specs.declared.kinds.Wanted.{Wanted}
use Rattle.smx_explain.specs.declared.kinds.Wanted.TheVariants as wanted
use Rattle.smx_explain.specs.declared.columns.LineColumn.{LineColumn}

-- these are the words of a call of this version
abbrev pub AreCall : Version → List (List ℕ) → Type 0
AreCall version words = (call : ℕ × Command) × FitsCallIn version call × (words ≡ call_words call)

-- these are the words of a line with which a session of this version does something; an empty line does so too
abbrev pub AreRequest : Version → List (List ℕ) → Type 0
AreRequest version words = (words ≡ codes "show" ∷ []) ⊎ ((words ≡ codes "trace" ∷ codes "on" ∷ [])
    ⊎ ((words ≡ codes "trace" ∷ codes "off" ∷ []) ⊎ ((words ≡ codes "end" ∷ []) ⊎ AreCall version words)))

-- these are the words of a line that a text of this version may have after its header, or that a session may read
abbrev pub IsLine : LineKind → Version → List (List ℕ) → Type 0
IsLine Programs version words = (k : Line) × programs.FitsLine version k × (words ≡ programs.line_words k)
IsLine Transcript version words =
    (k : TranscriptLine) × transcript.FitsLine version k × (words ≡ transcript.line_words k)
IsLine Session version words = AreRequest version words

-- the choice that the first word of a line makes
abbrev pub first_choice : LineKind → Choice
first_choice Programs = choice.ProgramsLine
first_choice Transcript = choice.TranscriptLine
first_choice Session = choice.SessionLine

-- some line begins with these words
abbrev pub Begins : LineKind → Version → List (List ℕ) → Type 0
Begins kind version front = (more : List (List ℕ)) × IsLine kind version (front ++ more)

-- each word, followed by a space
abbrev pub spaced : List (List ℕ) → List ℕ
spaced words = flat_map (λ word. word ++ SPACE ∷ []) words

-- the parts of a line between its spaces; they are its words, if the line is made of words
abbrev pub AreParts : List ℕ → List (List ℕ) → Type 0
AreParts line parts = AllByRecursion (IsFree SPACE) parts × (line ++ SPACE ∷ [] ≡ spaced parts)

-- the first of some parts, or an empty part if there are no parts
abbrev pub first_of : List (List ℕ) → List ℕ
first_of [] = []
first_of (part ∷ parts) = part

-- the part of a line that begins in this column, or an empty one if the line ends before it
abbrev pub IsPartAt : List ℕ → ℕ → List ℕ → Type 0
IsPartAt line column word = (front behind : List (List ℕ)) × AreParts line (front ++ behind)
    × (column ≡ length (spaced front) + 1) × (word ≡ first_of behind)

-- no line goes on with the next part; or if no part is left, the line is incomplete
abbrev pub Stops : LineKind → Version → List (List ℕ) → List (List ℕ) → Type 0
Stops kind version front [] = IsLine kind version front → ⊥
Stops kind version front (word ∷ behind) = Begins kind version (front ++ word ∷ []) → ⊥

-- what is expected next, if these values and then this choice are expected
abbrev pub wanted_of : List Value → Choice → Wanted
wanted_of [] choice = wanted.Choice choice
wanted_of (value ∷ values) choice = wanted.Value value

-- by the tables, words lead from some values and then a choice to this kind of word
abbrev pub LeadTo : Version → List Value → Choice → List (List ℕ) → Wanted → Type 0
LeadTo version values choice [] expected = expected ≡ wanted_of values choice
LeadTo version values choice (word ∷ words) expected = (more : List Value) × (next : Choice)
    × GoesOn version values choice word more next × LeadTo version more next words expected

-- the word is of the expected kind
abbrev pub IsWanted : Version → Wanted → List ℕ → Type 0
IsWanted version (wanted.Value value) word = IsValue value word
IsWanted version (wanted.Choice choice) word =
    (values : List Value) × (next : Choice) × IsChosen version choice word values next

-- the line may end in place of what is expected
abbrev pub EndsThere : Wanted → Type 0
EndsThere (wanted.Value value) = ⊥
EndsThere (wanted.Choice choice) = MayEnd choice

-- the rest of a line after some of its parts, each of which is followed by a space
abbrev pub left_of : Option (Bor (List ℕ)) → List ℕ
left_of None = []
left_of (Some text) = text.now ++ SPACE ∷ []

-- the line is a whole line of this kind
abbrev pub IsWhole : LineKind → Version → List ℕ → Type 0
IsWhole kind version line = (parts : List (List ℕ)) × AreParts line parts × IsLine kind version parts

-- The column at which a line becomes invalid.
pub record IsColumn (kind : LineKind) (version : Version) (line : List ℕ) (at : LineColumn) : Type 0 where
  -- The line is split at its spaces, and the column comes after the parts in `front`.
  pub front : List (List ℕ)
  pub behind : List (List ℕ)
  pub parts : AreParts line (front ++ behind)
  pub column : at.column ≡ length (spaced front) + 1
  -- Some line begins with these parts, and none goes on with the part after them.
  pub begun : Begins kind version front
  pub stops : Stops kind version front behind
  -- The words with which a line can go on are exactly those of the expected kind. The end is expected exactly if a
  -- line may end there.
  pub wanted : (word : List ℕ) → Begins kind version (front ++ word ∷ []) ↔ IsWanted version at.wanted word
  pub ends : IsLine kind version front ↔ EndsThere at.wanted
  -- It is the kind that the tables have after these parts.
  pub led : LeadTo version [] (first_choice kind) front at.wanted
