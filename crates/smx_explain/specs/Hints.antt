-- The hint on a word that is not valid in its column, and the headers of texts.
use Rattle.std.specs.Prelude.{◌≡◌, ◌⊎◌, ℕ, Bool, true, false, ◌||◌, ◌&&◌, nat_eq, nat_le, if◌then◌else◌, bytes_eq}
use Rattle.std.specs.Prelude.{List, [], ◌∷◌, ◌++◌, Option, Some, None, codes}
use Rattle.std.specs.List.{list_all, list_any}
use Rattle.smx_types.specs.declared.version.Version.{Version}
use Rattle.smx_types.specs.declared.version.Version.TheVariants.{V1, V2}
use Rattle.smx_explain.specs.Columns.{IsWanted}
use Rattle.smx_explain.specs.Rows.{WordRow, rows_in}
use Rattle.smx_explain.specs.declared.hints.Hint.{Hint}
use Rattle.smx_explain.specs.declared.hints.Hint.TheVariants.{LaterVersion, SmallLetters, Meant}
use Rattle.smx_explain.specs.declared.kinds.Choice.{Choice}
use Rattle.smx_explain.specs.declared.kinds.Choice.TheVariants.{ProgramsLine, SessionCommand, Command}
use Rattle.smx_explain.specs.declared.kinds.TextKind.{TextKind}
use Rattle.smx_explain.specs.declared.kinds.TextKind.TheVariants.{Programs, Transcript}
use Rattle.smx_explain.specs.declared.kinds.Value.TheVariants.{Bytes}
use Rattle.smx_explain.specs.declared.kinds.Wanted.{Wanted}
use Rattle.smx_explain.specs.declared.kinds.Wanted.TheVariants as wanted

-- ---- words that differ little

-- the words begin with the same two bytes in exchanged order, and go on alike
abbrev pub are_exchanged : List ℕ → List ℕ → Bool
are_exchanged (a ∷ b ∷ word) (c ∷ d ∷ verb) = nat_eq a d && (nat_eq b c && bytes_eq word verb)
are_exchanged word verb = false

-- At most one edit turns the word into the verb: a byte is replaced, added or left out, or two neighbours are
-- exchanged.
abbrev pub is_near : List ℕ → List ℕ → Bool
is_near [] [] = true
is_near [] (v ∷ verb) = bytes_eq [] verb
is_near (w ∷ word) [] = bytes_eq word []
is_near (w ∷ word) (v ∷ verb) =
    (nat_eq w v && is_near word verb) || (bytes_eq word verb || (bytes_eq word (v ∷ verb)
    || (bytes_eq (w ∷ word) verb || are_exchanged (w ∷ word) (v ∷ verb))))

-- the first of these fixed words that is near the word
abbrev pub first_near : List WordRow → List ℕ → Option (List ℕ)
first_near [] word = None
first_near (row ∷ rows) word = if is_near word row.0 then Some row.0 else first_near rows word

-- the fixed words with which a line goes on: a line of programs may also begin with a command, and a command may come
-- after a process in a session
abbrev pub choice_rows : Version → Choice → List WordRow
choice_rows version ProgramsLine = rows_in version ProgramsLine ++ rows_in version Command
choice_rows version SessionCommand = rows_in version Command
choice_rows version choice = rows_in version choice

-- the fixed word that is meant by this word, unless it is empty
abbrev pub meant : Version → Choice → List ℕ → Option (List ℕ)
meant version choice [] = None
meant version choice (b ∷ word) = first_near (choice_rows version choice) (b ∷ word)

-- ---- hints

-- a capital letter that would be a hex digit if it were small
abbrev pub is_capital_digit : ℕ → Bool
is_capital_digit byte = nat_le 65 byte && nat_le byte 70

-- a hex digit, with a small or a capital letter
abbrev pub is_any_digit : ℕ → Bool
is_any_digit byte = (nat_le 48 byte && nat_le byte 57) || ((nat_le 97 byte && nat_le byte 102) || is_capital_digit byte)

-- the word consists of hex digits, some of them with capital letters
abbrev pub is_capital_hex : List ℕ → Bool
is_capital_hex word = list_any is_capital_digit word && list_all is_any_digit word

-- the words of a hint
abbrev pub hint_words : Hint → List ℕ
hint_words LaterVersion = codes "version 2 has this word, and version 1 has not"
hint_words SmallLetters = codes "the letters of hex digits are small, 'a' to 'f'"
hint_words (Meant verb) = codes "did you mean '" ++ verb.now ++ codes "'?"

-- the version is 1, and the word is one with which version 2 goes on; the values are the same in both versions
abbrev pub IsLater : Version → Wanted → List ℕ → Type 0
IsLater V1 (wanted.Choice choice) word = IsWanted V2 (wanted.Choice choice) word
IsLater version expected word = ⊥

-- the word is no hex digits with capital letters, and no fixed word is meant
abbrev pub IsWithoutHint : Wanted → Version → List ℕ → Type 0
IsWithoutHint (wanted.Value value) version word = (value ≡ Bytes → is_capital_hex word ≡ false)
IsWithoutHint (wanted.Choice choice) version word = meant version choice word ≡ None

-- the hint on a word in a column where another is expected, or none
abbrev pub IsHintOn : Version → Wanted → List ℕ → Option Hint → Type 0
IsHintOn version expected word (Some LaterVersion) = IsLater version expected word
IsHintOn version expected word (Some SmallLetters) = (expected ≡ wanted.Value Bytes) × (is_capital_hex word ≡ true)
IsHintOn version expected word (Some (Meant verb)) = (IsLater version expected word → ⊥)
    × (choice : Choice) × (expected ≡ wanted.Choice choice) × (meant version choice word ≡ Some verb.now)
IsHintOn version expected word None = (IsLater version expected word → ⊥) × IsWithoutHint expected version word

-- ---- texts of another kind

-- the first line of a text of this kind
abbrev pub IsHeader : TextKind → List ℕ → Type 0
IsHeader Programs line = (line ≡ codes "programs 1") ⊎ (line ≡ codes "programs 2")
IsHeader Transcript line = (line ≡ codes "transcript 1") ⊎ (line ≡ codes "transcript 2")
