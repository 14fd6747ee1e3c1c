-- The words for the column in which a line becomes invalid, and the explanation of a session's line.
use Rattle.std.specs.Prelude.{◌≡◌, ◌⊎◌, ℕ, List, [], ◌++◌, length, Option, Some, None, codes, nat_lt, if◌then◌else◌}
use Rattle.std.specs.Fmt.{decimal}
use Rattle.smx_types.specs.declared.version.Version.{Version}
use Rattle.smx_explain.specs.Columns.{IsColumn, IsPartAt, IsWhole}
use Rattle.smx_explain.specs.Hints.{IsHintOn, hint_words}
use Rattle.smx_explain.specs.WantedWords.{wanted_words}
use Rattle.smx_explain.specs.declared.columns.LineColumn.{LineColumn}
use Rattle.smx_explain.specs.declared.hints.Hint.{Hint}
use Rattle.smx_explain.specs.declared.kinds.Choice.TheVariants.{End}
use Rattle.smx_explain.specs.declared.kinds.LineKind.TheVariants.{Session}
use Rattle.smx_explain.specs.declared.kinds.Wanted.{Wanted}
use Rattle.smx_explain.specs.declared.kinds.Wanted.TheVariants as wanted

-- the words for a line of `len` bytes in which only a space at its end is wrong
abbrev pub space_words : Wanted → ℕ → ℕ → List ℕ
space_words (wanted.Choice End) column len = if nat_lt len column then codes ", with no space before it" else []
space_words expected column len = []

-- the words for a column of a line of `len` bytes
abbrev pub column_words : LineColumn → ℕ → List ℕ
column_words at len = codes "column " ++ decimal at.column ++ codes ": " ++ wanted_words at.wanted
    ++ codes " is wanted" ++ space_words at.wanted at.column len

-- the lines for a column of a line of `len` bytes, and for the hint on the word there, if there is one
abbrev pub explanation_text : LineColumn → ℕ → Option Hint → List ℕ
explanation_text at len None = codes "  " ++ column_words at len ++ codes "\n"
explanation_text at len (Some hint) =
    codes "  " ++ (column_words at len ++ (codes "\n  " ++ (hint_words hint ++ codes "\n")))

-- The explanation of a line: it is empty if the line is a request. Else it has the column in which the line becomes
-- invalid, and then the hint on the part in that column, if there is one.
abbrev pub IsExplanationOf : Version → List ℕ → List ℕ → Type 0
IsExplanationOf version line text = (IsWhole Session version line × (text ≡ []))
    ⊎ ((at : LineColumn) × (word : List ℕ) × (hint : Option Hint) × IsColumn Session version line at
    × IsPartAt line at.column word × IsHintOn version at.wanted word hint
    × (text ≡ explanation_text at (length line) hint))
