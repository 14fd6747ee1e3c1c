-- The programs text: drivers, and a program of commands for each process.
use Rattle.std.specs.Prelude.{◌≡◌, ℕ, ◌+◌, ◌≤◌, List, [], ◌∷◌, ◌++◌, length, map, codes}
use Rattle.std.specs.List.{AllByRecursion, sum_by}
use Rattle.smx_types.specs.ProgramLists.{ProgramLists}
use Rattle.smx_types.specs.Versions.{is_hangup, most_drivers}
use Rattle.smx_types.specs.declared.command.Command.{Command}
use Rattle.smx_types.specs.declared.limits.TheConstants.{MAX_COMMANDS, MAX_PROCESSES}
use Rattle.smx_types.specs.declared.version.Version.{Version}
use Rattle.smx_words.specs.Spelling.{driver_words, process_words, command_words}
use Rattle.smx_words.specs.Spellable.{CanTell, FitsNumber, FitsDriver, FitsCommand}
use Rattle.smx_text.specs.Grammar.{Grammar, full_text, Spells}
use Rattle.smx_text.specs.ProgramLines.{Line}
use Rattle.smx_text.specs.ProgramLines as line
use Rattle.smx_text.specs.TextVersions.{version_word}

-- the words of each line
abbrev pub line_words : Line → List (List ℕ)
line_words (line.Driver d) = driver_words d
line_words (line.Process number) = process_words number
line_words (line.Command c) = command_words c
line_words line.End = codes "end" ∷ []

-- the line can be spelled, and this version can express it
abbrev pub FitsLine : Version → Line → Type 0
FitsLine version (line.Driver d) = FitsDriver d
FitsLine version (line.Process number) = FitsNumber number
FitsLine version (line.Command c) = FitsCommand c × CanTell version (is_hangup c)
FitsLine version line.End = Unit {0}

-- starting at process n: the line of each process, followed by its commands
abbrev pub program_lines : ℕ → List (List Command) → List Line
program_lines n [] = []
program_lines n (commands ∷ programs) =
    line.Process n ∷ (map line.Command commands ++ program_lines (n + 1) programs)

-- the lines between the header and the end
abbrev pub body : ProgramLists → List Line
body v = map line.Driver v.drivers ++ program_lines 0 v.programs

-- `v` has this version, is within its limits, and each of its lines can be spelled
pub record IsAllowed (version : Version) (v : ProgramLists) : Type 0 where
  pub version_is : v.version ≡ version
  pub drivers : length v.drivers ≤ most_drivers version
  pub programs : length v.programs ≤ MAX_PROCESSES
  pub commands : sum_by length v.programs ≤ MAX_COMMANDS
  pub fits : AllByRecursion (FitsLine version) (body v)

-- the grammar of the programs text in each version
abbrev pub programs_grammar : Version → Grammar ProgramLists Line
programs_grammar version = record {
  header_words = codes "programs" ∷ version_word version ∷ [];
  line_words = line_words;
  FitsLine = FitsLine version;
  body = body;
  end = line.End;
  IsAllowed = IsAllowed version;
}

-- the one text of these programs
abbrev pub programs_text : ProgramLists → List ℕ
programs_text v = full_text (programs_grammar v.version) v

-- these bytes spell these programs
abbrev pub SpellsPrograms : List ℕ → ProgramLists → Type 0
SpellsPrograms bytes v = Spells (programs_grammar v.version) bytes v
