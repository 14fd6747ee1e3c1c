-- In a programs text, a line's text determines the line.
use Rattle.smx_text.proofs.Common.{◌≢◌, refl, sym, arith, rules, inl, inr, bytes_eq, Command, DriverSpec, line_of}
use Rattle.smx_text.proofs.Common.{AreWords, command_words, driver_words, FitsDriver, IsNoLine, IsOneLine, header}
use Rattle.smx_text.proofs.Common.{line_text, Line, programs_grammar, Version, V1, V2}
use Rattle.std.proofs.Common.{◌≡◌, ℕ, false, List}
use Rattle.std.specs.Prelude.{codes}
use Rattle.smx_types.specs.declared.command.Command.TheVariants as command
use Rattle.smx_words.specs.Spelling.{process_words}
use Rattle.smx_words.specs.Spellable.{FitsNumber, FitsCommandIn}
use Rattle.smx_text.specs.ProgramLines as line
use Rattle.smx_text.specs.ProgramsText.{line_words, FitsLine}
use Rattle.smx_text.proofs.GrammarLemmas.{IsWellMade}
use Rattle.smx_text.proofs.HasReadingLemmas.{HasReading, by_reading}
use Rattle.smx_text.proofs.MachineLemmas.{IsLineOrNot, well_made as made_by, reads}
use Rattle.smx_text.proofs.ProgramsMachineLemmas.{reader}
use Rattle.smx_words.proofs.DecidedCommandLemmas.{command_has_words}
use Rattle.smx_words.proofs.DecidedLemmas.{one, reading}
use Rattle.smx_words.proofs.DecidedLineLemmas.{driver_has_words, process_has_words}
use Rattle.smx_words.proofs.InVersionLemmas.{reading_in}
use Rattle.smx_words.proofs.PlainLemmas.{some_command}
use Rattle.smx_text.proofs.VersionLemmas.{AreVersions}
use Rattle.smx_text.proofs.LineWordLemmas.{differ, end_spelled, first_word, other_first}
use Rattle.smx_types.specs.Versions.{is_hangup}

-- ---- lines

-- a line that fits has at least one word, and all words are printable bytes
spelling : (version : Version) (k : Line) → FitsLine version k → AreWords (line_words k)
spelling version (line.Driver d) fits = (driver_has_words.are_words d fits, omega arith)
spelling version (line.Process n) fits = (process_has_words.are_words n fits, omega arith)
spelling version (line.Command c) fits = (command_has_words.are_words c fits.0, some_command c)
spelling version line.End fits = end_spelled

-- the first word of a command is not that of another line
command_first : (c : Command) → (bytes_eq (first_word (command_words c)) (codes "driver") ≡ false)
    × (bytes_eq (first_word (command_words c)) (codes "process") ≡ false)
    × (bytes_eq (first_word (command_words c)) (codes "end") ≡ false)
command_first command.CloseAll = (refl, refl, refl)
command_first c = (refl, refl, refl)

-- two lines of programs that fit a version and have the same words are equal
words_apart : (version : Version) (k l : Line) → FitsLine version k → FitsLine version l → line_words k ≡ line_words l
    → k ≡ l
words_apart version (line.Driver d) (line.Driver e) fits also ws = grind (arith, one, driver_has_words)
words_apart version (line.Process n) (line.Process m) fits also ws = grind (arith, one, process_has_words)
words_apart version (line.Command c) (line.Command d) fits also ws = grind (arith, one, command_has_words)
words_apart version line.End line.End fits also ws = refl
words_apart version (line.Command c) (line.Driver d) fits also ws = absurd (other_first _ _ (command_first c).0 ws)
words_apart version (line.Command c) (line.Process n) fits also ws = absurd (other_first _ _ (command_first c).1 ws)
words_apart version (line.Command c) line.End fits also ws = absurd (other_first _ _ (command_first c).2 ws)
words_apart version (line.Driver d) (line.Command c) fits also ws = grind (arith, other_first, command_first)
words_apart version (line.Process n) (line.Command c) fits also ws = grind (arith, other_first, command_first)
words_apart version line.End (line.Command c) fits also ws = absurd (other_first _ _ (command_first c).2 (sym ws))
words_apart version k l fits also ws = absurd (other_first _ _ refl ws)

-- a text that is no command, no driver, no process and not the end is no line of programs
pub no_line : (version : Version) (lines : List Line) (text : List ℕ)
    → ((c : Command) → FitsCommandIn version c → text ≢ line_of (command_words c))
    → ((d : DriverSpec) → FitsDriver d → text ≢ line_of (driver_words d))
    → ((n : ℕ) → FitsNumber n → text ≢ line_of (process_words n)) → text ≢ line_text (programs_grammar version) line.End
    → IsNoLine (programs_grammar version) lines text
no_line version lines text commands drivers processes end (line.Command c) fits may is = commands c fits is
no_line version lines text commands drivers processes end (line.Driver d) fits may is = drivers d fits is
no_line version lines text commands drivers processes end (line.Process n) fits may is = processes n fits is
no_line version lines text commands drivers processes end line.End fits may is = end is

-- the header of programs contains no line feed
header_is_line : (version : Version) → IsOneLine (header (programs_grammar version))
header_is_line V1 = search rules
header_is_line V2 = search rules

-- the programs text is well made: a line's text determines it, each is one line, and lines determine the programs
pub well_made : (version : Version) → IsWellMade (programs_grammar version)
well_made version = made_by (reader version) (header_is_line version) (spelling version) tt (words_apart version)

-- the grammars of programs are well made in both versions, and their headers differ
abbrev pub versions : AreVersions programs_grammar
versions = record {
  version_of = λ v. v.version;
  made = well_made;
  differ = differ (codes "programs 1") (codes "programs 2") refl;
}

-- a text other than the end is that of a line that fits, or of no line of programs
line_or_not : (version : Version) (lines : List Line) (text : List ℕ)
    → text ≢ line_text (programs_grammar version) line.End → IsLineOrNot (programs_grammar version) lines text
line_or_not version lines text other =
    by_reading command_words (reading_in command_has_words is_hangup version text some_command)
    (λ c fits is. inl (line.Command c, fits, is)) (λ commands.
    by_reading driver_words (reading driver_has_words (λ x. omega arith) text)
    (λ d fits is. inl (line.Driver d, fits, is)) (λ drivers.
    by_reading process_words (reading process_has_words (λ x. omega arith) text)
    (λ n fits is. inl (line.Process n, fits, is)) (λ processes.
    inr (no_line version lines text commands drivers processes other))))

-- any bytes spell programs of this version, or have a first fault other than out of memory
pub programs_have_reading : (version : Version) (bytes : List ℕ) → HasReading (programs_grammar version) bytes
programs_have_reading version =
    reads (reader version) (well_made version) (line_or_not version)
