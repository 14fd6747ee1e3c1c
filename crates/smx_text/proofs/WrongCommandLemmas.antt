-- Lines that are misspelled commands, after the line of a process.
use Rattle.smx_text.proofs.Common.{◌≢◌, ◌<◌, refl, ap, arith, rules, AllByRecursion, bytes_eq, ProgramLists}
use Rattle.smx_text.proofs.Common.{DriverSpec, V1, V2, command_words, IsFree, SPACE, line_of, IsOneLine, Line}
use Rattle.std.proofs.Common.{◌≡◌, ℕ, false, List, [], ◌∷◌, length}
use Rattle.std.specs.Fmt.{digits}
use Rattle.std.specs.Prelude.{codes}
use Rattle.smx_types.specs.ProgramLists.{program_lists}
use Rattle.smx_types.specs.declared.command.Command.TheVariants as command
use Rattle.smx_types.specs.declared.driver.DriverKind.TheVariants as kind
use Rattle.smx_words.proofs.DecidedCommandLemmas.{command_has_words}
use Rattle.smx_words.proofs.DecidedLemmas.{by_line, refused}
use Rattle.smx_words.proofs.LineLemmas.{words_in}
use Rattle.smx_words.proofs.PlainLemmas.{some_command}
use Rattle.smx_text.specs.declared.text_fault.Cause.TheVariants as cause
use Rattle.smx_text.specs.ProgramLines as line
use Rattle.smx_text.specs.ProgramsText.{FitsLine, IsAllowed, body, line_words}
use Rattle.smx_text.specs.WorkedFaults.{AreWrongPrograms, with_line_4}
use Rattle.smx_text.proofs.LineWordLemmas.{first_word, other_first}
use Rattle.smx_text.proofs.ProgramsGrammarLemmas.{versions}
use Rattle.smx_text.proofs.WorkedFaultLemmas.{later_line, wrong_words}

-- ---- line 4 of a text

-- the driver `ip`, a multiplexer of four minors
abbrev pub ip : DriverSpec
ip = record { name = codes "ip"; kind = kind.Mux; minors = 4; high = 8; low = 3; max = 16 }

-- the programs before line 4: one driver, and one process without commands
abbrev pub before : ProgramLists
before = program_lists (ip ∷ []) ([] ∷ [])

-- the programs before line 4 are allowed in version 1
pub before_allowed : IsAllowed V1 before
before_allowed = search (rules, arith)

-- these are the words of no line that fits version 1
abbrev AreNone : List (List ℕ) → Type 0
AreNone ws = (k : Line) → FitsLine V1 k → ws ≢ line_words k

-- words of no line give line 4 the fault `Form`
wrong_at_4 : (ws : List (List ℕ)) → AllByRecursion (IsFree SPACE) ws × (0 < length ws) × IsOneLine (line_of ws)
    → AreNone ws → AreWrongPrograms (with_line_4 (line_of ws)) 4 cause.Form
unfolding digits
wrong_at_4 ws plain none =
    wrong_words versions V1 (body before) ws (codes "end\n") (before, [], before_allowed, refl) plain none

-- words that start no other line, and that do not spell the command guessed from them, give line 4 the fault `Form`
pub misspelled : (ws : List (List ℕ)) → AllByRecursion (IsFree SPACE) ws × (0 < length ws) × IsOneLine (line_of ws)
    → bytes_eq (line_of ws) (line_of (command_words (command_has_words.guess (words_in (line_of ws))))) ≡ false
    → (bytes_eq (first_word ws) (codes "driver") ≡ false) × (bytes_eq (first_word ws) (codes "process") ≡ false)
    × (bytes_eq (first_word ws) (codes "end") ≡ false) → AreWrongPrograms (with_line_4 (line_of ws)) 4 cause.Form
misspelled ws plain wrong other = wrong_at_4 ws plain none where
  none : AreNone ws
  none (line.Command c) fits e =
      refused (by_line command_has_words some_command) (line_of ws) wrong c fits.0 (ap line_of e)
  none (line.Driver d) fits e = other_first _ _ other.0 e
  none (line.Process n) fits e = other_first _ _ other.1 e
  none line.End fits e = other_first _ _ other.2 e

-- ---- a command of version 2 only

-- a line that fits version 1 fits version 2
first_too : (k : Line) → FitsLine V1 k → FitsLine V2 k × (line_of (line_words k) ≡ line_of (line_words k))
first_too (line.Command c) fits = ((fits.0, tt), refl)
first_too k fits = (fits, refl)

-- version 1 has no hangup
pub hangup : AreWrongPrograms (with_line_4 (codes "hangup ip 0")) 4 cause.Form
unfolding digits
hangup =
    later_line versions first_too (body before) (line.Command (command.Hangup (codes "ip") 0)) (codes "end\n")
    (before, [], before_allowed, refl) (search (rules, arith)) (λ fits. absurd (cc fits.1))
