-- A worked live session: what it reads and writes, and its answers, typed in by hand.
use Rattle.std.specs.Prelude.{◌≡◌, ℕ, Bool, true, false, List, [], ◌∷◌, ◌++◌, codes, map, refl}
use Rattle.std.specs.List.{list_all, list_any}
use Rattle.std.specs.Fmt.{digits}
use Rattle.smx_model.specs.Views.{view}
use Rattle.smx_model.specs.Worked.Common.{Fd, OpenClone, ◌does◌gets◌, eth}
use Rattle.smx_session.specs.WorkedSessions.{begun, drivers, hung, one_open}
use Rattle.smx_live.specs.LiveText.{closing_text, cut_words}
use Rattle.smx_live.specs.Tables.{begins_driver, table_text}
use Rattle.smx_live.specs.Turns.{Entered, NotDone, Shown, Turn, answer_text, fault_line, traced_changes}
use Rattle.smx_live.specs.declared.talk.TurnFault.TheVariants.{NoCommand, NoMemory, Full}

-- the table of a worked session
abbrev pub worked_table : List ℕ
worked_table = codes "programs 2\ndriver eth leaf 2 8 3 16\n"

-- what is below the answer to the line `x`, if lines are explained or not
abbrev pub worked_below : Bool → List ℕ
worked_below true = codes "  column 1: 'show', 'trace', 'end', or a process from 0 to 63 is wanted\n"
worked_below false = []

-- a command, an empty line, and a line that is not a command, with their answers
abbrev pub worked_turns : Bool → List Turn
worked_turns explain =
    record { line = codes "3 clone eth"; answer = Entered (3 does OpenClone eth gets Fd 0 0); below = [] }
    ∷ record { line = []; answer = Shown (view drivers one_open); below = [] }
    ∷ record { line = codes "x"; answer = NotDone NoCommand; below = worked_below explain } ∷ []

-- what is read; the session ends before the last line
abbrev pub worked_input : List ℕ
worked_input = codes "programs 2\ndriver eth leaf 2 8 3 16\n3 clone eth\n\nx\nend\n3 exit\n"

-- the first line after the table
abbrev pub worked_line : List ℕ
worked_line = codes "3 clone eth\n"

-- what is written before any answer
abbrev pub worked_opening : List ℕ
worked_opening = codes "transcript 2\ndriver eth leaf 2 8 3 16\n"

-- what is written up to the line `end`
abbrev pub worked_answers : Bool → List ℕ
worked_answers explain =
    codes "transcript 2\ndriver eth leaf 2 8 3 16\n3 clone eth = fd 0 0\n"
    ++ codes "config\nnext 1 1\nfd 3 0 eth 0\nshown\n? no command\n" ++ worked_below explain

-- everything that is written
abbrev pub worked_output : Bool → List ℕ
worked_output explain = worked_answers explain ++ codes "config\nnext 1 1\nfd 3 0 eth 0\nend\n"

-- programs whose only driver has no minor, so it is not valid
abbrev pub minorless_text : List ℕ
minorless_text = codes "programs 2\ndriver eth leaf 0 8 3 16\nend\n"

-- the answer to a clone is the line of its entry
pub entry_shown : answer_text (Entered (3 does OpenClone eth gets Fd 0 0)) ≡ codes "3 clone eth = fd 0 0\n"
unfolding digits
entry_shown = refl

-- the answer to an empty line is the configuration, followed by `shown`
pub view_shown : answer_text (Shown (view drivers hung.configuration))
    ≡ codes "config\nnext 1 1\nfd 3 0 eth 0\nhung eth 0\nshown\n"
unfolding digits
view_shown = refl

-- the changes of a clone, as they are below its entry if entries are traced
pub changes_shown : traced_changes true drivers begun.configuration one_open ≡ codes "  + fd 3 0 eth 0\n"
unfolding digits
changes_shown = refl

-- the last lines of a session without an entry
pub end_shown : closing_text begun ≡ codes "config\nnext 1 1\nend\n"
unfolding digits
end_shown = refl

-- the words in which a line is refused
pub refusals_shown : map fault_line (NoCommand ∷ NoMemory ∷ Full ∷ [])
    ≡ codes "? no command\n" ∷ codes "? no memory\n" ∷ codes "? history full\n" ∷ []
refusals_shown = refl

-- the answer to a last line without a line feed; there is none if there is no such line
pub cuts_shown : map cut_words (codes "en" ∷ [] ∷ []) ≡ codes "? cut\n" ∷ [] ∷ []
cuts_shown = refl

-- the text of a table ends with the line `end`, if the table has a line and its last line is whole
pub tables_end : map table_text (worked_table ∷ codes "programs 2\n" ∷ codes "programs 2\ndriver eth" ∷ [] ∷ [])
    ≡ codes "programs 2\ndriver eth leaf 2 8 3 16\nend\n" ∷ codes "programs 2\nend\n"
    ∷ codes "programs 2\ndriver eth" ∷ [] ∷ []
tables_end = refl

-- `driver` alone begins like a driver line, and so does a line that begins with a longer word
pub driver_lines : list_all begins_driver (codes "driver" ∷ codes "drivers of none" ∷ []) ≡ true
driver_lines = refl

-- but not one that begins with a shorter word, or with a space before the word
pub other_lines : list_any begins_driver (codes "drive eth" ∷ codes " driver eth" ∷ []) ≡ false
other_lines = refl
