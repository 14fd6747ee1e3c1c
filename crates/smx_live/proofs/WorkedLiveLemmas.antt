-- The worked live session, and tables like its own.
use Rattle.smx_live.proofs.Common.{◌≡◌, ℕ, Bool, true, false, List, [], ◌∷◌, ◌++◌, map, refl, inl, arith, rules}
use Rattle.smx_live.proofs.Common.{length-append, codes, ProgramLists, V2, eth, Spells, BeginsTranscript}
use Rattle.smx_live.proofs.Common.{programs_grammar, call_words, line_of, IsExplanationOf, IsStartOf, HasLine, IsLive}
use Rattle.smx_live.proofs.Common.{IsOver, AreOfTable, IsTable, table_text, IsEntryOf, worked_table}
use Rattle.std.specs.Fmt.{digits}
use Rattle.smx_model.specs.Worked.Common.{Fd, OpenClone, ◌does◌gets◌, leaf}
use Rattle.smx_text.specs.Grammar.{beginning}
use Rattle.smx_text.specs.TranscriptLines as line
use Rattle.smx_text.specs.TranscriptText.{transcript_grammar}
use Rattle.smx_session.specs.WorkedSessions.{begun, drivers, opened, table}
use Rattle.smx_live.specs.LiveText.{closing_text}
use Rattle.smx_live.specs.Turns.{IsExplained, said_text}
use Rattle.smx_live.specs.WorkedLives.{worked_answers, worked_below, worked_input, worked_output, minorless_text}
use Rattle.smx_live.specs.WorkedLives.{worked_turns}
use Rattle.smx_live.proofs.AskedLineLemmas.{neither, no_call_line}
use Rattle.smx_live.proofs.TableLemmas.{over_at_a_line}

-- ---- tables

-- the header alone is a line of a table
pub header_lines : AreOfTable (codes "programs 2" ∷ []) []
header_lines = record { each = search (rules, arith); drivers = tt; last = inl refl }

-- the worked table has two lines
pub worked_lines : AreOfTable (codes "programs 2" ∷ codes "driver eth leaf 2 8 3 16" ∷ []) []
worked_lines = record { each = search (rules, arith); drivers = (refl, tt); last = inl refl }

-- a second line may begin with a longer word than `driver`
pub drivers_lines : AreOfTable (codes "programs 2" ∷ codes "drivers" ∷ []) []
drivers_lines = record { each = search (rules, arith); drivers = (refl, tt); last = inl refl }

-- the worked table has ended if `3 clone eth` follows it
pub worked_over : (more : List ℕ) → IsTable false worked_table (codes "3 clone eth\n" ++ more)
worked_over more =
    let line : HasLine 11 (codes "3 clone eth\n" ++ more) = record {
      within = omega (arith, length-append (codes "3 clone eth\n") more);
      one = search (rules, arith);
      parts = refl;
    } in
    over_at_a_line worked_table _ (codes "3 clone eth\n" ++ more) refl worked_lines false 11 line (search arith)
    (λ none. absurd (cc none)) refl

-- a table of the header only has ended if `show` follows it
pub header_alone : IsTable false (codes "programs 2\n") (codes "show\nend\n")
header_alone = over_at_a_line (codes "programs 2\n") _ (codes "show\nend\n") refl header_lines false 4
    (record { within = search arith; one = search (rules, arith); parts = refl })
    (search arith) (λ none. absurd (cc none)) refl

-- a line `drivers` belongs to the table, and a line `drive` does not
pub behind_drivers : IsTable false (codes "programs 2\ndrivers\n") (codes "drive\n")
behind_drivers = over_at_a_line (codes "programs 2\ndrivers\n") _ (codes "drive\n") refl drivers_lines false 5
    (record { within = search arith; one = search (rules, arith); parts = refl })
    (search arith) (λ none. absurd (cc none)) refl

-- ---- programs with one driver

-- programs with one driver that has `minors` minors
abbrev pub of_one : ℕ → ProgramLists
of_one minors = record { version = V2; drivers = leaf eth minors ∷ []; programs = [] }

-- the text of a driver without minors spells programs with that one driver
pub minorless : Spells (programs_grammar V2) minorless_text (of_one 0)
unfolding digits
minorless = record { allowed = search (rules, arith); text = refl }

-- the worked table spells programs with one driver that has two minors
pub worked : Spells (programs_grammar V2) (table_text worked_table) (of_one 2)
unfolding digits
worked = record { allowed = search (rules, arith); text = refl }

-- ---- the session

-- `3 clone eth` is the line of a clone by process 3
clone_line : codes "3 clone eth" ≡ line_of (call_words (3, OpenClone eth))
unfolding digits
clone_line = refl

-- the line `3 clone eth` is that of the entry of a clone by process 3, with the model's reply
pub cloned : IsEntryOf V2 drivers [] (codes "3 clone eth") (3 does OpenClone eth gets Fd 0 0)
cloned = record {
  in_version = search (rules, arith);
  is_read = clone_line;
  legal = refl;
  spelled = search (rules, arith);
  room = search arith;
}

-- the first two lines that the worked session writes are the beginning of its transcript
pub opening_is : codes "transcript 2\ndriver eth leaf 2 8 3 16\n"
    ≡ beginning (transcript_grammar V2) (map line.Driver drivers ++ map line.Entry [])
unfolding digits
opening_is = refl

-- they are the beginning of a transcript
pub begins : BeginsTranscript V2 drivers [] (codes "transcript 2\ndriver eth leaf 2 8 3 16\n")
begins = record { written = opening_is; drivers_fit = search (rules, arith); entries_fit = tt }

-- the worked answers are the opening and the answers of the worked turns
said_is : (explain : Bool)
    → worked_answers explain ≡ codes "transcript 2\ndriver eth leaf 2 8 3 16\n" ++ said_text (worked_turns explain)
unfolding digits
said_is true = refl
said_is false = refl

-- the worked output is the worked answers, followed by the last lines of the transcript
whole_is : (explain : Bool) → worked_output explain ≡ worked_answers explain ++ ([] ++ closing_text opened)
unfolding digits
whole_is true = refl
whole_is false = refl

-- below the line `x` is its explanation, if lines are explained
explained : IsExplanationOf V2 (codes "x") (worked_below true) → (explain : Bool)
    → IsExplained explain V2 (codes "x") (worked_below explain)
explained told true = told
explained told false = refl

-- the worked session after its answers, with its line `end` still buffered
pub answered : IsStartOf table begun → IsExplanationOf V2 (codes "x") (worked_below true) → (explain : Bool)
    → IsLive explain worked_input false (worked_answers explain) opened (record { entries = 1; tracing = false })
    (codes "end\n3 exit\n")
answered start told explain = record {
  table = worked_table;
  turns = worked_turns explain;
  read_is = refl;
  over = worked_over (codes "\nx\nend\n3 exit\n");
  fits = search arith;
  programs = start.programs;
  spelled = start.spelled;
  drivers = start.drivers;
  valid_drivers = start.valid_drivers;
  answered = (
    (search (rules, arith), search arith),
    cloned,
    (
      (tt, search arith),
      (inl refl, refl),
      (
        (search (rules, arith), search arith),
        (neither (codes "x") refl refl, no_call_line V2 (codes "x") refl, search arith),
        tt,
      ),
    ),
  );
  few = search arith;
  followed = (refl, (refl, (explained told explain, tt)));
  tracing = refl;
  opening = codes "transcript 2\ndriver eth leaf 2 8 3 16\n";
  begins = begins;
  written = said_is explain;
  now = refl;
  counted = refl;
}

-- the worked session has ended, and its output is the worked one
pub over : IsStartOf table begun → IsExplanationOf V2 (codes "x") (worked_below true) → (explain : Bool)
    → IsOver explain worked_input false (worked_output explain)
over start told explain = record {
  before = worked_answers explain;
  s = opened;
  far = record { entries = 1; tracing = false };
  held = codes "end\n3 exit\n";
  live = answered start told explain;
  words = [];
  at_end = inl (codes "3 exit\n", refl, refl);
  written = whole_is explain;
  spellable = search (rules, arith);
}
