-- Worked faults: texts that spell no value, and where they are invalid.
use Rattle.std.specs.Prelude.{ℕ, zero, suc, List, [], ◌++◌, codes, Err}
use Rattle.std.specs.Fmt.{decimal}
use Rattle.smx_types.specs.ProgramLists.{ProgramLists}
use Rattle.smx_types.specs.declared.transcript.Transcript.{Transcript}
use Rattle.smx_text.specs.declared.text_fault.Cause.{Cause}
use Rattle.smx_text.specs.Grammar.{ReadsAny}
use Rattle.smx_text.specs.ProgramsText.{SpellsPrograms, programs_grammar}
use Rattle.smx_text.specs.TranscriptText.{SpellsTranscript, transcript_grammar}

-- the first fault of these bytes has this line and this cause, and they spell no programs
abbrev pub AreWrongPrograms : List ℕ → ℕ → Cause → Type 0
AreWrongPrograms bytes line why =
    ReadsAny programs_grammar bytes (Err (record { line = line; cause = why }))
    × ((v : ProgramLists) → SpellsPrograms bytes v → ⊥)

-- the first fault of these bytes has this line and this cause, and they spell no transcript
abbrev pub IsWrongTranscript : List ℕ → ℕ → Cause → Type 0
IsWrongTranscript bytes line why =
    ReadsAny transcript_grammar bytes (Err (record { line = line; cause = why }))
    × ((t : Transcript) → SpellsTranscript bytes t → ⊥)

-- one driver, one process, and this line as line 4
abbrev pub with_line_4 : List ℕ → List ℕ
with_line_4 text = codes "programs 1\ndriver ip mux 4 8 3 16\nprocess 0\n" ++ (text ++ codes "\nend\n")

-- one driver, this line as line 3, and an empty view
abbrev pub with_line_3 : List ℕ → List ℕ
with_line_3 text = codes "transcript 1\ndriver ip mux 4 8 3 16\n" ++ (text ++ codes "\nconfig\nnext 1 1\nend\n")

-- one link, and this line as line 5
abbrev pub with_line_5 : List ℕ → List ℕ
with_line_5 text = codes "transcript 1\nconfig\nnext 2 1\nlink 1 ip 0 eth 0 plink\n" ++ (text ++ codes "\nend\n")

-- the lines of the first n processes
abbrev pub process_lines : ℕ → List ℕ
process_lines zero = []
process_lines (suc n) = process_lines n ++ (codes "process " ++ (decimal n ++ codes "\n"))

-- one driver, and n processes
abbrev pub with_processes : ℕ → List ℕ
with_processes n = codes "programs 1\ndriver ip mux 4 8 3 16\n" ++ (process_lines n ++ codes "end\n")

-- the same driver line, n times
abbrev pub driver_lines : ℕ → List ℕ
driver_lines zero = []
driver_lines (suc n) = driver_lines n ++ codes "driver ip mux 4 8 3 16\n"

-- this header, and n driver lines
abbrev pub with_drivers : List ℕ → ℕ → List ℕ
with_drivers first n = first ++ (driver_lines n ++ codes "end\n")
