-- Worked codes, texts and words, typed in by hand.
use Rattle.std.specs.Prelude.{◌≡◌, ℕ, List, [], ◌∷◌, map, Ok, Err, codes, pos, refl}
use Rattle.std.specs.Fmt.{digits}
use Rattle.smx_config.specs.declared.config_fault.ConfigFault.TheVariants as config
use Rattle.smx_session.specs.FaultWords.{start_fault_words}
use Rattle.smx_session.specs.declared.faults.EntryFault.TheVariants as entry
use Rattle.smx_session.specs.declared.faults.LineFault.TheVariants as line
use Rattle.smx_session.specs.declared.faults.StartFault.TheVariants as start
use Rattle.smx_text.specs.declared.text_fault.Cause.TheVariants as cause
use Rattle.smx_types.specs.declared.driver.SpecFault.TheVariants.{BadMarks}
use Rattle.muxsim_c.specs.Codes.{code, fault_of_entry, fault_of_line, fault_of_start}
use Rattle.muxsim_c.specs.declared.call_fault.CallFault.TheVariants.{NoMemory, Text, Drivers, Line, NoEntry}
use Rattle.muxsim_c.specs.declared.call_fault.CallFault.TheVariants.{NoRoom, Closed, IsOpen}

-- the codes of `include/muxsim.h`, in its order
pub codes_of_the_header : map code (Ok tt ∷ Err NoMemory ∷ Err Text ∷ Err Drivers ∷ Err Line ∷ Err NoEntry ∷ Err NoRoom
    ∷ Err Closed ∷ Err IsOpen ∷ [])
    ≡ pos 0 ∷ pos 1 ∷ pos 2 ∷ pos 3 ∷ pos 4 ∷ pos 5 ∷ pos 6 ∷ pos 7 ∷ pos 8 ∷ []
codes_of_the_header = refl

-- the faults that C gets for those of a line
pub line_faults_are_reported : map fault_of_line (line.NoMemory ∷ line.NoCommand ∷ []) ≡ NoMemory ∷ Line ∷ []
line_faults_are_reported = refl

-- the faults that C gets for those of an entry
pub entry_faults_are_reported : map fault_of_entry (entry.NoMemory ∷ entry.NoEntry ∷ []) ≡ NoMemory ∷ NoEntry ∷ []
entry_faults_are_reported = refl

-- the fault that C gets if memory runs out for a session
pub start_is_reported : fault_of_start start.NoMemory ≡ NoMemory
start_is_reported = refl

-- a command before the first process
abbrev pub without_a_process : List ℕ
without_a_process = codes "programs 1\nclone ip\nend\n"

-- a driver whose two water marks are equal
abbrev pub without_marks : List ℕ
without_marks = codes "programs 1\ndriver ip mux 4 8 8 16\nend\n"

-- the words of their faults
pub words_without_a_process : start_fault_words (start.Text (record { line = 2; cause = cause.Form }))
    ≡ codes "line 2: form"
unfolding digits
words_without_a_process = refl

pub words_without_marks : start_fault_words (start.Drivers (config.BadSpec 0 BadMarks)) ≡ codes "driver 0 marks"
unfolding digits
words_without_marks = refl
