-- The codes that C gets.
use Rattle.std.specs.Prelude.{Result, Ok, Err, ℤ, pos}
use Rattle.smx_session.specs.declared.faults.EntryFault.{EntryFault}
use Rattle.smx_session.specs.declared.faults.EntryFault.TheVariants as entry
use Rattle.smx_session.specs.declared.faults.LineFault.{LineFault}
use Rattle.smx_session.specs.declared.faults.LineFault.TheVariants as line
use Rattle.smx_session.specs.declared.faults.StartFault.{StartFault}
use Rattle.smx_session.specs.declared.faults.StartFault.TheVariants as start
use Rattle.muxsim_c.specs.declared.call_fault.CallFault.{CallFault}
use Rattle.muxsim_c.specs.declared.call_fault.CallFault.TheVariants.{NoMemory, Text, Drivers, Line, NoEntry}
use Rattle.muxsim_c.specs.declared.call_fault.CallFault.TheVariants.{NoRoom, Closed, IsOpen}

-- success, or why nothing was done
abbrev pub Outcome : Type 0
Outcome = Result (Unit {0}) CallFault

-- the code of an outcome
abbrev pub code : Outcome → ℤ
code (Ok _) = pos 0
code (Err NoMemory) = pos 1
code (Err Text) = pos 2
code (Err Drivers) = pos 3
code (Err Line) = pos 4
code (Err NoEntry) = pos 5
code (Err NoRoom) = pos 6
code (Err Closed) = pos 7
code (Err IsOpen) = pos 8

-- the fault that C gets if no session starts
abbrev pub fault_of_start : StartFault → CallFault
fault_of_start start.NoMemory = NoMemory
fault_of_start (start.Text fault) = Text
fault_of_start (start.Drivers fault) = Drivers

-- the fault that C gets if a line is not performed
abbrev pub fault_of_line : LineFault → CallFault
fault_of_line line.NoMemory = NoMemory
fault_of_line line.NoCommand = Line

-- the fault that C gets if no entry is written
abbrev pub fault_of_entry : EntryFault → CallFault
fault_of_entry entry.NoMemory = NoMemory
fault_of_entry entry.NoEntry = NoEntry
