-- The programs of two processes, their report, and the parts of reports that are each wrong in one thing.
use Rattle.std.specs.Prelude.{List, [], ◌∷◌}
use Rattle.smx_types.specs.ProgramLists.{ProgramLists}
use Rattle.smx_types.specs.declared.transcript.Transcript.{Transcript}
use Rattle.smx_types.specs.declared.version.Version.TheVariants.{V1}
use Rattle.smx_model.specs.Worked.Common.{OpenClone, Dup, CloseAll, Fd, Done, Fault, BadDescriptor, Entry, ConfigView}
use Rattle.smx_model.specs.Worked.Common.{DriverSpec, ◌does◌gets◌, ip, mux, no_lines, fd_of}

abbrev pub drivers : List DriverSpec
drivers = mux ip 4 ∷ []

-- process 0 opens a stream and duplicates its descriptor; process 1 exits
abbrev pub programs : ProgramLists
programs = record { version = V1; drivers = drivers; programs = (OpenClone ip ∷ Dup 0 ∷ []) ∷ (CloseAll ∷ []) ∷ [] }

abbrev pub opened : Entry
opened = 0 does OpenClone ip gets Fd 0 0

abbrev pub copied : Entry
copied = 0 does Dup 0 gets Fd 1 0

-- the duplication before the open, and a second duplication
abbrev pub too_early : Entry
too_early = 0 does Dup 0 gets Fault BadDescriptor

abbrev pub once_more : Entry
once_more = 0 does Dup 0 gets Fd 2 0

abbrev pub exited : Entry
exited = 1 does CloseAll gets Done []

-- an exit of a process without a program
abbrev pub another_exited : Entry
another_exited = 7 does CloseAll gets Done []

-- the views with one, two and three descriptors
abbrev pub one : ConfigView
one = record (no_lines 1 1) { fds = fd_of 0 0 ip 0 ∷ [] }

abbrev pub two : ConfigView
two = record (no_lines 1 1) { fds = fd_of 0 0 ip 0 ∷ fd_of 0 1 ip 0 ∷ [] }

abbrev pub three : ConfigView
three = record (no_lines 1 1) { fds = fd_of 0 0 ip 0 ∷ fd_of 0 1 ip 0 ∷ fd_of 0 2 ip 0 ∷ [] }

abbrev pub report_with : List Entry → ConfigView → Transcript
report_with entries v = record { version = V1; drivers = drivers; entries = entries; view = v }
