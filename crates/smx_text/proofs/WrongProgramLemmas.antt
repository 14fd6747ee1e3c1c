-- Programs texts with a misplaced line, a missing line, or a line over the limit.
use Rattle.smx_text.proofs.Common.{map, suc, refl, sym, arith, rules, inl, AllByRecursion, append-nil, ProgramLists}
use Rattle.smx_text.proofs.Common.{DriverSpec, most_drivers, Version, V1, V2, FitsDriver, IsBegun, programs_grammar}
use Rattle.std.proofs.Common.{length, ◌≤◌, ℕ, zero, List, [], ◌∷◌, ◌++◌}
use Rattle.std.specs.Fmt.{digits}
use Rattle.std.specs.Prelude.{codes}
use Rattle.smx_types.specs.ProgramLists.{program_lists}
use Rattle.smx_types.specs.declared.command.Command.TheVariants as command
use Rattle.smx_types.specs.declared.driver.DriverKind.TheVariants as kind
use Rattle.smx_text.specs.declared.text_fault.Cause.TheVariants as cause
use Rattle.smx_text.specs.ProgramLines as line
use Rattle.smx_text.specs.ProgramsText.{FitsLine, IsAllowed, body}
use Rattle.smx_text.specs.WorkedFaults.{AreWrongPrograms, with_drivers, with_line_4, with_processes}
use Rattle.smx_text.proofs.EachLemmas.{all_map, all_push}
use Rattle.smx_text.proofs.MachineLemmas.{nothing_begun}
use Rattle.smx_text.proofs.ProgramsGrammarLemmas.{versions}
use Rattle.smx_text.proofs.ProgramsMachineLemmas.{reader, stands}
use Rattle.smx_text.proofs.WorkedFaultLemmas.{cut_text, misplaced_line, one_too_many, wrong_first, wrong_text}
use Rattle.smx_text.proofs.WrongCommandLemmas.{before, before_allowed, ip}

-- ---- the header, and nothing after it

-- an empty text is cut at line 1
pub nothing : AreWrongPrograms [] 1 cause.Cut
nothing = wrong_text versions V1 refl ([], [], inl (refl, refl), tt, refl)

-- a header without its line feed is cut
pub cut_header : AreWrongPrograms (codes "programs 1") 1 cause.Cut
cut_header = wrong_text versions V1 refl ([], codes "programs 1", inl (refl, refl), search rules, refl)

-- programs of version 3 have a wrong header
pub version_3 : AreWrongPrograms (codes "programs 3\n") 1 cause.Header
version_3 = wrong_first versions (codes "programs 3") [] (search rules) refl refl

-- a header of version 1 with nothing after it is cut at line 2
pub header_alone : AreWrongPrograms (codes "programs 1\n") 2 cause.Cut
header_alone = cut_text versions V1 [] [] (nothing_begun (reader V1)) tt

-- a header of version 2 with nothing after it is cut at line 2
pub version_2_alone : AreWrongPrograms (codes "programs 2\n") 2 cause.Cut
version_2_alone = cut_text versions V2 [] [] (nothing_begun (reader V2)) tt

-- ---- misplaced lines

-- a leaf driver, `eth`
abbrev eth : DriverSpec
eth = record { name = codes "eth"; kind = kind.Leaf; minors = 2; high = 8; low = 3; max = 16 }

-- the lines of allowed programs are a prefix of themselves
begun_by : (v : ProgramLists) → IsAllowed v.version v → IsBegun (programs_grammar v.version) (body v)
begun_by v allowed = (v, [], allowed, sym (append-nil (body v)))

-- after process 0 comes process 1, not 2
pub out_of_turn : AreWrongPrograms (with_line_4 (codes "process 2")) 4 cause.Form
unfolding digits
out_of_turn =
    misplaced_line versions V1 (stands before) (begun_by before before_allowed) (line.Process 2) (omega arith)
    (codes "end\n") refl

-- no driver comes after a process
pub late_driver : AreWrongPrograms (with_line_4 (codes "driver eth leaf 2 8 3 16")) 4 cause.Form
unfolding digits
late_driver =
    misplaced_line versions V1 (stands before) (begun_by before before_allowed) (line.Driver eth) (search rules)
    (codes "end\n") refl

-- no command comes before the first process
pub no_process : AreWrongPrograms (codes "programs 1\nclone ip\nend\n") 2 cause.Form
no_process =
    misplaced_line versions V1 (stands (program_lists [] [])) (nothing_begun (reader V1))
    (line.Command (command.OpenClone (codes "ip"))) (search rules) (codes "end\n") refl

-- ---- the end

-- programs with one driver and one process with one command
abbrev one_command : ProgramLists
one_command = program_lists before.drivers ((command.OpenClone (codes "ip") ∷ []) ∷ [])

-- programs with no driver and one process without commands
abbrev no_command : ProgramLists
no_command = program_lists [] ([] ∷ [])

-- programs without the line `end` are cut at the line after their last one
pub no_end : AreWrongPrograms (codes "programs 1\ndriver ip mux 4 8 3 16\nprocess 0\nclone ip\n") 5 cause.Cut
unfolding digits
no_end = cut_text versions V1 (body one_command) [] (begun_by one_command (search (rules, arith))) tt

-- a last line without its line feed is cut
pub cut_line : AreWrongPrograms (codes "programs 1\ndriver ip mux 4 8 3 16\nprocess 0\nclone ip") 4 cause.Cut
unfolding digits
cut_line = cut_text versions V1 (body before) (codes "clone ip") (begun_by before before_allowed) (search rules)

-- nothing follows the end, not even a space
pub a_space_behind : AreWrongPrograms (codes "programs 1\nprocess 0\nend\n ") 4 cause.Trailing
unfolding digits
a_space_behind = wrong_text versions V1 refl (no_command, 32, [], search (rules, arith), refl, refl)

-- ---- one line over a limit

-- a list of n elements, all equal to x
abbrev pub repeated : {X : Type 0} → X → ℕ → List X
repeated x zero = []
repeated x (suc n) = repeated x n ++ x ∷ []

-- a property of an element holds of each element in a list that repeats it
pub all_same : {X : Type 0} (P : X → Type 0) (x : X) (n : ℕ) → P x → AllByRecursion P (repeated x n)
all_same P x zero h = tt
all_same P x (suc n) h = all_push P (repeated x n) x (all_same P x n h) h

-- programs of version 1 with one driver and 64 processes without commands
abbrev processes : ProgramLists
processes = program_lists before.drivers (repeated [] 64)

-- a 65th process is over the limit
pub process_65 : AreWrongPrograms (with_processes 65) 67 cause.Many
unfolding digits
process_65 =
    one_too_many versions V1 (stands processes) (begun_by processes (search (rules, arith))) (line.Process 64)
    (omega arith) (codes "end\n") refl refl

-- the driver `ip` can be spelled
pub ip_fits : FitsDriver ip
ip_fits = search (rules, arith)

-- programs of a version with the driver `ip` n times, and no process
abbrev drivers : Version → ℕ → ProgramLists
drivers version n = record { version = version; drivers = repeated ip n; programs = [] }

-- programs with the driver `ip` at most as often as a version allows are allowed in it
drivers_begun : (version : Version) (n : ℕ) → length (drivers version n).drivers ≤ most_drivers version
    → IsBegun (programs_grammar version) (body (drivers version n))
drivers_begun version n few = (
  drivers version n,
  [],
  record {
    version_is = refl;
    drivers = few;
    programs = omega arith;
    commands = omega arith;
    fits = rw (append-nil (map line.Driver (repeated ip n)))
        (all_map (FitsLine version) line.Driver (repeated ip n) (all_same FitsDriver ip n ip_fits));
  },
  sym (append-nil (body (drivers version n))),
)

-- in programs of version 1, a 65th driver is over the limit
pub driver_65 : AreWrongPrograms (with_drivers (codes "programs 1\n") 65) 66 cause.Many
unfolding digits
driver_65 =
    one_too_many versions V1 (stands (drivers V1 64)) (drivers_begun V1 64 (omega arith)) (line.Driver ip) ip_fits
    (codes "end\n") refl refl

-- in programs of version 2, a 129th driver is over the limit
pub driver_129 : AreWrongPrograms (with_drivers (codes "programs 2\n") 129) 130 cause.Many
unfolding digits
driver_129 =
    one_too_many versions V2 (stands (drivers V2 128)) (drivers_begun V2 128 (omega arith)) (line.Driver ip) ip_fits
    (codes "end\n") refl refl
