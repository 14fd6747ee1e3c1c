-- A programs text is read by a machine that accepts one line after another.
use Rattle.smx_text.proofs.Common.{◌≢◌, ◌+◌, ◌-◌, get_or, refl, sym, ap, subst, append_assoc, arith, rules, set}
use Rattle.smx_text.proofs.Common.{nat_tests, append-nil, length-append, nil_from_length, ProgramLists}
use Rattle.smx_text.proofs.Common.{AreWithinLimits, most_drivers, Command, DriverSpec, MAX_COMMANDS, Version, V1, V2}
use Rattle.smx_text.proofs.Common.{IsBegun, Line, program_lines, programs_grammar}
use Rattle.std.proofs.Common.{◌≡◌, ◌≤◌, ◌==◌, Bool, true, false, nat_le, nat_lt, List, [], ◌∷◌, ◌++◌, length}
use Rattle.std.specs.List.{sum_by}
use Rattle.std.proofs.Math.Seq.{get_or-append_seam, set-append_seam}
use Rattle.std.proofs.lemmas.List.{length-set, map_push}
use Rattle.std.proofs.lemmas.List.Sums.{sum_by-append, sum_by-set}
use Rattle.smx_types.specs.declared.limits.TheConstants.{MAX_DRIVERS, MAX_PROCESSES}
use Rattle.smx_text.specs.ProgramLines as line
use Rattle.smx_text.specs.ProgramsText.{body, IsAllowed}
use Rattle.smx_text.proofs.BodyLemmas.{added_process, lines_more}
use Rattle.smx_text.proofs.MachineLemmas.{Machine, IsReader, IsAt, Leads, group, finished}
use Rattle.smx_text.proofs.ProgramsVersionLemmas.{least_is_first}

-- a driver before any process, a process with the next number, a command after a process, or the end
abbrev pub takes : ProgramLists → Line → Bool
takes v (line.Driver d) = length v.programs == 0
takes v (line.Process number) = number == length v.programs
takes v (line.Command c) = nat_lt 0 (length v.programs)
takes v line.End = true

-- the programs have as many drivers, processes or commands as their version allows, and the line is one more
abbrev pub is_full : ProgramLists → Line → Bool
is_full v (line.Driver d) = nat_le (most_drivers v.version) (length v.drivers)
is_full v (line.Process number) = nat_le MAX_PROCESSES (length v.programs)
is_full v (line.Command c) = nat_le MAX_COMMANDS (sum_by length v.programs)
is_full v line.End = false

-- the programs with one more driver, one more process without commands, or one more command of the last process
abbrev pub with_line : ProgramLists → Line → ProgramLists
with_line v (line.Driver d) = record v { drivers = v.drivers ++ d ∷ [] }
with_line v (line.Process number) = record v { programs = v.programs ++ [] ∷ [] }
with_line v (line.Command c) =
    record v {
      programs = set v.programs (length v.programs - 1) (get_or v.programs (length v.programs - 1) [] ++ c ∷ []);
    }
with_line v line.End = v

-- the programs have this version, and at most as many drivers, processes and commands as allowed
pub record AreWithin (version : Version) (v : ProgramLists) : Type 0 where
  pub version_is : v.version ≡ version
  pub drivers : length v.drivers ≤ most_drivers version
  pub programs : length v.programs ≤ MAX_PROCESSES
  pub commands : sum_by length v.programs ≤ MAX_COMMANDS

-- the machine that reads programs of a version
abbrev pub machine : Version → Machine ProgramLists Line ProgramLists
machine version = record {
  start = record { version = version; drivers = []; programs = [] };
  lines = body;
  takes = takes;
  is_full = is_full;
  with_line = with_line;
  IsWithin = AreWithin version;
  whole = λ v. record v { version = version };
  shortest = λ v. v;
  still = λ v. [];
}

-- if a line may follow and is not the end, the programs with it have the same lines and then this one
body_more : (v : ProgramLists) (k : Line) → takes v k ≡ true → k ≢ line.End
    → body (with_line v k) ≡ body v ++ k ∷ []
body_more v (line.Driver d) h other = search (rules, nil_from_length, nat_tests, map_push)
body_more v (line.Process n) h other = added_process v.drivers v.programs n (grind (arith, nat_tests))
body_more v (line.Command c) h other =
    rw (lines_more 0 v.programs [] c (grind (arith, nat_tests))) (simp append_assoc)
body_more v line.End h other = absurd (other refl)

-- programs that are within the limits with one more line were so before it, and the limit for it was not reached
before : (version : Version) (v : ProgramLists) (k : Line) → takes v k ≡ true → AreWithin version (with_line v k)
    → AreWithin version v × (is_full v k ≡ false)
before version v (line.Driver d) h w = grind (arith, length-append v.drivers (d ∷ []), nat_tests)
before version v (line.Process n) h w = grind (arith, length-append, sum_by-append, nat_tests)
before version v (line.Command c) h w = grind (arith, length-set, nat_tests, sum_by-set, length-append)
before version v line.End h w = (w, refl)

-- programs within the limits stay within them with one more line, if it may follow and its limit is not reached
behind : (version : Version) (v : ProgramLists) (k : Line) → takes v k ≡ true → is_full v k ≡ false
    → AreWithin version v → AreWithin version (with_line v k)
behind version v (line.Driver d) h room w = grind (arith, length-append v.drivers (d ∷ []), nat_tests)
behind version v (line.Process n) h room w = grind (arith, length-append, nat_tests, sum_by-append)
behind version v (line.Command c) h room w = grind (arith, length-set, nat_tests, sum_by-set, length-append)
behind version v line.End h room w = w

-- ---- the lines of programs lead to these programs

-- a command appended to the last program
last_seam : (ps : List (List Command)) (cs : List Command) (c : Command)
    → set (ps ++ cs ∷ []) (length (ps ++ cs ∷ []) - 1)
    (get_or (ps ++ cs ∷ []) (length (ps ++ cs ∷ []) - 1) [] ++ c ∷ []) ≡ ps ++ (cs ++ c ∷ []) ∷ []
last_seam ps cs c = grind (arith, length-append ps (cs ∷ []), get_or-append_seam ps cs, set-append_seam)

module _ (version : Version) (ds : List DriverSpec) where
  -- programs of this version with these drivers
  abbrev having : List (List Command) → ProgramLists
  having ps = record { version = version; drivers = ds; programs = ps }

  -- the lines of more programs append these programs
  leads_on : (ps qs : List (List Command)) → Leads (machine version) line.End (having ps)
      (program_lines (length ps) qs) (having (ps ++ qs))
  leads_on ps [] = (tt, ap having (sym (append-nil ps)))
  leads_on ps (q ∷ qs) =
      let long : length (ps ++ q ∷ []) ≡ length ps + 1 = omega (arith, length-append ps (q ∷ [])) in
      let later = rw (long, append_assoc) at (leads_on (ps ++ q ∷ []) qs) in
      let both = group (machine version) line.End line.Command (λ (cs : List Command). having (ps ++ cs ∷ []))
      (λ cs c. (some cs, (λ e. cc), ap having (last_seam ps cs c))) q _ _ later in
      ((grind (arith, nat_tests), (λ e. cc), both.0), both.1) where
        some : (cs : List Command) → nat_lt 0 (length (ps ++ cs ∷ [])) ≡ true
        some cs = let long = length-append ps (cs ∷ []) in grind (arith, nat_tests)

-- the lines of programs lead to these programs in the version of the machine
leads : (version : Version) (v : ProgramLists)
    → Leads (machine version) line.End (machine version).start (body v) ((machine version).whole v)
leads version v =
    group (machine version) line.End line.Driver
    (λ (ds : List DriverSpec). record { version = version; drivers = ds; programs = [] })
    (λ ds d. (refl, (λ e. cc), refl)) v.drivers _ _ (leads_on version v.drivers [] v.programs)

-- the machine reads the programs text
pub reader : (version : Version) → IsReader (programs_grammar version) (machine version)
reader version = grind (arith, body_more, before version, behind version, leads, leads version, append-nil)

-- the lines of programs lead the machine of their version to them
pub stands : (v : ProgramLists) → IsAt (programs_grammar v.version) (machine v.version) (body v) v
stands v = record { reader = reader v.version; comes = leads v.version v }

-- ---- limits

-- allowed programs are within the limits
pub allowed_within : (v : ProgramLists) → IsAllowed v.version v → AreWithinLimits v
allowed_within v own = record {
  drivers = few v.version own.drivers;
  programs = own.programs;
  commands = own.commands;
  version = λ first. least_is_first v (subst (λ (n : Version). IsAllowed n v) first own);
} where
  few : (version : Version) → length v.drivers ≤ most_drivers version → length v.drivers ≤ MAX_DRIVERS
  few V1 h = search rules
  few V2 h = h

-- programs whose lines are a prefix of allowed programs are within the limits
pub begun_within : (v : ProgramLists) → IsBegun (programs_grammar v.version) (body v) → AreWithinLimits v
begun_within v begun = allowed_within v (finished (stands v) begun refl).0
