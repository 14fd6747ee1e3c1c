-- The table of streams answers an open or a dup as the command table requires.
use Rattle.smx_tables.proofs.Common.{◌≡◌, ℕ, ◌<◌, Bool, true, false, not, List, [], ◌∷◌, length, map, Option, Some}
use Rattle.smx_tables.proofs.Common.{None, Err, refl, sym, ap, subst, ◌∙◌, arith, DriverSpec, StreamId, outcome}
use Rattle.smx_tables.proofs.Common.{Configuration, minors_of, Outcome, exists, is_below, TellsExisting, Machine}
use Rattle.std.proofs.Common.{zero, suc, find, Ok, inl, inr}
use Rattle.std.specs.Prelude.{IsOk, nat_le, slice_index}
use Rattle.std.specs.List.{range_with_len}
use Rattle.std.proofs.lemmas.Bool.Decides.{nat_tests}
use Rattle.std.specs.Option.{ok_or}
use Rattle.smx_types.specs.declared.command.Command.TheVariants as command
use Rattle.smx_types.specs.declared.reply.Fault.TheVariants.{NoMinor, TooManyDescriptors}
use Rattle.smx_types.specs.declared.reply.Reply.TheVariants.{Fd}
use Rattle.smx_model.specs.Commands.{with_fd}
use Rattle.smx_model.specs.Lookups.{driver_of, free_fd, free_minor}
use Rattle.smx_streams.specs.StreamTables.{Answer, StreamTable, IsRefused, is_in_range, clone_answer, minor_answer}
use Rattle.smx_streams.specs.StreamTables.{least_fd, least_minor, exists as is_there}
use Rattle.smx_streams.specs.declared.stream_fault.StreamFault.{StreamFault}
use Rattle.smx_tables.specs.declared.step_error.StepError.{StepError}
use Rattle.smx_tables.specs.declared.step_error.StepError.TheVariants as step_error
use Rattle.smx_tables.specs.Refinement.{HasOutcome}
use Rattle.smx_tables.specs.StepErrors.{of_stream_fault}

-- the outcome is refused with this fault; or it is accepted, and the error is out of memory
abbrev pub IsRefusedBy : Outcome → StepError → Type 0
IsRefusedBy o (step_error.Refused f) = o ≡ Err f
IsRefusedBy o step_error.NoMemory = IsOk o

-- if nothing has changed, and the outcome is refused with this fault, or the error is out of memory, `HasOutcome` holds
pub refused_by : (old new : Machine) (o : Outcome) (e : StepError) → new ≡ old → IsRefusedBy o e
    → HasOutcome old new o (Err e)
refused_by old new o (step_error.Refused f) same h = (same, h)
refused_by old new o step_error.NoMemory same h = (same, h)

-- the outcome agrees with the answer of the table of streams: one more descriptor, or the same refusal
abbrev pub Agrees : Configuration → ℕ → Answer → Outcome → Type 0
Agrees c process (Ok x) o = o ≡ Ok (with_fd c process x.0 x.1, Fd x.0 x.1.minor)
Agrees c process (Err f) o = IsRefusedBy o (of_stream_fault f)

-- if the table answers with a number and a stream, and the outcome agrees, the outcome is one more descriptor
pub agrees_ok : (c : Configuration) (process : ℕ) (a : Answer) (o : Outcome) (x : ℕ × StreamId) → Agrees c process a o
    → a ≡ Ok x → o ≡ Ok (with_fd c process x.0 x.1, Fd x.0 x.1.minor)
agrees_ok c process a o x h e = subst (λ (b : Answer). Agrees c process b o) e h

-- if the table answers with a descriptor, and the outcome agrees, the outcome is accepted
agrees_some : (c : Configuration) (process : ℕ) (a : Answer) (o : Outcome) → Agrees c process a o → IsOk a → IsOk o
agrees_some c process (Ok x) o h some = rw h refl
agrees_some c process (Err f) o h some = absurd cc

-- if the table refuses, and the outcome agrees, the outcome is refused with the same fault, or the table is out of
-- memory
pub agrees_err : (c : Configuration) (process : ℕ) (a : Answer) (o : Outcome) (f : StreamFault) → Agrees c process a o
    → IsRefused a f → IsRefusedBy o (of_stream_fault f)
agrees_err c process a o f h (inl e) = subst (λ (b : Answer). Agrees c process b o) e h
agrees_err c process a o f h (inr both) = grind (arith, agrees_some c process a o h both.1)

-- ---- the three commands

-- the list of the drivers' numbers of minors has each driver's number at the driver's index
minors_at : (drivers : List DriverSpec) (n : ℕ)
    → slice_index (map (λ (d : DriverSpec). d.minors) drivers) n ≡ minors_of drivers n
minors_at [] n = refl
minors_at (d ∷ ds) zero = refl
minors_at (d ∷ ds) (suc n) = minors_at ds n

-- two tests that agree on each number find the same number
find_same : (f g : ℕ → Bool) (ns : List ℕ) → ((n : ℕ) → f n ≡ g n) → find f ns ≡ find g ns
find_same f g [] h = refl
find_same f g (n ∷ ns) h = grind (arith, h n, find_same f g ns h)

-- if the table has exactly the streams that exist, its lowest free minor is the lowest whose stream doesn't exist
least_same : (drivers : List DriverSpec) (c : Configuration) (t : StreamTable) (n : ℕ)
    → t.minors ≡ map (λ d. d.minors) drivers → TellsExisting drivers c t
    → least_minor t n ≡ find (λ m. not (exists drivers c (record { driver = n; minor = m })))
    (range_with_len 0 (minors_of drivers n))
least_same drivers c t n minors told =
    let count : slice_index t.minors n ≡ minors_of drivers n = ap (λ (xs : List ℕ). slice_index xs n) minors
    ∙ minors_at drivers n in
    rw count (find_same (λ m. not (is_there t (record { driver = n; minor = m })))
    (λ m. not (exists drivers c (record { driver = n; minor = m }))) (range_with_len 0 (minors_of drivers n))
    (λ m. ap not (told (record { driver = n; minor = m }))))

-- a driver of the list is a driver of the table
has_driver : (drivers : List DriverSpec) (t : StreamTable) (n : ℕ) → t.minors ≡ map (λ d. d.minors) drivers
    → n < length drivers → nat_le (length t.minors) n ≡ false
has_driver drivers t n minors lt =
    let len : length t.minors ≡ length drivers = ap length minors ∙ many drivers in
    grind (arith, nat_tests) where
      many : (ds : List DriverSpec) → length (map (λ (d : DriverSpec). d.minors) ds) ≡ length ds
      many [] = refl
      many (d ∷ ds) = ap suc (many ds)

-- the free descriptor number of the model is the lowest free number of the table
number : (c : Configuration) (t : StreamTable) (process : ℕ) → t.fds ≡ c.fds → (k : Option ℕ)
    → least_fd t.fds process ≡ k → free_fd c process ≡ ok_or k TooManyDescriptors
number c t process same k e = grind arith

-- the answer of the table of streams to a clone open agrees with the outcome of the command
pub clone_agrees : (drivers : List DriverSpec) (c : Configuration) (t : StreamTable) (process n : ℕ) (name : List ℕ)
    → t.minors ≡ map (λ d. d.minors) drivers → TellsExisting drivers c t → t.fds ≡ c.fds
    → driver_of drivers name ≡ Ok n → n < length drivers
    → Agrees c process (clone_answer t process n) (outcome drivers c process (command.OpenClone name))
clone_agrees drivers c t process n name minors told same found lt =
    by (least_minor t n) (least_fd t.fds process) refl refl where
      free : (o : Option ℕ) → least_minor t n ≡ o → free_minor drivers c n ≡ ok_or o NoMinor
      free o e = ap (λ (k : Option ℕ). ok_or k NoMinor) (sym (least_same drivers c t n minors told) ∙ e)

      by : (o k : Option ℕ) → least_minor t n ≡ o → least_fd t.fds process ≡ k
          → Agrees c process (clone_answer t process n) (outcome drivers c process (command.OpenClone name))
      by None k e g = rw (has_driver drivers t n minors lt, e, found, free None e) refl
      by (Some m) None e g =
          rw (has_driver drivers t n minors lt, e, g, found, free (Some m) e, number c t process same None g) refl
      by (Some m) (Some k) e g =
          rw (has_driver drivers t n minors lt, e, g, found, free (Some m) e, number c t process same (Some k) g) refl

-- the answer of the table of streams to an open of a minor agrees with the outcome of the command
pub minor_agrees : (drivers : List DriverSpec) (c : Configuration) (t : StreamTable) (process n minor : ℕ)
    (name : List ℕ) → t.minors ≡ map (λ d. d.minors) drivers → t.fds ≡ c.fds
    → driver_of drivers name ≡ Ok n → n < length drivers → nat_le (minors_of drivers n) minor ≡ false
    → is_below c.links (record { driver = n; minor = minor }) ≡ false
    → Agrees c process (minor_answer t process n minor) (outcome drivers c process (command.OpenMinor name minor))
minor_agrees drivers c t process n minor name minors same found lt few free = by (least_fd t.fds process) refl where
  inside : is_in_range t.minors n minor ≡ true
  inside = let count : slice_index t.minors n ≡ minors_of drivers n = ap (λ (xs : List ℕ). slice_index xs n) minors
      ∙ minors_at drivers n in grind (arith, nat_tests)

  by : (k : Option ℕ) → least_fd t.fds process ≡ k
      → Agrees c process (minor_answer t process n minor) (outcome drivers c process (command.OpenMinor name minor))
  by None g =
      rw (has_driver drivers t n minors lt, inside, g, found, few, free, number c t process same None g) refl
  by (Some k) g =
      rw (has_driver drivers t n minors lt, inside, g, found, few, free, number c t process same (Some k) g) refl
