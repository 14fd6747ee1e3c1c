-- The value of a table of streams, as contracts see it.
use Rattle.std.specs.Prelude.{◌≡◌, ℕ, Bool, true, false, ◌||◌, not, ◌==◌, nat_lt, nat_le, List, []}
use Rattle.std.specs.Prelude.{length, find, filter, slice_index, slice_index_or}
use Rattle.std.specs.Prelude.{Option, Some, None, Result, Ok, Err, IsOk, ◌⊎◌, if◌then◌else◌}
use Rattle.std.specs.List.{list_any, range_with_len}
use Rattle.std.specs.Option.{option_map, option_map_or}
use Rattle.smx_types.specs.declared.limits.TheConstants.{MAX_DESCRIPTORS}
use Rattle.smx_types.specs.declared.stream.Descriptor.{Descriptor}
use Rattle.smx_types.specs.declared.stream.StreamId.{StreamId}
use Rattle.smx_model.specs.Configuration.{same_stream, is_fd, fd_before, stream_before}
use Rattle.smx_model.specs.Hangups.{is_hung, with_hung}
use Rattle.smx_model.specs.Ordered.{IsRising, with_inserted}
use Rattle.smx_model.specs.Standing.{is_named}
use Rattle.smx_streams.specs.declared.stream_fault.StreamFault.{StreamFault}
use Rattle.smx_streams.specs.declared.stream_fault.StreamFault.TheVariants as fault

-- the number of minors of each driver, the descriptors in order, the number of holds of each minor of each driver,
-- and the hung-up streams in order
pub record StreamTable : Type 0 where
  pub minors : List ℕ
  pub fds : List Descriptor
  pub holds : List (List ℕ)
  pub hungs : List StreamId

-- the number at a stream
abbrev pub number_at : List (List ℕ) → StreamId → ℕ
number_at grid s = slice_index (slice_index_or grid s.driver []) s.minor

-- the driver exists, and the minor is below its number of minors
abbrev pub is_in_range : List ℕ → ℕ → ℕ → Bool
is_in_range minors driver minor = nat_lt minor (slice_index minors driver)

-- a descriptor names the stream, or the stream is held
abbrev pub exists : StreamTable → StreamId → Bool
exists t s = is_named t.fds s || nat_lt 0 (number_at t.holds s)

-- the stream of a descriptor of the process
abbrev pub stream_at : List Descriptor → ℕ → ℕ → Option StreamId
stream_at fds process fd = option_map (λ d. d.stream) (find (is_fd process fd) fds)

-- the table without this descriptor
abbrev pub without_fd : StreamTable → ℕ → ℕ → StreamTable
without_fd t process fd = record t { fds = filter (λ d. not (is_fd process fd d)) t.fds }

-- the descriptor's stream has no other descriptor and no hold
abbrev pub is_last : StreamTable → ℕ → ℕ → Bool
is_last t process fd = option_map_or (λ s. not (exists (without_fd t process fd) s)) (stream_at t.fds process fd) false

-- the lowest number that is not a descriptor of the process
abbrev pub least_fd : List Descriptor → ℕ → Option ℕ
least_fd fds process = find (λ n. not (list_any (is_fd process n) fds)) (range_with_len 0 MAX_DESCRIPTORS)

-- the lowest minor of the driver whose stream has no descriptor and no hold
abbrev pub least_minor : StreamTable → ℕ → Option ℕ
least_minor t driver =
    find (λ m. not (exists t (record { driver = driver; minor = m }))) (range_with_len 0 (slice_index t.minors driver))

-- a descriptor number and a stream, or the first refusal that applies
abbrev pub Answer : Type 0
Answer = Result (ℕ × StreamId) StreamFault

-- the lowest free descriptor number for the stream, or a refusal
abbrev pub numbered : StreamTable → ℕ → StreamId → Answer
numbered t process s = given (least_fd t.fds process) where
  given : Option ℕ → Answer
  given (Some n) = Ok (n, s)
  given None = Err fault.TooManyDescriptors

-- the result of a clone open
abbrev pub clone_answer : StreamTable → ℕ → ℕ → Answer
clone_answer t process driver =
    if nat_le (length t.minors) driver then Err fault.NoDriver else given (least_minor t driver) where
      given : Option ℕ → Answer
      given (Some m) = numbered t process (record { driver = driver; minor = m })
      given None = Err fault.NoMinor

-- the result of opening a minor
abbrev pub minor_answer : StreamTable → ℕ → ℕ → ℕ → Answer
minor_answer t process driver minor =
    if nat_le (length t.minors) driver then Err fault.NoDriver
    else if not (is_in_range t.minors driver minor) then Err fault.NoMinor
    else numbered t process (record { driver = driver; minor = minor })

-- the result of duplicating a descriptor
abbrev pub dup_answer : StreamTable → ℕ → ℕ → Answer
dup_answer t process fd = given (stream_at t.fds process fd) where
  given : Option StreamId → Answer
  given (Some s) = numbered t process s
  given None = Err fault.BadDescriptor

-- one more descriptor; nothing else has changed
pub record HasOneMore (old : StreamTable) (process fd : ℕ) (s : StreamId) (new : StreamTable) : Type 0 where
  pub minors : new.minors ≡ old.minors
  pub fds : new.fds ≡ with_inserted fd_before old.fds (record { process = process; fd = fd; stream = s })
  pub holds : (x : StreamId) → number_at new.holds x ≡ number_at old.holds x
  pub hungs : new.hungs ≡ old.hungs

-- the refusal that applies, or out of memory if none applies
abbrev pub IsRefused : Answer → StreamFault → Type 0
IsRefused wanted f = (wanted ≡ Err f) ⊎ ((f ≡ fault.NoMemory) × IsOk wanted)

-- of the hung-up streams, those that still exist remain
abbrev pub LeavesHungs : StreamTable → StreamTable → Type 0
LeavesHungs old new = new.hungs ≡ filter (exists new) old.hungs

-- one descriptor of the process less; apart from it only hung-up streams that no longer exist are gone
pub record HasOneLess (old : StreamTable) (process fd : ℕ) (new : StreamTable) : Type 0 where
  pub minors : new.minors ≡ old.minors
  pub fds : new.fds ≡ filter (λ d. not (is_fd process fd d)) old.fds
  pub holds : (x : StreamId) → number_at new.holds x ≡ number_at old.holds x
  pub hungs : LeavesHungs old new

-- no descriptors of the process; apart from these only hung-up streams that no longer exist are gone
pub record HasNoneOf (old : StreamTable) (process : ℕ) (new : StreamTable) : Type 0 where
  pub minors : new.minors ≡ old.minors
  pub fds : new.fds ≡ filter (λ d. not (d.process == process)) old.fds
  pub holds : (x : StreamId) → number_at new.holds x ≡ number_at old.holds x
  pub hungs : LeavesHungs old new

-- the stream has this number of holds; nothing else has changed
pub record HasHolds (old : StreamTable) (s : StreamId) (n : ℕ) (new : StreamTable) : Type 0 where
  pub minors : new.minors ≡ old.minors
  pub fds : new.fds ≡ old.fds
  pub holds : (x : StreamId) → number_at new.holds x ≡ (if same_stream x s then n else number_at old.holds x)
  pub hungs : LeavesHungs old new

-- the stream has hung up; nothing else has changed
pub record HasHungUp (old : StreamTable) (s : StreamId) (new : StreamTable) : Type 0 where
  pub minors : new.minors ≡ old.minors
  pub fds : new.fds ≡ old.fds
  pub holds : (x : StreamId) → number_at new.holds x ≡ number_at old.holds x
  pub hungs : new.hungs ≡ with_hung s old.hungs

-- the hung-up streams are in order, and each of them exists
pub record AreHungsSound (t : StreamTable) : Type 0 where
  pub rise : IsRising stream_before t.hungs
  pub exist : (x : StreamId) → is_hung t.hungs x ≡ true → exists t x ≡ true
