-- The transcripts with which a history agrees. Here the transcript of a process is the list of entries that its caller
-- has kept.
use Rattle.std.specs.Prelude.{◌≡◌, ◌≢◌, ℕ, ◌<◌, ◌≤◌, List, [], ◌++◌, length, take, Option, Some, None, slice_index_or}
use Rattle.smx_types.specs.declared.command.Entry.{Entry}
pub use Rattle.smx_shared.specs.Seats.{entries_of}

-- the entries of the process are its transcript, which is empty if the process is not below the number of transcripts
abbrev pub IsBorneOut : List Entry → List (List Entry) → ℕ → Type 0
IsBorneOut history transcripts process = entries_of process history ≡ slice_index_or transcripts process []

-- the process is the lowest whose entries are not its transcript
pub record IsLeastStrange (history : List Entry) (transcripts : List (List Entry)) (process : ℕ) : Type 0 where
  pub strange : entries_of process history ≢ slice_index_or transcripts process []
  pub least : (p : ℕ) → p < process → IsBorneOut history transcripts p

-- the process has this number of entries of its transcript, starting with the first; or it has other entries
abbrev pub IsMet : List Entry → List Entry → Option ℕ → Type 0
IsMet transcript own (Some count) = (count ≤ length transcript) × (own ≡ take count transcript)
IsMet transcript own None = (more : List Entry) → own ++ more ≢ transcript
