-- The descriptors of all processes: one row of streams for each process. No public clause needs this.
use Rattle.std.specs.Prelude.{◌≡◌, ℕ, ◌+◌, ◌<◌, ◌≤◌, List, [], ◌∷◌, ◌++◌, map, length, slice_index_or, slice_set}
use Rattle.std.specs.Prelude.{replicate, Option, Some, None}
use Rattle.std.specs.List.{All}
use Rattle.smx_types.specs.declared.limits.TheConstants.{MAX_DESCRIPTORS, MAX_PROCESSES}
use Rattle.smx_types.specs.declared.stream.Descriptor.{Descriptor}
use Rattle.smx_types.specs.declared.stream.StreamId.{StreamId}
use Rattle.smx_model.specs.Configuration.{fd_before}
use Rattle.smx_model.specs.Ordered.{IsRising}

-- cells for all numbers, or for none
abbrev pub AreAllOrNone : List (Option StreamId) → Type 0
AreAllOrNone cells = 0 < length cells → length cells ≡ MAX_DESCRIPTORS

-- the same row, with cells for all numbers
abbrev pub with_room : List (Option StreamId) → List (Option StreamId)
with_room [] = replicate MAX_DESCRIPTORS None
with_room (c ∷ cells) = c ∷ cells

-- for each process, a row with a stream or `None` at each descriptor number
abbrev pub Rows : Type 0
Rows = List (List (Option StreamId))

-- the stream at a descriptor number of a process
abbrev pub cell_at : Rows → ℕ → ℕ → Option StreamId
cell_at rows p n = slice_index_or (slice_index_or rows p []) n None

-- the rows with this cell at a descriptor number of a process
abbrev pub with_cell : Rows → ℕ → ℕ → Option StreamId → Rows
with_cell rows p n cell = slice_set rows p (slice_set (slice_index_or rows p []) n cell)

-- the rows with room for all numbers of a process
abbrev pub with_room_at : Rows → ℕ → Rows
with_room_at rows p = slice_set rows p (with_room (slice_index_or rows p []))

-- the descriptors in a row of process p whose first number is n
abbrev pub row_from : ℕ → ℕ → List (Option StreamId) → List Descriptor
row_from p n [] = []
row_from p n (None ∷ cells) = row_from p (n + 1) cells
row_from p n (Some s ∷ cells) = record { process = p; fd = n; stream = s } ∷ row_from p (n + 1) cells

-- the descriptors of the processes from p on
abbrev pub rows_from : ℕ → Rows → List Descriptor
rows_from p [] = []
rows_from p (row ∷ rows) = row_from p 0 row ++ rows_from (p + 1) rows

-- the descriptors in order, and the number of cells of each process
pub record Listed : Type 0 where
  pub fds : List Descriptor
  pub rooms : List ℕ

abbrev pub listed_of : Rows → Listed
listed_of rows = record { fds = rows_from 0 rows; rooms = map length rows }

-- one row for each process, with cells for all numbers or for none
pub record AreRows (rows : Rows) : Type 0 where
  pub processes : length rows ≡ MAX_PROCESSES
  pub rooms : All AreAllOrNone rows

-- in order and without duplicates, at most 1,024, with valid processes and numbers
pub record IsListed (fds : List Descriptor) : Type 0 where
  pub rise : IsRising fd_before fds
  pub few : length fds ≤ 1024
  pub processes : All (λ d. d.process < MAX_PROCESSES) fds
  pub numbered : All (λ d. d.fd < MAX_DESCRIPTORS) fds
