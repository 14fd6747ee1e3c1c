-- The hung-up streams: one row of flags for each driver. No public clause needs this.
use Rattle.std.specs.Prelude.{ℕ, ◌+◌, Bool, true, false, List, [], ◌∷◌, ◌++◌, slice_index_or}
use Rattle.smx_types.specs.declared.stream.StreamId.{StreamId}

-- a stream's flag
abbrev pub flag_at : List (List Bool) → StreamId → Bool
flag_at rows s = slice_index_or (slice_index_or rows s.driver []) s.minor false

-- the hung-up streams in a driver's row of flags whose first minor is n
abbrev pub hung_from : ℕ → ℕ → List Bool → List StreamId
hung_from d n [] = []
hung_from d n (false ∷ flags) = hung_from d (n + 1) flags
hung_from d n (true ∷ flags) = record { driver = d; minor = n } ∷ hung_from d (n + 1) flags

-- the hung-up streams of the drivers from d on
abbrev pub hungs_from : ℕ → List (List Bool) → List StreamId
hungs_from d [] = []
hungs_from d (row ∷ rows) = hung_from d 0 row ++ hungs_from (d + 1) rows
