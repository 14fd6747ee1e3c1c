-- Descriptors as rows of streams by number: their order, their number, and the cells for them.
use Rattle.smx_model.proofs.Common.{◌≡◌, ℕ, zero, suc, ◌+◌, ◌*◌, ◌<◌, ◌≤◌, true, List, [], ◌∷◌, ◌++◌, length, map}
use Rattle.smx_model.proofs.Common.{get_or, replicate, Option, Some, None, refl, sym, ap, ◌∙◌, arith, length-append}
use Rattle.smx_model.proofs.Common.{All, list_any, is_some, All-nil, nat_tests, MAX_DESCRIPTORS, MAX_PROCESSES}
use Rattle.smx_model.proofs.Common.{Descriptor, StreamId, is_fd, fd_before, ComesBefore, IsRising, rules}
use Rattle.std.proofs.Common.{set}
use Rattle.std.proofs.lemmas.List.{get_or-set_same, length-set, length-replicate}
use Rattle.std.proofs.lemmas.List.Elements.{All-cons, All-append, All-set}
use Rattle.std.proofs.Math.ListN.{get_or-map}
use Rattle.smx_streams.specs.DescriptorRows.{Rows, AreRows, IsListed, with_cell, row_from, rows_from}
use Rattle.smx_streams.specs.DescriptorRows.{AreAllOrNone, with_room}
use Rattle.smx_streams.proofs.ListLemmas.{comes_both}
use Rattle.smx_streams.proofs.RowLemmas.{fd_of, later_row, later_rows, any_is_cell}

-- in order

-- a row before ordered descriptors, all of which come after its process', is in order with them
rising_row : (q k : ℕ) (cells : List (Option StreamId)) (rest : List Descriptor) → IsRising fd_before rest
    → ((n : ℕ) (s : StreamId) → ComesBefore fd_before (record { process = q; fd = n; stream = s }) rest)
    → IsRising fd_before (row_from q k cells ++ rest)
rising_row q k [] rest h after = h
rising_row q k (None ∷ cells) rest h after = rising_row q (k + 1) cells rest h after
rising_row q k (Some s ∷ cells) rest h
    after = (
      comes_both fd_before (fd_of q k s) (row_from q (k + 1) cells) rest
          (later_row q k q (k + 1) s cells (grind (arith, nat_tests))) (after k s),
      rising_row q (k + 1) cells rest h after,
    )

-- the descriptors of the rows from a process on are in order
rising_rows : (q : ℕ) (rows : Rows) → IsRising fd_before (rows_from q rows)
rising_rows q [] = tt
rising_rows q (row ∷ rows) = rising_row q 0 row (rows_from (q + 1) rows) (rising_rows (q + 1) rows)
    (λ n s. later_rows q n (q + 1) s rows (omega arith))

-- at most as many descriptors as cells

-- a row has at most as many descriptors as cells
few_in_row : (q k : ℕ) (cells : List (Option StreamId)) → length (row_from q k cells) ≤ length cells
few_in_row q k [] = omega arith
few_in_row q k (None ∷ cells) = omega (arith, few_in_row q (k + 1) cells)
few_in_row q k (Some s ∷ cells) = omega (arith, few_in_row q (k + 1) cells)

-- a row with cells for all numbers or for none has at most 16 cells
pub short : (row : List (Option StreamId)) → AreAllOrNone row → length row ≤ MAX_DESCRIPTORS
short [] h = omega arith
short (c ∷ cells) h = omega (arith, h (omega arith))

-- rows with cells for all numbers or for none have at most 16 descriptors each
few_in_rows : (q : ℕ) (rows : Rows) → All AreAllOrNone rows → length (rows_from q rows) ≤ 16 * length rows
few_in_rows q [] h = omega arith
few_in_rows q (row ∷ rows) h =
    omega (
      arith,
      length-append (row_from q 0 row) (rows_from (q + 1) rows),
      few_in_row q 0 row,
      short row (h 0 row (omega arith)),
      few_in_rows (q + 1) rows (λ k d lt. h (suc k) d (omega (arith, lt))),
    )

-- if the cells of a row end within the numbers of a process, each descriptor has one of these numbers
numbered_row : (q k : ℕ) (cells : List (Option StreamId)) → k + length cells ≤ MAX_DESCRIPTORS
    → All (λ d. d.fd < MAX_DESCRIPTORS) (row_from q k cells)
numbered_row q k [] h = All-nil _
numbered_row q k (None ∷ cells) h = numbered_row q (k + 1) cells (omega arith)
numbered_row q k (Some s ∷ cells) h = grind (arith, All-cons, numbered_row q (k + 1) cells (omega arith))

-- if each row has cells for all numbers or for none, each descriptor has one of a process' numbers
numbered_rows : (q : ℕ) (rows : Rows) → All AreAllOrNone rows → All (λ d. d.fd < MAX_DESCRIPTORS) (rows_from q rows)
numbered_rows q [] h = All-nil _
numbered_rows q (row ∷ rows) h = All-append (λ d. d.fd < MAX_DESCRIPTORS) _ _
    (numbered_row q 0 row (omega (arith, short row (h 0 row (omega arith)))))
    (numbered_rows (q + 1) rows (λ k d lt. h (suc k) d (omega (arith, lt))))

-- the descriptors of the row of an existing process are of an existing process
process_row : (q k : ℕ) (cells : List (Option StreamId)) → q < MAX_PROCESSES
    → All (λ d. d.process < MAX_PROCESSES) (row_from q k cells)
process_row q k [] h = All-nil _
process_row q k (None ∷ cells) h = process_row q (k + 1) cells h
process_row q k (Some s ∷ cells) h = All-cons (λ d. d.process < MAX_PROCESSES) _ _ h (process_row q (k + 1) cells h)

-- if the rows end within the processes, each descriptor is of an existing process
process_rows : (q : ℕ) (rows : Rows) → q + length rows ≤ MAX_PROCESSES
    → All (λ d. d.process < MAX_PROCESSES) (rows_from q rows)
process_rows q [] h = All-nil _
process_rows q (row ∷ rows) h = All-append (λ d. d.process < MAX_PROCESSES) _ _ (process_row q 0 row (omega arith))
    (process_rows (q + 1) rows (omega arith))

-- the descriptors of rows are in order and without duplicates, and within the limit
pub are_listed : (rows : Rows) → AreRows rows → IsListed (rows_from 0 rows)
are_listed rows h = grind (arith, rising_rows, few_in_rows, process_rows, numbered_rows)

-- cells

-- a row of empty cells has no descriptors
no_cells : (q k n : ℕ) → row_from q k (replicate n None) ≡ []
no_cells q k zero = refl
no_cells q k (suc n) = no_cells q (k + 1) n

-- a row has the same descriptors after cells for all numbers are made
room_in_row : (q k : ℕ) (row : List (Option StreamId)) → row_from q k (with_room row) ≡ row_from q k row
room_in_row q k [] = no_cells q k MAX_DESCRIPTORS
room_in_row q k (c ∷ cells) = refl

-- rows have the same descriptors after one of them gets cells for all numbers
room_in_rows : (q i : ℕ) (rows : Rows) → rows_from q (set rows i (with_room (get_or rows i []))) ≡ rows_from q rows
room_in_rows q i [] = refl
room_in_rows q zero (row ∷ rows) = ap (λ ds. ds ++ rows_from (q + 1) rows) (room_in_row q 0 row)
room_in_rows q (suc i) (row ∷ rows) = ap (λ ds. row_from q 0 row ++ ds) (room_in_rows (q + 1) i rows)

-- making cells in a row leaves the descriptors unchanged
pub room_shows_the_same : (rows : Rows) (p : ℕ)
    → rows_from 0 (set rows p (with_room (get_or rows p []))) ≡ rows_from 0 rows
room_shows_the_same rows p = room_in_rows 0 p rows

-- a row with cells has one for each number
room_of : (row : List (Option StreamId)) → AreAllOrNone row → length (with_room row) ≡ MAX_DESCRIPTORS
room_of [] h = length-replicate {A = Option StreamId} MAX_DESCRIPTORS None
room_of (c ∷ cells) h = h (omega arith)

-- if each row has cells for all numbers or for none, so has the row of any process
row_at : (rows : Rows) (p : ℕ) → All AreAllOrNone rows → AreAllOrNone (get_or rows p [])
row_at [] p h = λ some. absurd (omega arith)
row_at (row ∷ rows) zero h = h 0 row (omega arith)
row_at (row ∷ rows) (suc p) h = row_at rows p (λ k d lt. h (suc k) d (omega (arith, lt)))

-- a process for which cells are made has one for each number
pub there_is_room : (rows : Rows) (p : ℕ) → All AreAllOrNone rows → p < length rows
    → get_or (map length (set rows p (with_room (get_or rows p [])))) p 0 ≡ MAX_DESCRIPTORS
there_is_room rows p h lt = get_or-map length (set rows p (with_room (get_or rows p []))) p []
    ∙ ap length (get_or-set_same rows p (with_room (get_or rows p [])) [] lt)
    ∙ room_of (get_or rows p []) (row_at rows p h)

-- a process has as many cells as its row is long
pub row_length : (rows : Rows) (p : ℕ) → get_or (map length rows) p 0 ≡ length (get_or rows p [])
row_length rows p = get_or-map length rows p []

-- a process that has a descriptor has cells
pub has_cells : (rows : Rows) (p n : ℕ) → list_any (is_fd p n) (rows_from 0 rows) ≡ true → 0 < length (get_or rows p [])
has_cells rows p n h = by (get_or rows p []) (sym (any_is_cell rows p n) ∙ h) where
  by : (row : List (Option StreamId)) → is_some (get_or row n None) ≡ true → 0 < length row
  by [] k = absurd cc
  by (c ∷ cells) k = omega arith

-- invariants of every table

-- after cells are made, there is still one row for each process, with cells for all numbers or for none
pub rows_with_room : (rows : Rows) (p : ℕ) → AreRows rows → AreRows (set rows p (with_room (get_or rows p [])))
rows_with_room rows p h = search (rules, length-set, All-set, room_of, row_at)

-- after a cell is set, there is still one row for each process, with cells for all numbers or for none
pub rows_with_cell : (rows : Rows) (p n : ℕ) (cell : Option StreamId) → AreRows rows → AreRows (with_cell rows p n cell)
rows_with_cell rows p n cell h = search (rules, length-set, All-set, row_at)

-- one empty row for each process is the initial state, without cells
pub rows_empty : AreRows (replicate MAX_PROCESSES [])
rows_empty = record {
  processes = length-replicate {A = List (Option StreamId)} MAX_PROCESSES [];
  rooms = each MAX_PROCESSES;
} where
  each : (n : ℕ) → All AreAllOrNone (replicate n [])
  each zero = All-nil _
  each (suc n) = All-cons AreAllOrNone _ _ (λ some. absurd (omega arith)) (each n)

-- empty rows have no descriptor
pub none_listed : (q n : ℕ) → rows_from q (replicate n []) ≡ []
none_listed q zero = refl
none_listed q (suc n) = none_listed (q + 1) n
