-- Descriptors as rows of streams by number: looked up, added and removed.
use Rattle.smx_model.proofs.Common.{◌≡◌, ℕ, zero, suc, ◌+◌, ◌<◌, true, false, not, eqb, List, [], ◌∷◌, ◌++◌, length}
use Rattle.smx_model.proofs.Common.{find, filter, get_or, Option, Some, None, refl, sym, ap, ◌∙◌, arith, list_any}
use Rattle.smx_model.proofs.Common.{is_some, nat_tests, eq-eqb, ne_eqb, Descriptor, StreamId, is_fd}
use Rattle.smx_model.proofs.Common.{fd_before, pair_before, ComesBefore, with_inserted}
use Rattle.std.proofs.Common.{set}
use Rattle.std.proofs.lemmas.List.Elements.{filter-append}
use Rattle.smx_streams.specs.DescriptorRows.{Rows, cell_at, with_cell, row_from, rows_from}
use Rattle.smx_streams.specs.StreamTables.{stream_at}
use Rattle.smx_streams.proofs.ListLemmas.{find_front, find_past, any_found, none_goes, comes_both, inserted_first}

-- the descriptor of this process, with this number and this stream
abbrev pub fd_of : ℕ → ℕ → StreamId → Descriptor
fd_of p n s = record { process = p; fd = n; stream = s }

-- the descriptor of a process and a number passes the test for both
same_fd : (p n k : ℕ) (s : StreamId) → k ≡ n → is_fd p n (fd_of p k s) ≡ true
same_fd p n k s e = rw (eq-eqb p p refl, eq-eqb k n e) refl

-- the descriptor of one process fails the test for another process
other_process : (p n q m : ℕ) (s : StreamId) → eqb q p ≡ false → is_fd p n (fd_of q m s) ≡ false
other_process p n q m s h = rw h refl

-- the descriptor of one number fails the test for another number
other_fd : (p n m : ℕ) (s : StreamId) → eqb m n ≡ false → is_fd p n (fd_of p m s) ≡ false
other_fd p n m s h = rw (eq-eqb p p refl, h) refl

-- look-ups

-- a search in the row of one process finds no descriptor of another process
find_other_row : (p n q k : ℕ) (cells : List (Option StreamId)) → eqb q p ≡ false
    → find (is_fd p n) (row_from q k cells) ≡ None
find_other_row p n q k [] h = refl
find_other_row p n q k (None ∷ cells) h = find_other_row p n q (k + 1) cells h
find_other_row p n q k (Some s ∷ cells) h = rw (other_process p n q k s h) (find_other_row p n q (k + 1) cells h)

-- a search in a row finds no descriptor with a number before its first one
find_lower : (p n k : ℕ) (cells : List (Option StreamId)) → n < k → find (is_fd p n) (row_from p k cells) ≡ None
find_lower p n k [] h = refl
find_lower p n k (None ∷ cells) h = find_lower p n (k + 1) cells (omega arith)
find_lower p n k (Some s ∷ cells) h = grind (arith, other_fd p n k s, find_lower p n (k + 1) cells (omega arith))

-- the descriptor, if there is a stream
abbrev pub found : ℕ → ℕ → Option StreamId → Option Descriptor
found p n None = None
found p n (Some s) = Some (fd_of p n s)

-- a search for a number in a row finds the stream in its cell
find_in_row : (p n k i : ℕ) (cells : List (Option StreamId)) → n ≡ k + i
    → find (is_fd p n) (row_from p k cells) ≡ found p n (get_or cells i None)
find_in_row p n k i [] e = refl
find_in_row p n k zero (None ∷ cells) e = find_lower p n (k + 1) cells (omega (arith, e))
find_in_row p n k zero (Some s ∷ cells) e = grind (arith, same_fd p n k s, fd_of p)
find_in_row p n k (suc i) (None ∷ cells) e = find_in_row p n (k + 1) i cells (omega (arith, e))
find_in_row p n k (suc i) (Some s ∷ cells)
    e = grind (arith, other_fd p n k s, find_in_row p n (k + 1) i cells (omega (arith, e)))

-- a search in the rows of later processes finds no descriptor of an earlier one
find_later_rows : (p n q : ℕ) (rows : Rows) → p < q → find (is_fd p n) (rows_from q rows) ≡ None
find_later_rows p n q [] h = refl
find_later_rows p n q (row ∷ rows) h =
    grind (arith, find_past, find_other_row, find_later_rows p n (q + 1) rows (omega arith))

-- a search for a number of a process in the rows from a process on finds the stream in its cell
find_rows : (p n q i : ℕ) (rows : Rows) → p ≡ q + i
    → find (is_fd p n) (rows_from q rows) ≡ found p n (get_or (get_or rows i []) n None)
find_rows p n q i [] e = refl
find_rows p n q zero (row ∷ rows) e =
    let same : q ≡ p = omega (arith, e) in rw same (here (get_or row n None) refl) where
      here : (cell : Option StreamId) → get_or row n None ≡ cell
          → find (is_fd p n) (row_from p 0 row ++ rows_from (p + 1) rows) ≡ found p n (get_or row n None)
      here None is = find_past (is_fd p n) (row_from p 0 row) (rows_from (p + 1) rows)
          (find_in_row p n 0 n row (omega arith) ∙ ap (found p n) is) ∙ find_later_rows p n (p + 1) rows (omega arith)
          ∙ sym (ap (found p n) is)
      here (Some s) is = find_front (is_fd p n) (row_from p 0 row) (rows_from (p + 1) rows) (fd_of p n s)
          (find_in_row p n 0 n row (omega arith) ∙ ap (found p n) is) ∙ sym (ap (found p n) is)
find_rows p n q (suc i) (row ∷ rows) e =
    grind (arith, find_past, find_other_row, find_rows p n (q + 1) i rows (omega (arith, e)))

-- a search in the rows finds a descriptor with the stream in its cell, or none if the cell is empty
pub find_cell : (rows : Rows) (p n : ℕ) → find (is_fd p n) (rows_from 0 rows) ≡ found p n (cell_at rows p n)
find_cell rows p n = find_rows p n 0 p rows (omega arith)

-- the stream of a descriptor is the one in its cell
pub stream_is_cell : (rows : Rows) (p n : ℕ) → cell_at rows p n ≡ stream_at (rows_from 0 rows) p n
stream_is_cell rows p n = grind (arith, find_cell rows p n)

-- a process has a descriptor with a number exactly if its cell has a stream
pub any_is_cell : (rows : Rows) (p n : ℕ) → list_any (is_fd p n) (rows_from 0 rows) ≡ is_some (cell_at rows p n)
any_is_cell rows p n = grind (arith, any_found (is_fd p n) (rows_from 0 rows), find_cell rows p n)

-- removal

-- removing the descriptor of a number from a row empties its cell
take_in_row : (p n k i : ℕ) (cells : List (Option StreamId)) → n ≡ k + i
    → filter (λ d. not (is_fd p n d)) (row_from p k cells) ≡ row_from p k (set cells i None)
take_in_row p n k i [] e = refl
take_in_row p n k zero (None ∷ cells) e = none_goes (is_fd p n) _ (find_lower p n (k + 1) cells (omega (arith, e)))
take_in_row p n k zero (Some s ∷ cells) e = rw (same_fd p n k s (omega (arith, e)))
    (none_goes (is_fd p n) (row_from p (k + 1) cells) (find_lower p n (k + 1) cells (omega (arith, e))))
take_in_row p n k (suc i) (None ∷ cells) e = take_in_row p n (k + 1) i cells (omega (arith, e))
take_in_row p n k (suc i) (Some s ∷ cells)
    e = grind (arith, other_fd p n k s, fd_of p k s, take_in_row p n (k + 1) i cells (omega (arith, e)))

-- removing a descriptor from the rows from a process on empties its cell
take_in_rows : (p n q i : ℕ) (rows : Rows) → p ≡ q + i
    → filter (λ d. not (is_fd p n d)) (rows_from q rows) ≡ rows_from q (set rows i (set (get_or rows i []) n None))
take_in_rows p n q i [] e = refl
take_in_rows p n q zero (row ∷ rows) e =
    let same : q ≡ p = omega (arith, e) in
    rw same (filter-append _ (row_from p 0 row) (rows_from (p + 1) rows)
    ∙ rw (
      take_in_row p n 0 n row (omega arith),
      none_goes (is_fd p n) _ (find_later_rows p n (p + 1) rows (omega arith)),
    ) refl)
take_in_rows p n q (suc i) (row ∷ rows) e =
    filter-append _ (row_from q 0 row) (rows_from (q + 1) rows)
    ∙ rw (
      none_goes (is_fd p n) _
          (find_other_row p n q 0 row (ne_eqb q p (λ same. absurd (omega (arith, e, same))))),
      take_in_rows p n (q + 1) i rows (omega (arith, e)),
    ) refl

-- emptying a cell removes only its descriptor
pub take_cell : (rows : Rows) (p n : ℕ) → filter (λ d. not (is_fd p n d)) (rows_from 0 rows)
    ≡ rows_from 0 (with_cell rows p n None)
take_cell rows p n = take_in_rows p n 0 p rows (omega arith)

-- removing the descriptor of an empty cell changes nothing
pub take_none : (rows : Rows) (p n : ℕ) → cell_at rows p n ≡ None
    → filter (λ d. not (is_fd p n d)) (rows_from 0 rows) ≡ rows_from 0 rows
take_none rows p n h = none_goes (is_fd p n) _ (find_cell rows p n ∙ ap (found p n) h)

-- insertion

-- an element before a number of a process is before its next number
next : (p n q k : ℕ) → pair_before p n q k ≡ true → pair_before p n q (k + 1) ≡ true
next p n q k h = grind (arith, nat_tests)

-- a descriptor comes before a whole row that starts at a later process, or at a later number of its own process
pub later_row : (p n q k : ℕ) (s : StreamId) (cells : List (Option StreamId)) → pair_before p n q k ≡ true
    → ComesBefore fd_before (fd_of p n s) (row_from q k cells)
later_row p n q k s [] h = tt
later_row p n q k s (None ∷ cells) h = later_row p n q (k + 1) s cells (next p n q k h)
later_row p n q k s (Some t ∷ cells) h = (h, later_row p n q (k + 1) s cells (next p n q k h))

-- a descriptor comes before all descriptors of later processes
pub later_rows : (p n q : ℕ) (s : StreamId) (rows : Rows) → p < q
    → ComesBefore fd_before (fd_of p n s) (rows_from q rows)
later_rows p n q s [] h = tt
later_rows p n q s (row ∷ rows) h = comes_both fd_before (fd_of p n s) (row_from q 0 row) (rows_from (q + 1) rows)
    (later_row p n q 0 s row (grind (arith, nat_tests))) (later_rows p n (q + 1) s rows (omega arith))

-- a number of a process does not come before a smaller one
not_before : (p n k : ℕ) → k < n → pair_before p n p k ≡ false
not_before p n k h = grind (arith, nat_tests)

-- a number of a process does not come before any number of an earlier process
not_before_process : (p n q k : ℕ) → q < p → pair_before p n q k ≡ false
not_before_process p n q k h = grind (arith, nat_tests)

-- inserting a descriptor into a row, before later ones, puts its stream into its empty cell
put_in_row : (p n k i : ℕ) (s : StreamId) (cells : List (Option StreamId)) (rest : List Descriptor) → n ≡ k + i
    → i < length cells → get_or cells i None ≡ None → ComesBefore fd_before (fd_of p n s) rest
    → with_inserted fd_before (row_from p k cells ++ rest) (fd_of p n s) ≡ row_from p k (set cells i (Some s)) ++ rest
put_in_row p n k i s [] rest e lt none h = absurd (omega arith)
put_in_row p n k zero s (Some t ∷ cells) rest e lt none h = absurd cc
put_in_row p n k zero s (None ∷ cells) rest e lt none h =
    let same : k ≡ n = omega (arith, e) in
    rw same (inserted_first fd_before (fd_of p n s) (row_from p (n + 1) cells ++ rest)
    (comes_both fd_before (fd_of p n s) (row_from p (n + 1) cells) rest
    (later_row p n p (n + 1) s cells (grind (arith, nat_tests))) h))
put_in_row p n k (suc i) s (None ∷ cells) rest e lt none h =
    put_in_row p n (k + 1) i s cells rest (omega (arith, e)) (omega arith) none h
put_in_row p n k (suc i) s (Some t ∷ cells) rest e lt none h =
    grind (arith, not_before, fd_of, put_in_row p n (k + 1) i s cells rest (omega (arith, e)) (omega arith) none h)

-- a descriptor of a later process is inserted after the whole row of an earlier one
skip_row : (p n q k : ℕ) (s : StreamId) (cells : List (Option StreamId)) (rest : List Descriptor) → q < p
    → with_inserted fd_before (row_from q k cells ++ rest) (fd_of p n s)
    ≡ row_from q k cells ++ with_inserted fd_before rest (fd_of p n s)
skip_row p n q k s [] rest h = refl
skip_row p n q k s (None ∷ cells) rest h = skip_row p n q (k + 1) s cells rest h
skip_row p n q k s (Some t ∷ cells) rest h =
    rw (not_before_process p n q k h) (ap (λ ds. fd_of q k t ∷ ds) (skip_row p n q (k + 1) s cells rest h))

-- inserting a descriptor into the rows from a process on puts its stream into its empty cell
put_in_rows : (p n q i : ℕ) (s : StreamId) (rows : Rows) → p ≡ q + i → n < length (get_or rows i [])
    → get_or (get_or rows i []) n None ≡ None
    → with_inserted fd_before (rows_from q rows) (fd_of p n s)
    ≡ rows_from q (set rows i (set (get_or rows i []) n (Some s)))
put_in_rows p n q i s [] e lt none = absurd (omega arith)
put_in_rows p n q zero s (row ∷ rows) e lt none =
    let same : q ≡ p = omega (arith, e) in
    rw same (put_in_row p n 0 n s row (rows_from (p + 1) rows) (omega arith) lt none
    (later_rows p n (p + 1) s rows (omega arith)))
put_in_rows p n q (suc i) s (row ∷ rows) e lt none =
    grind (arith, skip_row, put_in_rows p n (q + 1) i s rows (omega (arith, e)) lt none)

-- putting a stream into an empty cell inserts its descriptor in order
pub put_cell : (rows : Rows) (p n : ℕ) (s : StreamId) → n < length (get_or rows p [])
    → list_any (is_fd p n) (rows_from 0 rows) ≡ false
    → rows_from 0 (with_cell rows p n (Some s)) ≡ with_inserted fd_before (rows_from 0 rows) (fd_of p n s)
put_cell rows p n s lt free = grind (arith, put_in_rows p n 0 p s rows (omega arith) lt, any_is_cell rows p n)
