-- The number of descriptors that name a stream.
use Rattle.smx_model.proofs.Common.{◌≡◌, ℕ, zero, suc, ◌+◌, ◌-◌, ◌<◌, ◌≤◌, Bool, true, false, not, List, [], ◌∷◌}
use Rattle.smx_model.proofs.Common.{length, find, filter, get_or, slice_get, Some, None, if◌then◌else◌, refl, sym, ap}
use Rattle.smx_model.proofs.Common.{arith, inl, inr, nat_lt, list_any, range_with_len, cases_Bool}
use Rattle.smx_model.proofs.Common.{lt-ltb, nat_tests, same_Some, Descriptor, StreamId, same_stream, is_fd, fd_before}
use Rattle.smx_model.proofs.Common.{ComesBefore, IsRising, with_inserted, is_named}
use Rattle.std.specs.Prelude.{nat_le}
use Rattle.std.proofs.lemmas.Option.{get_or_from_slice_get}
use Rattle.smx_streams.specs.StreamTables.{StreamTable, exists, is_in_range, minor_answer}
use Rattle.smx_streams.specs.StreamTables.{number_at, numbered, stream_at}
use Rattle.smx_streams.proofs.GridLemmas.{same_is, same_self}
use Rattle.smx_streams.specs.TableFields.{names_of}
use Rattle.smx_streams.proofs.ListLemmas.{none_goes}

-- 1 if the condition holds, otherwise 0
abbrev pub one_if : Bool → ℕ
one_if b = if b then 1 else 0

-- inserting a descriptor adds one name to its stream, and none to other streams
pub names_put : (s : StreamId) (d : Descriptor) (ds : List Descriptor)
    → names_of s (with_inserted fd_before ds d) ≡ one_if (same_stream d.stream s) + names_of s ds
names_put s d [] = refl
names_put s d (e ∷ ds) = grind (arith, names_put s d ds)

-- later descriptors differ from this one
later_is_other : (p n : ℕ) (d : Descriptor) (ds : List Descriptor) → is_fd p n d ≡ true → ComesBefore fd_before d ds
    → find (is_fd p n) ds ≡ None
later_is_other p n d [] t h = refl
later_is_other p n d (e ∷ ds) t h = grind (arith, nat_tests, later_is_other p n d ds t h.1)

-- removing a descriptor removes one name from its stream, and none from other streams
pub names_taken : (s t : StreamId) (p n : ℕ) (ds : List Descriptor) → IsRising fd_before ds → stream_at ds p n ≡ Some t
    → names_of s ds ≡ one_if (same_stream t s) + names_of s (filter (λ d. not (is_fd p n d)) ds)
names_taken s t p n [] r h = absurd cc
names_taken s t p n (d ∷ ds) r h =
    grind (arith, same_Some d.stream t, none_goes (is_fd p n) ds, later_is_other p n d ds, names_taken s t p n ds r.1)

-- a stream is named exactly if more than 0 descriptors name it
pub named_is_some : (s : StreamId) (ds : List Descriptor) → is_named ds s ≡ nat_lt 0 (names_of s ds)
named_is_some s [] = refl
named_is_some s (d ∷ ds) = grind (arith, nat_tests, named_is_some s ds)

-- at most as many descriptors name a stream as there are
pub names_few : (s : StreamId) (ds : List Descriptor) → names_of s ds ≤ length ds
names_few s [] = omega arith
names_few s (d ∷ ds) = grind (arith, names_few s ds)

-- a stream that a descriptor names has more than 0 names
pub names_some : (s : StreamId) (p n : ℕ) (ds : List Descriptor) → stream_at ds p n ≡ Some s → 0 < names_of s ds
names_some s p n [] h = absurd cc
names_some s p n (d ∷ ds) h = grind (arith, same_Some d.stream s, same_self s, names_some s p n ds)

-- a stream with a record exists
pub used_exists : (t : StreamTable) (s : StreamId) (opens : ℕ) → opens ≡ names_of s t.fds
    → nat_lt 0 (opens + number_at t.holds s) ≡ exists t s
used_exists t s opens e = rw (e, named_is_some s t.fds) (grind (arith, nat_tests))

-- minors

-- a number found by a search in a range is below the range's end
pub find_below : (test : ℕ → Bool) (k n m : ℕ) → find test (range_with_len k n) ≡ Some m → m < k + n
find_below test k zero m h = absurd cc
find_below test k (suc n) m h = grind (arith, same_Some k m, find_below test (k + 1) n m)

-- no minor of a driver that does not exist is in range
pub no_driver : (minors : List ℕ) (d m : ℕ) → None ≡ slice_get minors d → false ≡ is_in_range minors d m
no_driver [] d m h = grind (arith, nat_tests)
no_driver (n ∷ ns) zero m h = absurd cc
no_driver (n ∷ ns) (suc d) m h = no_driver ns d m h

-- the number of minors of an existing driver is what a look-up with default 0 returns
pub minors_at : (minors : List ℕ) (d n : ℕ) → Some n ≡ slice_get minors d → n ≡ get_or minors d 0
minors_at minors d n h = sym (get_or_from_slice_get minors d n 0 (sym h))

-- a driver with a minor exists
has_minors : (minors : List ℕ) (d m : ℕ) → m < get_or minors d 0 → nat_le (length minors) d ≡ false
has_minors [] d m h = absurd (omega (arith, h))
has_minors (n ∷ ns) zero m h = grind (arith, nat_tests)
has_minors (n ∷ ns) (suc d) m h = let rest = has_minors ns d m h in grind (arith, nat_tests, rest)

-- a minor in range is opened as the lowest free descriptor
pub minor_numbered : (t : StreamTable) (p d m : ℕ) → m < get_or t.minors d 0
    → minor_answer t p d m ≡ numbered t p (record { driver = d; minor = m })
minor_numbered t p d m h = rw (has_minors t.minors d m h, lt-ltb m (get_or t.minors d 0) h) refl

-- descriptors added or removed, and the number of names of their streams

-- inequality of streams is symmetric
pub same_sym : (s t : StreamId) → same_stream s t ≡ false → same_stream t s ≡ false
same_sym s t f = grind (arith, nat_tests)

-- counting one more for the stream of a new descriptor, the numbers are again the numbers of names
pub names_after_put : (opens : List (List ℕ)) (s t : StreamId) (p n : ℕ) (fds : List Descriptor)
    → ((x : StreamId) → number_at opens x ≡ names_of x fds)
    → (if same_stream s t then number_at opens t + 1 else number_at opens s)
    ≡ names_of s (with_inserted fd_before fds (record { process = p; fd = n; stream = t }))
names_after_put opens s t p n fds h = elim (cases_Bool (same_stream s t)) [
  | inl e ↦
      let same = same_is s t e in
      let put = names_put s (record { process = p; fd = n; stream = t }) fds in
      let one : same_stream t s ≡ true = rw same (same_self t) in
      let more = rw one at put in
      let was = h s in
      let at = ap (number_at opens) (sym same) in
      rw e (omega (arith, more, was, at))
  | inr f ↦
      let put = names_put s (record { process = p; fd = n; stream = t }) fds in
      let more = rw (same_sym s t f) at put in
      let was = h s in
      rw f (omega (arith, more, was))
]

-- counting one less for the stream of a removed descriptor, the numbers are again the numbers of names
pub names_after_take : (opens : List (List ℕ)) (s t : StreamId) (p n : ℕ) (fds : List Descriptor)
    → ((x : StreamId) → number_at opens x ≡ names_of x fds) → IsRising fd_before fds → stream_at fds p n ≡ Some t
    → (if same_stream s t then number_at opens t - 1 else number_at opens s)
    ≡ names_of s (filter (λ d. not (is_fd p n d)) fds)
names_after_take opens s t p n fds h rise there = elim (cases_Bool (same_stream s t)) [
  | inl e ↦
      let same = same_is s t e in
      let taken = names_taken s t p n fds rise there in
      let one : same_stream t s ≡ true = rw same (same_self t) in
      let less = rw one at taken in
      let was = h s in
      rw (e, sym same) (omega (arith, less, was))
  | inr f ↦
      let taken = names_taken s t p n fds rise there in
      let less = rw (same_sym s t f) at taken in
      let was = h s in
      rw f (omega (arith, less, was))
]

-- a descriptor that names the stream is a descriptor of the process
pub named_any : (s : StreamId) (p n : ℕ) (ds : List Descriptor) → stream_at ds p n ≡ Some s
    → list_any (is_fd p n) ds ≡ true
named_any s p n [] h = absurd cc
named_any s p n (d ∷ ds) h = grind (arith, named_any s p n ds)
