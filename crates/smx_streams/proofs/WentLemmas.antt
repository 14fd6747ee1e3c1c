-- The descriptors that are left, and the streams that cease to exist, when descriptors are closed.
use Rattle.smx_model.proofs.Common.{◌≡◌, ℕ, suc, ◌+◌, ◌<◌, ◌≤◌, Bool, true, false, ◌&&◌, not, eqb, List, [], ◌∷◌, find}
use Rattle.smx_model.proofs.Common.{filter, Option, Some, None, refl, sym, ap, ◌∙◌, arith, inl, inr, nat_lt, All}
use Rattle.smx_model.proofs.Common.{option_map, cases_Bool, false≢true, MAX_DESCRIPTORS}
use Rattle.smx_model.proofs.Common.{nat_tests, Descriptor, StreamId, same_stream, is_fd, fd_before, IsRising}
use Rattle.std.proofs.lemmas.List.Elements.{filter_agree}
use Rattle.smx_streams.specs.StreamTables.{StreamTable, HasOneLess, exists, is_last, number_at, stream_at}
use Rattle.smx_streams.specs.TableFields.{names_of}
use Rattle.smx_streams.proofs.GridLemmas.{same_is, same_self}
use Rattle.smx_streams.proofs.ListLemmas.{filter_twice, none_goes}
use Rattle.smx_streams.proofs.NameLemmas.{named_is_some, names_taken}

-- filters by two tests that agree on each element are equal
pub kept_same : (f g : Descriptor → Bool) (ds : List Descriptor) → All (λ d. f d ≡ g d) ds → filter f ds ≡ filter g ds
kept_same f g [] h = refl
kept_same f g (d ∷ ds) h =
    let here : f d ≡ g d = h 0 d (omega arith) in
    let rest = kept_same f g ds (λ i e lt. h (suc i) e (omega (arith, lt))) in
    elim (cases_Bool (g d)) [
      | inl t ↦ rw (here, t) (ap (λ (es : List Descriptor). d ∷ es) rest)
      | inr n ↦ rw (here, n) rest
    ]

-- the descriptors of a process that were closed so far
abbrev pub is_closed : ℕ → ℕ → Descriptor → Bool
is_closed p n d = eqb d.process p && nat_lt d.fd n

-- one more number
pub closed_more : (p n : ℕ) (ds : List Descriptor)
    → filter (λ d. not (is_fd p n d)) (filter (λ d. not (is_closed p n d)) ds)
    ≡ filter (λ d. not (is_closed p (n + 1) d)) ds
closed_more p n ds = filter_twice (λ d. not (is_closed p n d)) (λ d. not (is_fd p n d)) ds
    ∙ filter_agree (λ d. not (is_closed p n d) && not (is_fd p n d)) (λ d. not (is_closed p (n + 1) d))
    (λ d. grind (arith, nat_tests)) ds

-- no descriptor is closed at first
pub closed_none : (p : ℕ) (ds : List Descriptor) → ds ≡ filter (λ d. not (is_closed p 0 d)) ds
closed_none p [] = refl
closed_none p (d ∷ ds) = grind (arith, is_closed p 0 d, nat_tests, closed_none p ds)

-- all descriptors of the process are closed at the end
pub closed_all : (p n : ℕ) (ds : List Descriptor) → MAX_DESCRIPTORS ≤ n → All (λ d. d.fd < MAX_DESCRIPTORS) ds
    → filter (λ d. not (is_closed p n d)) ds ≡ filter (λ d. not (eqb d.process p)) ds
closed_all p n ds past h = kept_same _ _ ds (λ i d lt. let few = h i d lt in grind (arith, nat_tests))

-- if a descriptor has no stream, there is no descriptor
none_mapped : (o : Option Descriptor) → option_map (λ d. d.stream) o ≡ None → o ≡ None
none_mapped None h = refl
none_mapped (Some d) h = absurd cc

-- a stream with as many names and holds as before exists exactly if it did
exists_same : (old new : StreamTable) (s : StreamId) → names_of s old.fds ≡ names_of s new.fds
    → number_at new.holds s ≡ number_at old.holds s → exists old s ≡ exists new s
exists_same old new s names holds = rw (named_is_some s old.fds, named_is_some s new.fds, names, holds) refl

-- closing one descriptor ends no stream except its own
pub went_is_named : (old new : StreamTable) (s : StreamId) (p n : ℕ) → IsRising fd_before old.fds
    → HasOneLess old p n new → exists old s ≡ true → exists new s ≡ false → stream_at old.fds p n ≡ Some s
went_is_named old new s p n rise less was gone = by (stream_at old.fds p n) refl where
  by : (o : Option StreamId) → stream_at old.fds p n ≡ o → o ≡ Some s
  by None e =
      let same = ap (names_of s)
      (less.fds ∙ none_goes (is_fd p n) old.fds (none_mapped (find (is_fd p n) old.fds) e)) in
      absurd (false≢true (sym gone ∙ sym (exists_same old new s (sym same) (less.holds s)) ∙ was))
  by (Some t) e = elim (cases_Bool (same_stream t s)) [
    | inl here ↦ ap (λ (x : StreamId). Some x) (same_is t s here)
    | inr other ↦
        let taken : names_of s old.fds ≡ 0 + names_of s (filter (λ d. not (is_fd p n d)) old.fds) = rw other at
        (names_taken s t p n old.fds rise e) in
        let less_names = ap (names_of s) less.fds in
        let same : names_of s old.fds ≡ names_of s new.fds = omega (arith, taken, less_names) in
        absurd (false≢true (sym gone ∙ sym (exists_same old new s same (less.holds s)) ∙ was))
  ]

-- the numbers of any other descriptor don't change
pub at_next : (p n : ℕ) (ds : List Descriptor)
    → stream_at (filter (λ d. not (is_closed p n d)) ds) p n ≡ stream_at ds p n
at_next p n [] = refl
at_next p n (d ∷ ds) = grind (arith, is_closed p n d, nat_tests, at_next p n ds)

-- a stream with one name and no hold is the one that ceases to exist
pub last_is : (t : StreamTable) (s : StreamId) (p n opens : ℕ) → IsRising fd_before t.fds → stream_at t.fds p n ≡ Some s
    → opens ≡ names_of s t.fds → (eqb opens 1 && eqb (number_at t.holds s) 0) ≡ is_last t p n
last_is t s p n opens rise e same =
    let rest = filter (λ (d : Descriptor). not (is_fd p n d)) t.fds in
    let taken : names_of s t.fds ≡ 1 + names_of s rest = rw (same_self s) at (names_taken s s p n t.fds rise e) in
    rw (e, named_is_some s rest) (grind (arith, nat_tests, same ∙ taken))
