-- Loose links, and the streams that may have ceased to exist.
use Rattle.smx_tables.proofs.Common.{◌≡◌, ℕ, ◌+◌, ◌-◌, ◌≤◌, Bool, true, false, ◌&&◌, ◌||◌, not, eqb, List, [], ◌∷◌}
use Rattle.smx_tables.proofs.Common.{◌++◌, take, Some, refl, sym, ap, subst, ◌∙◌, arith, inl, inr, or-false}
use Rattle.smx_tables.proofs.Common.{slice_get, list_any, list_all, and_parts, or_cases, or_left, eq-eqb, false≢true}
use Rattle.smx_tables.proofs.Common.{list_any-append, nat_tests, slice_get_within, Link, StreamId}
use Rattle.smx_tables.proofs.Common.{same_stream, StreamTable, HasHolds, number_at, is_held, is_loose}
use Rattle.smx_tables.proofs.Common.{is_watched}
use Rattle.std.proofs.lemmas.Bool.{cases_Bool, and_from, or_right}
use Rattle.std.proofs.lemmas.List.Folds.{list_all_at, list_all_more}
use Rattle.smx_links.specs.LinkLists.{is_upper}
use Rattle.smx_streams.specs.StreamTables.{exists as is_there}
use Rattle.smx_tables.specs.ExistingStreams.{holds_of}
use Rattle.smx_tables.proofs.AboveLemmas.{stream_is, stream_self}
use Rattle.smx_tables.proofs.ExistingLemmas.{all_weaker, holds_few}
use Rattle.smx_tables.proofs.ReleaseLemmas.{not_more_held, this_one}

-- ---- streams in a list

-- a stream is in a list with one more stream exactly if it was there before or is this one
pub listed_more : (x : StreamId) (ss : List StreamId) (s : StreamId)
    → list_any (same_stream x) (ss ++ s ∷ []) ≡ (list_any (same_stream x) ss || same_stream x s)
listed_more x ss s = grind (arith, list_any-append (same_stream x) ss (s ∷ []), or-false (same_stream x s))

-- inserting a stream before the last one keeps each stream in the list
pub still_listed_before : (x : StreamId) (ss : List StreamId) (s last : StreamId)
    → list_any (same_stream x) (ss ++ last ∷ []) ≡ true → list_any (same_stream x) ((ss ++ s ∷ []) ++ last ∷ []) ≡ true
still_listed_before x ss s last h =
    grind (arith, nat_tests, listed_more x (ss ++ s ∷ []) last, listed_more x ss last, listed_more x ss s)

-- the last stream of a list is in the list
pub listed_last : (ss : List StreamId) (s : StreamId) → list_any (same_stream s) (ss ++ s ∷ []) ≡ true
listed_last ss s = listed_more s ss s ∙ or_right _ _ (stream_self s)

-- ---- tests of the links before an index

-- if all links pass a test, the link at an index passes it
pub all_at : (test : Link → Bool) (ls : List Link) (i : ℕ) (l : Link) → Some l ≡ slice_get ls i
    → list_all test ls ≡ true → test l ≡ true
all_at test ls i l at h = elim (cases_Bool (test l)) [
  | inl t ↦ t
  | inr f ↦ absurd (false≢true (sym (list_all_at test ls i l (slice_get_within ls i l (sym at))
      (ap test (this_one ls i l at) ∙ f)) ∙ h))
]

-- if the links before an index and the link there pass a test, all links before the next index do
pub all_more : (test : Link → Bool) (ls : List Link) (i : ℕ) (l : Link) → Some l ≡ slice_get ls i
    → list_all test (take i ls) ≡ true → test l ≡ true → list_all test (take (i + 1) ls) ≡ true
all_more test ls i l at h t = list_all_more test ls i l (slice_get_within ls i l (sym at))
    ∙ and_from _ _ h (ap test (this_one ls i l at) ∙ t)

-- ---- releasing a stream

-- another stream is in the table exactly if it was before
pub there_same : (t u : StreamTable) (s x : StreamId) (n : ℕ) → HasHolds t s n u → same_stream x s ≡ false
    → is_there u x ≡ is_there t x
there_same t u s x n h other = grind (arith, h.holds x)

-- only the stream that is released can have ceased to exist
went_is_released : (t u : StreamTable) (s x : StreamId) (n : ℕ) → HasHolds t s n u → is_there t x ≡ true
    → is_there u x ≡ false → same_stream x s ≡ true
went_is_released t u s x n h there gone = grind (arith, there_same t u s x n h)

-- a stream that is held after the release was held before
held_before : (t u : StreamTable) (s : StreamId) (l : Link) → HasHolds t s (number_at t.holds s - 1) u
    → is_held u l ≡ true → is_held t l ≡ true
held_before t u s l h up = grind (arith, not_more_held t u s l.lower h, nat_tests)

-- a watched link stays watched, if the stream that is released is among those that may have ceased to exist
pub watch_on : (t u : StreamTable) (s : StreamId) (ss vs : List StreamId) (l : Link)
    → HasHolds t s (number_at t.holds s - 1) u
    → ((x : StreamId) → list_any (same_stream x) ss ≡ true → list_any (same_stream x) vs ≡ true)
    → list_any (same_stream s) vs ≡ true
    → is_watched t ss l ≡ true → is_watched u vs l ≡ true
watch_on t u s ss vs l h further last was = elim (cases_Bool (is_loose u l))
    [ inl loose ↦ or_right _ _ (listed loose) | inr tight ↦ or_left _ _ (ap not tight) ] where
      listed : is_loose u l ≡ true → list_any (same_stream l.ctl) vs ≡ true
      listed loose =
          elim (or_cases (not (is_loose t l)) (list_any (same_stream l.ctl) ss) was) [
            | inl tight ↦
                let held = held_before t u s l h (grind (arith, nat_tests)) in
                let there : is_there t l.ctl ≡ true = grind (arith, nat_tests) in
                let it = went_is_released t u s l.ctl (number_at t.holds s - 1) h there (grind (arith, nat_tests)) in
                ap (λ (x : StreamId). list_any (same_stream x) vs) (stream_is l.ctl s it) ∙ last
            | inr one ↦ further l.ctl one
          ]

-- all watched links stay watched, if the stream that is released is among those that may have ceased to exist
pub all_watch_on : (t u : StreamTable) (s : StreamId) (ss vs : List StreamId) (ls : List Link)
    → HasHolds t s (number_at t.holds s - 1) u
    → ((x : StreamId) → list_any (same_stream x) ss ≡ true → list_any (same_stream x) vs ≡ true)
    → list_any (same_stream s) vs ≡ true
    → list_all (is_watched t ss) ls ≡ true → list_all (is_watched u vs) ls ≡ true
all_watch_on t u s ss vs ls h further last was =
    all_weaker (is_watched t ss) (is_watched u vs) ls (λ l w. watch_on t u s ss vs l h further last w) was

-- a link whose lower stream is released is not loose
pub released_is_watched : (links : List Link) (t u : StreamTable) (vs : List StreamId) (l : Link)
    → ((s : StreamId) → number_at t.holds s ≤ holds_of links s) → HasHolds t l.lower (number_at t.holds l.lower - 1) u
    → is_watched u vs l ≡ true
released_is_watched links t u vs l once h =
    let few = once l.lower in
    let one = holds_few links l.lower in
    let here : number_at u.holds l.lower ≡ number_at t.holds l.lower - 1 = h.holds l.lower
    ∙ rw (stream_self l.lower) refl in
    let none : number_at u.holds l.lower ≡ 0 = omega (arith, few, one, here) in
    or_left (not (is_loose u l)) _ (grind (arith, nat_tests))

-- ---- one stream less that may have ceased to exist

-- a link that is not loose through a stream is watched without it
pub watched_less : (t : StreamTable) (ss : List StreamId) (ctl : StreamId) (l : Link)
    → (same_stream l.ctl ctl && is_loose t l) ≡ false → is_watched t (ss ++ ctl ∷ []) l ≡ true
    → is_watched t ss l ≡ true
watched_less t ss ctl l other was = grind (arith, nat_tests, listed_more l.ctl ss ctl)

-- the controlling stream of a loose link is not in the table
loose_gone : (t : StreamTable) (l : Link) → is_loose t l ≡ true → not (is_there t l.ctl) ≡ true
loose_gone t l loose = grind (arith, nat_tests)

-- no link is loose through a stream that is in the table, or whose driver is above no link
pub none_by : (t : StreamTable) (ss : List StreamId) (ctl : StreamId) (ls : List Link)
    → (not (is_there t ctl) && is_upper ls ctl.driver) ≡ false → list_all (is_watched t (ss ++ ctl ∷ [])) ls ≡ true
    → list_all (is_watched t ss) ls ≡ true
none_by t ss ctl [] none h = refl
none_by t ss ctl (l ∷ ls) none h =
    let p = and_parts (is_watched t (ss ++ ctl ∷ []) l) (list_all (is_watched t (ss ++ ctl ∷ [])) ls) h in
    and_from _ _ (watched_less t ss ctl l (not_by (same_stream l.ctl ctl) (is_loose t l) refl refl) p.0)
    (none_by t ss ctl ls (grind (arith, nat_tests, none)) p.1) where
      not_by : (it loose : Bool) → same_stream l.ctl ctl ≡ it → is_loose t l ≡ loose → (it && loose) ≡ false
      not_by true true a b =
          let same = stream_is l.ctl ctl a in
          let gone : not (is_there t ctl) ≡ true = subst (λ (x : StreamId). not (is_there t x) ≡ true) same
          (loose_gone t l b) in
          let upper : eqb l.ctl.driver ctl.driver
          ≡ true = eq-eqb l.ctl.driver ctl.driver (ap (λ (x : StreamId). x.driver) same) in
          absurd (false≢true (sym none ∙ and_from _ _ gone (or_left _ _ upper)))
      not_by true false a b = refl
      not_by false loose a b = refl

-- if no stream may have ceased to exist, no link is loose
pub none_loose : (t : StreamTable) (ls : List Link) → list_all (is_watched t []) ls ≡ true
    → list_any (is_loose t) ls ≡ false
none_loose t [] h = refl
none_loose t (l ∷ ls) h =
    let p = and_parts (is_watched t [] l) (list_all (is_watched t []) ls) h in
    let tight : is_loose t l ≡ false = grind (arith, nat_tests, p.0) in
    rw tight (none_loose t ls p.1)
