-- Releasing the lower streams of loose links.
use Rattle.smx_tables.proofs.Common.{◌≡◌, ℕ, zero, suc, ◌-◌, ◌<◌, ◌≤◌, Bool, true, false, not, List, [], ◌∷◌, get_or}
use Rattle.smx_tables.proofs.Common.{find, Option, Some, None, refl, sym, ap, subst, ◌∙◌, arith, ◌&&◌, nat_lt}
use Rattle.smx_tables.proofs.Common.{slice_get, and_parts, false≢true, nat_tests, recursion_from_All}
use Rattle.smx_tables.proofs.Common.{slice_get_within, Link, StreamId, same_stream, AreLowersApart, each_find}
use Rattle.smx_tables.proofs.Common.{is_named, is_persistent, stands_within, StreamTable, HasHolds, number_at}
use Rattle.smx_tables.proofs.Common.{AreHeld, IsReleasing, holds_below, is_held, is_loose, is_orphaned}
use Rattle.std.proofs.Common.{length, if◌then◌else◌}
use Rattle.std.proofs.lemmas.Bool.{or_parts, false_from_ne_true, not-true}
use Rattle.std.proofs.lemmas.Option.{get_or_from_slice_get, slice_get-get_or}
use Rattle.smx_types.specs.declared.link.LinkKind.TheVariants as kind
use Rattle.smx_model.proofs.TestLemmas.{find_passes}
use Rattle.smx_streams.specs.StreamTables.{exists as is_there}
use Rattle.smx_tables.proofs.AboveLemmas.{below_at, one_link, stream_is, stream_self}
use Rattle.smx_tables.proofs.ClimbLemmas.{one_climb_more, stands_by, stands_is}
use Rattle.smx_tables.proofs.ExistingLemmas.{held_is_below}

-- ---- at first: each stream below a link is held

-- while each stream below a link is held, the conditions for releasing streams hold
pub starts : (links : List Link) (climbs : ℕ) (t : StreamTable) → AreHeld links t → IsReleasing links climbs t
starts links climbs t h = grind (arith, held_is_below links t, below_at links)

-- ---- one more loose link

-- while only streams below orphaned links were released, a stream that is not in the table doesn't exist within n
-- climbs
gone_stands_not : (links : List Link) (n : ℕ) (t : StreamTable) (s : StreamId) → AreLowersApart links
    → IsReleasing links n t → is_there t s ≡ false → stands_within t.fds links n s ≡ false
gone_stands_not links n t s apart h gone =
    let parts = or_parts (is_named t.fds s) (nat_lt 0 (number_at t.holds s)) gone in
    stands_is t.fds links n s apart ∙ rw parts.0 (by (find (λ l. same_stream l.lower s) links) n refl refl) where
      above_goes : (m : ℕ) (l : Link) → is_persistent l ≡ false → stands_within t.fds links n l.ctl ≡ false → m ≡ n
          → stands_by t.fds links m (Some l) ≡ false
      above_goes zero l o f e = o
      above_goes (suc m) l o f e = rw o
          (false_from_ne_true _ (λ up. let k = one_climb_more t.fds links m l.ctl up in
          false≢true (sym f ∙ subst (λ (x : ℕ). stands_within t.fds links x l.ctl ≡ true) e k)))

      by : (o : Option Link) (m : ℕ) → find (λ l. same_stream l.lower s) links ≡ o → m ≡ n
          → stands_by t.fds links m o ≡ false
      by None m e k = refl
      by (Some l) m e k =
          let orphaned = each_find (λ (k : Link). is_held t k ≡ false → is_orphaned t.fds links n k ≡ true) _ links l e
          (recursion_from_All _ links h.orphaned) in
          let parts = or_parts (is_named t.fds s) (nat_lt 0 (number_at t.holds s)) gone in
          let free : is_held t l ≡ false = ap (λ (x : StreamId). nat_lt 0 (number_at t.holds x))
          (stream_is l.lower s (find_passes _ links l e)) ∙ parts.1 in
          let two = and_parts (not (is_persistent l)) (not (stands_within t.fds links n l.ctl)) (orphaned free) in
          above_goes m l (not-true _ two.0) (not-true _ two.1) k

-- a loose link is orphaned
loose_orphaned : (links : List Link) (n : ℕ) (t : StreamTable) (l : Link) → AreLowersApart links → IsReleasing links n t
    → is_loose t l ≡ true → is_orphaned t.fds links n l ≡ true
loose_orphaned links n t l apart h loose = grind (arith, nat_tests, gone_stands_not)

-- one less, or the same
less_held : (a : Bool) (x y z : ℕ) → z ≡ (if a then x - 1 else y) → (a ≡ true → x ≡ y) → z ≤ y
less_held true x y z e same = let k = same refl in let one_less : z ≡ x - 1 = e in omega (arith, one_less, k)
less_held false x y z e same = let as_many : z ≡ y = e in omega (arith, as_many)

-- no stream has more holds than before the release
pub not_more_held : (t new : StreamTable) (s x : StreamId) → HasHolds t s (number_at t.holds s - 1) new
    → number_at new.holds x ≤ number_at t.holds x
not_more_held t new s x h = grind (arith, less_held, h.holds x, stream_is)

-- the release of a stream changes the holds of no other stream
pub other_held : (t new : StreamTable) (s x : StreamId) → HasHolds t s (number_at t.holds s - 1) new
    → same_stream x s ≡ false → number_at new.holds x ≡ number_at t.holds x
other_held t new s x h other = h.holds x ∙ rw other refl

-- if no stream has more holds, the streams below links have not more holds in total
not_more_below : (ls : List Link) (t new : StreamTable) → ((x : StreamId) → number_at new.holds x ≤ number_at t.holds x)
    → holds_below ls new ≤ holds_below ls t
not_more_below [] t new h = omega arith
not_more_below (l ∷ ls) t new h = let a = h l.lower in let b = not_more_below ls t new h in omega (arith, a, b)

-- if no stream has more holds, and the one below the link at an index has fewer, the total below links is smaller
less_at : (ls : List Link) (i : ℕ) (d : Link) (t new : StreamTable)
    → ((x : StreamId) → number_at new.holds x ≤ number_at t.holds x) → i < length ls
    → number_at new.holds (get_or ls i d).lower < number_at t.holds (get_or ls i d).lower
    → holds_below ls new < holds_below ls t
less_at [] i d t new h lt less = absurd (omega arith)
less_at (l ∷ ls) zero d t new h lt less = let b = not_more_below ls t new h in omega (arith, less, b)
less_at (l ∷ ls) (suc i) d t new h lt less =
    let a = h l.lower in let b = less_at ls i d t new h (omega arith) less in omega (arith, a, b)

-- the lower stream of a loose link is held
pub loose_held : (t : StreamTable) (l : Link) → is_loose t l ≡ true → 0 < number_at t.holds l.lower
loose_held t l loose = grind (arith, nat_tests)

-- the link that was read at an index is the one there
pub this_one : (ls : List Link) (i : ℕ) (l : Link) → Some l ≡ slice_get ls i → get_or ls i l ≡ l
this_one ls i l e = get_or_from_slice_get ls i l l (sym e)

-- after the lower stream of a loose link is released, the conditions for releasing streams still hold
pub releases_this : (links : List Link) (n i : ℕ) (l : Link) (t new : StreamTable) → AreLowersApart links
    → Some l ≡ slice_get links i → is_loose t l ≡ true
    → HasHolds t l.lower (number_at t.holds l.lower - 1) new → IsReleasing links n t → IsReleasing links n new
releases_this links n i l t new apart at loose h was =
    grind (
      arith,
      not_more_held t new l.lower,
      get_or_from_slice_get links i l,
      one_link links i,
      slice_get_within links i l (sym at),
      loose_orphaned links n t l apart was loose,
      other_held t new l.lower,
    )

-- after the lower stream of the loose link at an index is released, the streams below links have fewer holds in total
pub less_this : (links : List Link) (i : ℕ) (l : Link) (t new : StreamTable) → Some l ≡ slice_get links i
    → is_loose t l ≡ true
    → HasHolds t l.lower (number_at t.holds l.lower - 1) new → holds_below links new < holds_below links t
less_this links i l t new at loose h =
    let up = loose_held t l loose in
    let here : number_at new.holds l.lower ≡ number_at t.holds l.lower - 1 = h.holds l.lower
    ∙ rw (stream_self l.lower) refl in
    less_at links i l t new (λ x. not_more_held t new l.lower x h) (slice_get_within links i l (sym at))
    (rw (this_one links i l at) (omega (arith, up, here)))

-- ---- a walk over the links

-- the link at which a loop over links is
abbrev pub link_at : List Link → ℕ → Link
link_at links i = get_or links i (record { id = 0; ctl = none; lower = none; kind = kind.Ordinary }) where
  none : StreamId
  none = record { driver = 0; minor = 0 }

-- this link is in the table, and so in an equal list of links
pub one_at : (xs ys : List Link) (i : ℕ) → ys ≡ xs → i < length ys → Some (link_at ys i) ≡ slice_get xs i
one_at xs ys i same lt = sym (slice_get-get_or ys i _ lt) ∙ ap (λ (zs : List Link). slice_get zs i) same

-- the release of the lower stream of a loose link at which a walk is leaves fewer holds below links
pub less_there : (links listed : List Link) (i : ℕ) (ctl : StreamId) (t new : StreamTable) → listed ≡ links
    → i < length listed → (same_stream (link_at listed i).ctl ctl && is_loose t (link_at listed i)) ≡ true
    → HasHolds t (link_at listed i).lower (number_at t.holds (link_at listed i).lower - 1) new
    → holds_below links new < holds_below links t
less_there links listed i ctl t new same lt loose h =
    less_this links i (link_at listed i) t new (one_at links listed i same lt)
    (and_parts (same_stream (link_at listed i).ctl ctl) (is_loose t (link_at listed i)) loose).1 h
