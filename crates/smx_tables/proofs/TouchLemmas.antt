-- The streams that a change touches: those that ceased to exist, and what is left of the others.
use Rattle.smx_tables.proofs.Common.{◌≡◌, ℕ, suc, ◌+◌, ◌≤◌, Bool, true, false, ◌||◌, not, List, [], ◌∷◌, ◌++◌, map}
use Rattle.smx_tables.proofs.Common.{filter, get_or, refl, sym, ap, ◌∙◌, arith, inl, inr, All, list_any, list_all}
use Rattle.smx_tables.proofs.Common.{and_parts, or_cases, false≢true, nat_tests, DriverSpec, Link, Descriptor, Place}
use Rattle.smx_tables.proofs.Common.{StreamId, Configuration, same_stream, is_hung, without_links, exists}
use Rattle.smx_tables.proofs.Common.{is_persistent, StreamTable, HasHolds, AreHeld, TellsExisting, holds_below}
use Rattle.smx_tables.proofs.Common.{is_held, is_loose, IsTouched, is_there_or_touched, is_watched}
use Rattle.std.proofs.Common.{length}
use Rattle.std.proofs.lemmas.List.{length-map}
use Rattle.smx_model.specs.Removal.{without_queues_at}
use Rattle.smx_model.specs.Swept.{IsSwept}
use Rattle.smx_streams.specs.StreamTables.{exists as is_there}
use Rattle.smx_tables.specs.TouchedStreams.{IsCascade}
use Rattle.smx_tables.proofs.AboveLemmas.{below_at, stream_is}
use Rattle.smx_tables.proofs.ExistingLemmas.{all_fewer, all_weaker, held_is_below, holds_few, linked_weaker}
use Rattle.smx_tables.proofs.HungLemmas.{pass_all}
use Rattle.smx_tables.proofs.LengthLemmas.{not_more}
use Rattle.smx_tables.proofs.ReleaseLemmas.{starts}
use Rattle.smx_tables.proofs.WatchLemmas.{listed_more, there_same}

-- ---- all touched streams are in the table

-- a stream that is in the table or touched is in the table
pub touched_there : (t : StreamTable) (ss : List StreamId) (s : StreamId) → list_all (is_there t) ss ≡ true
    → is_there_or_touched t ss s ≡ true → is_there t s ≡ true
touched_there t ss s all h =
    elim (or_cases (is_there t s) (list_any (same_stream s) ss) h) [ inl a ↦ a | inr b ↦ one ss all b ] where
      one : (vs : List StreamId) → list_all (is_there t) vs ≡ true → list_any (same_stream s) vs ≡ true
          → is_there t s ≡ true
      one [] a b = absurd (false≢true b)
      one (v ∷ vs) a b =
          let p = and_parts (is_there t v) (list_all (is_there t) vs) a in
          elim (or_cases (same_stream s v) (list_any (same_stream s) vs) b)
          [ inl e ↦ ap (is_there t) (stream_is s v e) ∙ p.0 | inr k ↦ one vs p.1 k ]

-- the controlling stream of each ordinary link is in the table
pub linked_still : (t : StreamTable) (ss : List StreamId) (c : Configuration) → list_all (is_there t) ss ≡ true
    → IsTouched t ss c → list_all (λ l. is_persistent l || is_there t l.ctl) c.links ≡ true
linked_still t ss c all h = grind (arith, linked_weaker, touched_there)

-- nothing is left to sweep
pub swept_still : (drivers : List DriverSpec) (c : Configuration) (t : StreamTable) (ss : List StreamId)
    → TellsExisting drivers c t → list_all (is_there t) ss ≡ true → IsTouched t ss c
    → ((x : StreamId) → is_hung c.hungs x ≡ true → is_there t x ≡ true) → IsSwept drivers c
swept_still drivers c t ss told all h hung = record {
  links = linked_weaker (is_there_or_touched t ss) (exists drivers c) c.links there h.links;
  binds = all_weaker _ _ c.binds (λ b. there (record { driver = b.driver; minor = b.minor })) h.binds;
  flow = all_weaker _ _ c.flow (λ m. there m.place.stream) h.flow;
  fulls = all_weaker _ _ c.fulls (λ p. there p.stream) h.fulls;
  hungs = pass_all (exists drivers c) c.hungs (λ x up. sym (told x) ∙ hung x up);
} where
  there : (s : StreamId) → is_there_or_touched t ss s ≡ true → exists drivers c s ≡ true
  there s o = sym (told s) ∙ touched_there t ss s all o

-- no link is loose
pub none_loose_still : (t : StreamTable) (ss : List StreamId) (ls : List Link) → list_all (is_there t) ss ≡ true
    → list_all (is_watched t ss) ls ≡ true → list_any (is_loose t) ls ≡ false
none_loose_still t ss [] all h = refl
none_loose_still t ss (l ∷ ls) all h = grind (arith, touched_there, nat_tests, none_loose_still t ss ls all)

-- ---- streams that were in the table are in it or touched

-- if each stream that was in the table is in it or touched, so is each stream to which something in a swept
-- configuration belongs
pub touched_by : (drivers : List DriverSpec) (c : Configuration) (t u : StreamTable) (ss : List StreamId)
    → TellsExisting drivers c t → IsSwept drivers c
    → ((s : StreamId) → is_there t s ≡ true → is_there_or_touched u ss s ≡ true) → IsTouched u ss c
touched_by drivers c t u ss told h stays = grind (arith, linked_weaker, all_weaker)

-- other descriptors and hung-up streams don't change which streams must be in the table or touched
pub touched_beside : (t : StreamTable) (ss : List StreamId) (c : Configuration) (fds : List Descriptor)
    (hungs : List StreamId) → IsTouched t ss c → IsTouched t ss (record c { fds = fds; hungs = hungs })
touched_beside t ss c fds hungs h = record { links = h.links; binds = h.binds; flow = h.flow; fulls = h.fulls }

-- after links are removed, each stream with something is still in the table or touched
pub touched_without : (t : StreamTable) (ss : List StreamId) (c : Configuration) (goes : Link → Bool) → IsTouched t ss c
    → IsTouched t ss (without_links c goes)
touched_without t ss c goes h = grind (arith, all_fewer)

-- after places are emptied, each stream with something is still in the table or touched
pub touched_emptied : (t : StreamTable) (ss : List StreamId) (c : Configuration) (goes : Place → Bool)
    → IsTouched t ss c → IsTouched t ss (without_queues_at c goes)
touched_emptied t ss c goes h = grind (arith, all_fewer)

-- if each stream in one table or touched there is in another one or touched there, the condition carries over
pub touched_on : (t u : StreamTable) (ss vs : List StreamId) (c : Configuration) → IsTouched t ss c
    → ((s : StreamId) → is_there_or_touched t ss s ≡ true → is_there_or_touched u vs s ≡ true) → IsTouched u vs c
touched_on t u ss vs c h on = grind (arith, linked_weaker, all_weaker)

-- if one stream is released and touched, each stream that was in the table or touched still is
pub still_touched : (u v : StreamTable) (ss : List StreamId) (s : StreamId) (n : ℕ) → HasHolds u s n v
    → (x : StreamId) → is_there_or_touched u ss x ≡ true → is_there_or_touched v (ss ++ s ∷ []) x ≡ true
still_touched u v ss s n h x there = grind (arith, listed_more x ss s, there_same u v s x n h, nat_tests)

-- after one touched stream has been examined, each stream that was in the table, touched or seen still is
pub seen_more : (u v : StreamTable) (left rest now seen : List StreamId) (s x : StreamId) → left ≡ rest ++ s ∷ []
    → ((y : StreamId) → is_there_or_touched u rest y ≡ true → is_there_or_touched v now y ≡ true)
    → (is_there_or_touched u left x || list_any (same_stream x) seen) ≡ true
    → (is_there_or_touched v now x || list_any (same_stream x) (seen ++ s ∷ [])) ≡ true
seen_more u v left rest now seen s x last on h = grind (arith, on x, nat_tests, listed_more)

-- ---- before the cascade

-- if each stream below a link is held, there are at most as many holds below links as links
pub few_below : (links : List Link) (t : StreamTable) → AreHeld links t → (ls : List Link)
    → holds_below ls t ≤ length ls
few_below links t held [] = omega arith
few_below links t held (l ∷ ls) = grind (arith, holds_few links l.lower, few_below links t held ls)

-- if the controlling stream of each ordinary link is in the table or touched, and there is room, the conditions of the
-- cascade hold
pub cascade_at_first : (links : List Link) (t : StreamTable) (ss : List StreamId) (room : ℕ) → AreHeld links t
    → list_all (λ l. is_persistent l || is_there_or_touched t ss l.ctl) links ≡ true
    → length ss + length links ≤ room → IsCascade links t ss room
cascade_at_first links t ss room held h enough = record {
  releasing = λ n. starts links n t held;
  watched = all_weaker (λ l. is_persistent l || is_there_or_touched t ss l.ctl) (is_watched t ss) links watch h;
  enough = let few = few_below links t held links in omega (arith, few, enough);
} where
  watch : (l : Link) → (is_persistent l || is_there_or_touched t ss l.ctl) ≡ true → is_watched t ss l ≡ true
  watch l e = grind (arith, nat_tests)

-- if each stream below a link is held, no link's lower stream is free
pub none_free : (links : List Link) (t : StreamTable) → AreHeld links t → filter (λ l. not (is_held t l)) links ≡ []
none_free links t held =
    none links (λ i d lt. held_is_below links t (get_or links i d).lower held ∙ below_at links i d lt) where
      none : (ls : List Link) → All (λ l. is_held t l ≡ true) ls → filter (λ l. not (is_held t l)) ls ≡ []
      none [] h = refl
      none (l ∷ ls) h = rw (h 0 l (omega arith)) (none ls (λ i d lt. h (suc i) d (omega (arith, lt))))

-- there are at most as many ids of links that pass a test as links
pub few_ids : (t : Link → Bool) (ls : List Link) (ids : List ℕ) → ids ≡ map (λ l. l.id) (filter t ls)
    → length ids ≤ length ls
few_ids t ls ids e = grind (arith, length-map, not_more)
