-- At most one link is above a stream, and at most one has an id, so that this link is found.
use Rattle.smx_tables.proofs.Common.{◌≡◌, ℕ, zero, suc, ◌<◌, Bool, true, false, ◌&&◌, eqb, List, [], ◌∷◌, map, filter}
use Rattle.smx_tables.proofs.Common.{get_or, find, Some, None, refl, sym, ap, ◌∙◌, arith, nat_lt, list_any}
use Rattle.smx_tables.proofs.Common.{option_map_or, or-false, false≢true, nat_tests, Link, StreamId, same_stream}
use Rattle.smx_tables.proofs.Common.{AreLowersApart, is_below}
use Rattle.std.proofs.Common.{length}
use Rattle.std.proofs.Math.Bool.{and_comm}
use Rattle.std.proofs.lemmas.List.Folds.{list_any_at}
use Rattle.std.proofs.lemmas.Option.{same_Some}
use Rattle.smx_model.specs.Ordered.{ComesBefore, IsRising}
use Rattle.smx_model.proofs.TestLemmas.{any_more}
use Rattle.smx_streams.proofs.NameLemmas.{same_sym}
-- streams that pass the test `same_stream` are equal, and each stream passes it with itself
pub use Rattle.smx_streams.proofs.GridLemmas.{same_is as stream_is, same_self as stream_self}

-- the test whether two streams are equal is symmetric
pub stream_turned : (x y : StreamId) → same_stream x y ≡ same_stream y x
stream_turned x y = grind (arith, nat_tests)

-- the test whether two numbers are equal is symmetric
pub eqb_swap : (x y : ℕ) → eqb x y ≡ eqb y x
eqb_swap x y = grind (arith, nat_tests)

-- at most one link passes the test
abbrev pub IsOnce : (Link → Bool) → List Link → Type 0
IsOnce key [] = Unit {0}
IsOnce key (l ∷ ls) = (key l ≡ true → list_any key ls ≡ false) × IsOnce key ls

-- if no link passes a test, no link passes both it and another test
none_also : (key t u : Link → Bool) (ls : List Link) → ((l : Link) → u l ≡ (key l && t l)) → list_any key ls ≡ false
    → list_any u ls ≡ false
none_also key t u ls e h = grind (arith, any_more u key ls)

-- if at most one link passes a test, some link passes both it and another one exactly if the link that the first test
-- finds passes the other
pub any_once : (key t u : Link → Bool) (ls : List Link) → IsOnce key ls → ((l : Link) → u l ≡ (key l && t l))
    → list_any u ls ≡ option_map_or t (find key ls) false
any_once key t u [] o e = refl
any_once key t u (l ∷ ls) o e = grind (arith, e l, none_also key t u ls e, or-false (t l), any_once key t u ls o.1 e)

-- ---- no stream is below two links

-- a stream that differs from the lower stream of each link is below no link
none_below : (s : StreamId) (ls : List Link)
    → ((j : ℕ) (d : Link) → j < length ls → same_stream s (get_or ls j d).lower ≡ false)
    → list_any (λ l. same_stream l.lower s) ls ≡ false
none_below s [] h = refl
none_below s (l ∷ ls) h =
    rw (same_sym s l.lower (h 0 l (omega arith))) (none_below s ls (λ j d lt. h (suc j) d (omega arith)))

-- if no stream is below two links, at most one link is above a stream
pub once_below : (s : StreamId) (ls : List Link) → AreLowersApart ls → IsOnce (λ l. same_stream l.lower s) ls
once_below s [] h = tt
once_below s (l ∷ ls) h = (
  (λ k. ap (λ (x : StreamId). list_any (λ m. same_stream m.lower x) ls) (sym (stream_is l.lower s k))
      ∙ none_below l.lower ls (λ j d lt. h 0 (suc j) d (omega arith) (omega arith))),
  once_below s ls (λ i j d lt in_range. h (suc i) (suc j) d (omega arith) (omega arith)),
)

-- if the id of a link is below those of the later links, no later link has it
none_later : (l : Link) (ls : List Link) → ComesBefore (λ l k. nat_lt l.id k.id) l ls
    → list_any (λ k. eqb k.id l.id) ls ≡ false
none_later l [] h = refl
none_later l (k ∷ ls) h = grind (arith, nat_tests, none_later l ls h.1)

-- the ids of the links rise
abbrev pub IsIdsRising : List Link → Type 0
IsIdsRising ls = IsRising (λ l k. nat_lt l.id k.id) ls

-- if the ids of links rise, at most one link has a given id
pub once_id : (id : ℕ) (ls : List Link) → IsIdsRising ls → IsOnce (λ l. eqb l.id id) ls
once_id id [] h = tt
once_id id (l ∷ ls) h = grind (arith, none_later l ls h.0, once_id id ls h.1)

-- if ids rise, some link with an id passes a test exactly if the link that is found by this id passes it
pub any_with_id : (t : Link → Bool) (id : ℕ) (ls : List Link) → IsIdsRising ls
    → list_any (λ l. eqb l.id id && t l) ls ≡ option_map_or t (find (λ l. eqb l.id id) ls) false
any_with_id t id ls h = any_once (λ l. eqb l.id id) t (λ l. eqb l.id id && t l) ls (once_id id ls h) (λ l. refl)

-- the link above a stream has an id exactly if the link with this id is above the stream
pub above_with_id : (links : List Link) (id : ℕ) (x : StreamId) → AreLowersApart links → IsIdsRising links
    → option_map_or (λ k. eqb k.id id) (find (λ k. same_stream k.lower x) links) false
    ≡ option_map_or (λ k. same_stream k.lower x) (find (λ k. eqb k.id id) links) false
above_with_id links id x apart rise =
    sym (any_once (λ k. same_stream k.lower x) (λ k. eqb k.id id) (λ k. eqb k.id id && same_stream k.lower x) links
    (once_below x links apart) (λ k. and_comm (eqb k.id id) (same_stream k.lower x)))
    ∙ any_with_id (λ k. same_stream k.lower x) id links rise

-- the link that is found by an id passes a test exactly if some link with this id passes it
pub some_with_id : (t : Link → Bool) (id : ℕ) (ls : List Link) (l : Link) → IsIdsRising ls
    → Some l ≡ find (λ l. eqb l.id id) ls → t l ≡ list_any (λ l. eqb l.id id && t l) ls
some_with_id t id ls l h e = sym (any_with_id t id ls h ∙ rw (sym e) refl)

-- if no link is found by an id, no link with this id passes a test
pub none_with_id : (t : Link → Bool) (id : ℕ) (ls : List Link) → IsIdsRising ls
    → None ≡ find (λ l. eqb l.id id) ls → false ≡ list_any (λ l. eqb l.id id && t l) ls
none_with_id t id ls h e = sym (any_with_id t id ls h ∙ rw (sym e) refl)

-- if no link has an id, a filter for this id and another test keeps nothing
none_kept : (t : Link → Bool) (id : ℕ) (ls : List Link) → list_any (λ l. eqb l.id id) ls ≡ false
    → filter (λ l. eqb l.id id && t l) ls ≡ []
none_kept t id [] h = refl
none_kept t id (l ∷ ls) h = grind (arith, none_kept t id ls)

-- if at most one link has an id, and a link with this id passes a further test, the ids of all such links are this one
-- id
ids_of_one : (t : Link → Bool) (id : ℕ) (ls : List Link) → IsOnce (λ l. eqb l.id id) ls
    → list_any (λ l. eqb l.id id && t l) ls ≡ true → map (λ l. l.id) (filter (λ l. eqb l.id id && t l) ls) ≡ id ∷ []
ids_of_one t id [] o h = absurd (false≢true h)
ids_of_one t id (l ∷ ls) o h = grind (arith, none_kept t id ls, ids_of_one t id ls o.1)

-- if ids rise and a link with an id passes a test, the ids of all links with both are this one id
pub target_of_id : (t : Link → Bool) (id : ℕ) (ls : List Link) → IsIdsRising ls
    → list_any (λ l. eqb l.id id && t l) ls ≡ true → map (λ l. l.id) (filter (λ l. eqb l.id id && t l) ls) ≡ id ∷ []
target_of_id t id ls rise h = ids_of_one t id ls (once_id id ls rise) h

-- ---- links that are found

-- if at most one link passes a test, each link that passes it is the one that is found
pub found_itself : (test : Link → Bool) (ls : List Link) (i : ℕ) (d : Link) → IsOnce test ls → i < length ls
    → test (get_or ls i d) ≡ true → find test ls ≡ Some (get_or ls i d)
found_itself test [] i d o lt h = absurd (omega arith)
found_itself test (l ∷ ls) zero d o lt h = rw h refl
found_itself test (l ∷ ls) (suc i) d o lt h = grind (arith, list_any_at, found_itself test ls i d o.1 (omega arith) h)

-- the lower stream of each link is below a link
pub below_at : (ls : List Link) (i : ℕ) (d : Link) → i < length ls → is_below ls (get_or ls i d).lower ≡ true
below_at ls i d lt = grind (arith, list_any_at, stream_self (get_or ls i d).lower)

-- two links with the same lower stream are equal
pub one_link : (ls : List Link) (i j : ℕ) (d : Link) → AreLowersApart ls → i < length ls → j < length ls
    → same_stream (get_or ls j d).lower (get_or ls i d).lower ≡ true → get_or ls j d ≡ get_or ls i d
one_link ls i j d apart lt in_range same = grind (arith, once_below, found_itself, stream_self, same_Some)
