-- Links by their lower streams, and the results of look-ups by these.
use Rattle.smx_model.proofs.Common.{◌≡◌, ℕ, zero, suc, ◌<◌, Bool, true, false, cond, not, eqb, List, [], ◌∷◌, ◌++◌}
use Rattle.smx_model.proofs.Common.{filter, find, Option, get_or, length, take, Some, None, refl, sym, ap, ◌∙◌}
use Rattle.smx_model.proofs.Common.{arith, inl, inr, nat_lt, All, list_any, lookup, option_map, is_some, cases_Bool}
use Rattle.smx_model.proofs.Common.{eqb-true, nat_tests, same_Some, Link, StreamId, same_stream}
use Rattle.smx_model.proofs.Common.{IsRising, AreLowersApart, is_below}
use Rattle.std.proofs.lemmas.List.Elements.{All-head, All-tail, All-weaker}
use Rattle.smx_links.specs.Keys.{Key, HasIds, id_above, is_key, key_of}
use Rattle.smx_links.proofs.IdLemmas.{later_stay, before_found}

-- equal streams

-- equality of streams is symmetric
same_sym : (s t : StreamId) → same_stream s t ≡ same_stream t s
same_sym s t = grind (arith, nat_tests)

-- equal streams pass the same tests
same_congr : (s t u : StreamId) → same_stream s t ≡ true → same_stream s u ≡ same_stream t u
same_congr s t u h = grind (arith, nat_tests)

-- searches

-- a search finds an element exactly if some element passes the test
pub any_found : {X : Type 0} (test : X → Bool) (xs : List X) → is_some (find test xs) ≡ list_any test xs
any_found test [] = refl
any_found test (x ∷ xs) = elim (cases_Bool (test x)) [ inl t ↦ rw t refl | inr f ↦ rw f (any_found test xs) ]

-- a look-up finds an id exactly if the stream is below a link
pub some_above : (ls : List Link) (s : StreamId) → is_some (id_above ls s) ≡ is_below ls s
some_above ls s = mapped (find (λ l. same_stream l.lower s) ls) ∙ any_found (λ l. same_stream l.lower s) ls where
  mapped : (o : Option Link) → is_some (option_map (λ l. l.id) o) ≡ is_some o
  mapped None = refl
  mapped (Some l) = refl

-- a property of all elements holds of the element that is found
pub found_has : {X : Type 0} (P : X → Type 0) (test : X → Bool) (xs : List X) (x : X) → All P xs → find test xs ≡ Some x
    → P x
found_has P test [] x all h = absurd cc
found_has {X} P test (y ∷ ys) x all h =
    grind (arith, same_Some y x, All-head P y ys all, found_has P test ys x (All-tail P y ys all), All-tail P y ys all)

-- one more link

-- the id above a stream, after one more link
above_more : (ls : List Link) (l : Link) (s : StreamId) → is_below ls l.lower ≡ false
    → id_above (ls ++ l ∷ []) s ≡ cond (same_stream l.lower s) (Some l.id) (id_above ls s)
above_more [] l s h = elim (cases_Bool (same_stream l.lower s)) [ inl t ↦ rw t refl | inr f ↦ rw f refl ]
above_more (k ∷ ks) l s h = grind (arith, same_congr k.lower s l.lower, same_sym s l.lower, above_more ks l s)

-- the map of ids after one more link
pub ids_more : (es fs : List (Key × ℕ)) (ls : List Link) (l : Link) → HasIds es ls → is_below ls l.lower ≡ false
    → ((s : StreamId) → lookup (is_key (key_of s)) fs
    ≡ cond (same_stream l.lower s) (Some l.id) (lookup (is_key (key_of s)) es))
    → HasIds fs (ls ++ l ∷ [])
ids_more es fs ls l h free put s = grind (arith, put s, h s, above_more ls l s free)

-- one link removed

-- if all lower streams differ, those of the links after the first one differ from the first
apart_head : (k : Link) (ks : List Link) → AreLowersApart (k ∷ ks) → All (λ l. same_stream k.lower l.lower ≡ false) ks
apart_head k ks h = λ i d lt. h 0 (suc i) d (omega arith) (omega arith)

-- if all lower streams differ, so do those of the links after the first one
apart_tail : (k : Link) (ks : List Link) → AreLowersApart (k ∷ ks) → AreLowersApart ks
apart_tail k ks h = λ i j d lt long. h (suc i) (suc j) d (omega arith) (omega arith)

-- the lower stream of the link at an index is not that of an earlier link
pub earlier_free : (ls : List Link) (i : ℕ) (d : Link) → AreLowersApart ls → i < length ls
    → is_below (take i ls) (get_or ls i d).lower ≡ false
earlier_free [] i d h lt = absurd (omega arith)
earlier_free (l ∷ ls) zero d h lt = refl
earlier_free (l ∷ ls) (suc i) d h lt =
    rw (apart_head l ls h i d (omega arith)) (earlier_free ls i d (apart_tail l ls h) (omega arith))

-- no link is above a stream that differs from each lower stream
none_above : (s : StreamId) (ks : List Link) → All (λ l. same_stream s l.lower ≡ false) ks
    → find (λ l. same_stream l.lower s) ks ≡ None
none_above s [] h = refl
none_above s (k ∷ ks) h =
    let f : same_stream k.lower s ≡ false = same_sym k.lower s
    ∙ All-head (λ (l : Link). same_stream s l.lower ≡ false) k ks h in
    rw f (none_above s ks (All-tail (λ (l : Link). same_stream s l.lower ≡ false) k ks h))

-- the id above a stream, after the link that was found by its id is removed
above_less : (ls : List Link) (l : Link) (id : ℕ) (s : StreamId) → AreLowersApart ls
    → IsRising (λ l k. nat_lt l.id k.id) ls → find (λ l. eqb l.id id) ls ≡ Some l
    → find (λ l. same_stream l.lower s) (filter (λ l. not (eqb l.id id)) ls)
    ≡ cond (same_stream l.lower s) None (find (λ l. same_stream l.lower s) ls)
above_less [] l id s apart rise h = absurd cc
above_less (k ∷ ks) l id s apart rise h = elim (cases_Bool (eqb k.id id)) [
  | inl t ↦
      let is : k ≡ l = same_Some k l (rw t at h) in
      rw (t, later_stay k ks id (eqb-true k.id id t) rise.0, ← is) (elim (cases_Bool (same_stream k.lower s)) [
        | inl same ↦ rw same (none_above s ks
            (All-weaker (λ (j : Link). same_stream k.lower j.lower ≡ false)
            (λ (j : Link). same_stream s j.lower ≡ false) (λ j f. sym (same_congr k.lower s j.lower same) ∙ f) ks
            (apart_head k ks apart)))
        | inr other ↦ rw other refl
      ])
  | inr f ↦
      let rest : find (λ l. eqb l.id id) ks ≡ Some l = rw f at h in
      rw f (elim (cases_Bool (same_stream k.lower s)) [
        | inl same ↦ rw (
          same,
          same_sym l.lower s ∙ sym (same_congr k.lower s l.lower same)
              ∙ found_has (λ (j : Link). same_stream k.lower j.lower ≡ false) _ ks l (apart_head k ks apart) rest,
        ) refl
        | inr other ↦ rw other (above_less ks l id s (apart_tail k ks apart) rise.1 rest)
      ])
]

-- the map of ids after the link that was found is removed
pub ids_less : (es fs : List (Key × ℕ)) (ls : List Link) (l : Link) (id : ℕ) → AreLowersApart ls
    → IsRising (λ l k. nat_lt l.id k.id) ls → HasIds es ls
    → find (λ l. eqb l.id id) ls ≡ Some l
    → ((s : StreamId) → lookup (is_key (key_of s)) fs
    ≡ cond (same_stream l.lower s) None (lookup (is_key (key_of s)) es))
    → HasIds fs (filter (λ l. not (eqb l.id id)) ls)
ids_less es fs ls l id apart rise h found taken s = grind (arith, taken s, h s, above_less ls l id s apart rise found)

-- the link above a stream, by its id

-- if ids rise, a link found by any test is found by its id
found_by_id : (test : Link → Bool) (ls : List Link) (l : Link) → IsRising (λ l k. nat_lt l.id k.id) ls
    → find test ls ≡ Some l → find (λ k. eqb k.id l.id) ls ≡ Some l
found_by_id test [] l rise h = absurd cc
found_by_id test (k ∷ ks) l rise h = grind (arith, same_Some, before_found, found_by_id test ks l rise.1)

-- the id that a look-up finds is that of the link above the stream
pub above_found : (es : List (Key × ℕ)) (ls : List Link) (s : StreamId) (id : ℕ)
    → IsRising (λ l k. nat_lt l.id k.id) ls → HasIds es ls
    → lookup (is_key (key_of s)) es ≡ Some id → find (λ l. eqb l.id id) ls ≡ find (λ l. same_stream l.lower s) ls
above_found es ls s id rise h at = by (find (λ l. same_stream l.lower s) ls) refl where
  by : (o : Option Link) → find (λ l. same_stream l.lower s) ls ≡ o → find (λ l. eqb l.id id) ls ≡ o
  by None none = let k : ◌≡◌ {A = Option ℕ} (Some id) None = sym at ∙ h s
      ∙ ap (option_map (λ (l : Link). l.id)) none in absurd cc
  by (Some l) some =
      let e = same_Some id l.id (sym at ∙ h s ∙ ap (option_map (λ (l : Link). l.id)) some) in
      rw e (found_by_id (λ l. same_stream l.lower s) ls l rise some)

-- if a look-up by a stream finds no id, no link is above the stream
pub above_none : (es : List (Key × ℕ)) (ls : List Link) (s : StreamId) → HasIds es ls
    → lookup (is_key (key_of s)) es ≡ None → find (λ l. same_stream l.lower s) ls ≡ None
above_none es ls s h at = grind arith
