-- Links as the entries of a map by id, and ids as the entries of a map by lower stream.
use Rattle.smx_model.proofs.Common.{◌≡◌, ℕ, false, cond, not, eqb, List, [], ◌∷◌, ◌++◌, map, filter, find, Option, Some}
use Rattle.smx_model.proofs.Common.{None, refl, sym, ap, ◌∙◌, arith, inl, inr, nat_lt, lookup, values_of, cases_Bool}
use Rattle.smx_model.proofs.Common.{eqb-true, nat_tests, Link, IsRising, AreLowersApart, is_below}
use Rattle.std.specs.Map.{remove_entry}
use Rattle.std.proofs.lemmas.List.{map-append}
use Rattle.smx_links.specs.Keys.{Key, AreFound, is_key, key_of, under_id}
use Rattle.smx_links.proofs.IdLemmas.{later_stay}
use Rattle.smx_links.proofs.LowerLemmas.{ids_less, ids_more}

-- a link by its id

-- equality of numbers is symmetric
eqb_sym : (x y : ℕ) → eqb x y ≡ eqb y x
eqb_sym x y = grind (arith, nat_tests)

-- a look-up by id in the map of links is a search in the list
lookup_links : (ls : List Link) (id : ℕ) → lookup (eqb id) (map under_id ls) ≡ find (λ l. eqb l.id id) ls
lookup_links [] id = refl
lookup_links (l ∷ ls) id = rw (eqb_sym id l.id, lookup_links ls id) refl

-- the same holds for a map that has its links at their ids
pub lookup_id : (es : List (ℕ × Link)) (is : List (Key × ℕ)) (id : ℕ) → AreFound es is
    → lookup (eqb id) es ≡ find (λ l. eqb l.id id) (values_of es)
lookup_id es is id h = ap (lookup (eqb id)) h.keyed ∙ lookup_links (values_of es) id

-- a map in which the entry at a key is now w, or is removed if w is `None`
abbrev Sets : List (Key × ℕ) → List (Key × ℕ) → Key → Option ℕ → Type 0
Sets old new k w = (q : Key) → lookup (is_key q) new ≡ cond (is_key k q) w (lookup (is_key q) old)

-- the same change, from the map as it was before room was made
pub sets_from : (before old new : List (Key × ℕ)) (k : Key) (w : Option ℕ) → old ≡ before → Sets old new k w
    → Sets before new k w
sets_from before old new k w e s q = s q ∙ ap (λ (es : List (Key × ℕ)). cond (is_key k q) w (lookup (is_key q) es)) e

-- one more link

-- the links of a map with one more entry
pub values_push : (es : List (ℕ × Link)) (l : Link) → values_of (es ++ under_id l ∷ []) ≡ values_of es ++ l ∷ []
values_push es l = map-append (λ (e : ℕ × Link). e.1) es (under_id l ∷ [])

-- both maps are consistent after one more link is set in both
pub found_push : (es fs : List (ℕ × Link)) (is js : List (Key × ℕ)) (l : Link) → AreFound es is
    → is_below (values_of es) l.lower ≡ false → fs ≡ es ++ under_id l ∷ []
    → Sets is js (key_of l.lower) (Some l.id) → AreFound fs js
found_push es fs is js l h free more set = rw more (record {
  keyed = ap (λ (x : List (ℕ × Link)). x ++ under_id l ∷ []) h.keyed
      ∙ sym (map-append under_id (values_of es) (l ∷ [])) ∙ ap (map under_id) (sym (values_push es l));
  lowers = rw (values_push es l) (ids_more is js (values_of es) l h.lowers free (λ s. set (key_of s)));
})

-- one link removed

-- removing the entry of an id that occurs once removes that link
removed_links : (ls : List Link) (id : ℕ) → IsRising (λ l k. nat_lt l.id k.id) ls
    → remove_entry (eqb id) (map under_id ls) ≡ map under_id (filter (λ l. not (eqb l.id id)) ls)
removed_links [] id rise = refl
removed_links (l ∷ ls) id rise = elim (cases_Bool (eqb l.id id)) [
  | inl t ↦ rw (eqb_sym id l.id, t) (ap (map under_id) (sym (later_stay l ls id (eqb-true l.id id t) rise.0)))
  | inr f ↦ rw (eqb_sym id l.id, f) (ap (λ (es : List (ℕ × Link)). under_id l ∷ es) (removed_links ls id rise.1))
]

-- links are the values of their map
values_links : (ls : List Link) → values_of (map under_id ls) ≡ ls
values_links [] = refl
values_links (l ∷ ls) = ap (λ (ks : List Link). l ∷ ks) (values_links ls)

-- the remaining entries are those of the remaining links
removed_entries : (es : List (ℕ × Link)) (is : List (Key × ℕ)) (id : ℕ) → AreFound es is
    → IsRising (λ l k. nat_lt l.id k.id) (values_of es)
    → remove_entry (eqb id) es ≡ map under_id (filter (λ l. not (eqb l.id id)) (values_of es))
removed_entries es is id h rise = ap (remove_entry (eqb id)) h.keyed ∙ removed_links (values_of es) id rise

-- the remaining links
pub values_less : (es fs : List (ℕ × Link)) (is : List (Key × ℕ)) (id : ℕ) → AreFound es is
    → IsRising (λ l k. nat_lt l.id k.id) (values_of es) → fs ≡ remove_entry (eqb id) es
    → values_of fs ≡ filter (λ l. not (eqb l.id id)) (values_of es)
values_less es fs is id h rise less = grind (arith, removed_entries es is id h rise, values_links)

-- both maps are consistent after one link is removed from both
pub found_less : (es fs : List (ℕ × Link)) (is js : List (Key × ℕ)) (l : Link) (id : ℕ) → AreFound es is
    → AreLowersApart (values_of es) → IsRising (λ l k. nat_lt l.id k.id) (values_of es)
    → fs ≡ remove_entry (eqb id) es → find (λ l. eqb l.id id) (values_of es) ≡ Some l
    → Sets is js (key_of l.lower) None → AreFound fs js
found_less es fs is js l id h apart rise less found set =
    let left = values_less es fs is id h rise less in
    record {
      keyed = less ∙ removed_entries es is id h rise ∙ ap (map under_id) (sym left);
      lowers = rw left (ids_less is js (values_of es) l id apart rise h.lowers found (λ s. set (key_of s)));
    }
