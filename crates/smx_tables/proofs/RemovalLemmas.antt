-- Removing links by their ids removes the links that pass the test by which the ids were listed.
use Rattle.smx_tables.proofs.Common.{◌≡◌, ℕ, Bool, true, false, ◌&&◌, not, eqb, List, [], ◌∷◌, map, filter, find}
use Rattle.smx_tables.proofs.Common.{get_or, refl, sym, ap, subst, ◌∙◌, arith, rules, and-false, and-true, list_any}
use Rattle.smx_tables.proofs.Common.{AllByRecursion, option_map_or, eq-eqb, filter_agree, recursion_from_All, Link}
use Rattle.smx_tables.proofs.Common.{Place, StreamId, Configuration, QueuedMessage, same_stream, AreLowersApart}
use Rattle.smx_tables.proofs.Common.{without_links, is_below, is_one_of, is_listed, is_read_below_listed, AreIdsOf}
use Rattle.std.proofs.Common.{length}
use Rattle.std.proofs.lemmas.Bool.{eqb-true}
use Rattle.std.proofs.lemmas.List.{nil_from_length}
use Rattle.smx_types.specs.declared.link.Route.{Route}
use Rattle.smx_types.specs.declared.stream.Side.TheVariants as side
use Rattle.smx_model.specs.Configuration.{same_side}
use Rattle.smx_model.proofs.EachLemmas.{each_map}
use Rattle.smx_model.specs.Removal.{is_read_below}
use Rattle.smx_tables.proofs.AboveLemmas.{any_once, any_with_id, eqb_swap, found_itself, once_below, once_id}
use Rattle.smx_tables.proofs.AboveLemmas.{IsIdsRising}

-- the ids of the links that go
abbrev pub ids_of : (Link → Bool) → List Link → List ℕ
ids_of goes ls = map (λ l. l.id) (filter goes ls)

-- the ids list the links that go, and no others
abbrev pub IsListOf : (Link → Bool) → List ℕ → List Link → Type 0
IsListOf goes ids ls = AllByRecursion (λ l. is_listed ids l.id ≡ goes l) ls

-- two tests that agree on each item of a list keep the same items
pub kept_alike : {X : Type 0} (p q : X → Bool) (xs : List X) → AllByRecursion (λ x. p x ≡ q x) xs
    → filter p xs ≡ filter q xs
kept_alike p q [] h = refl
kept_alike p q (x ∷ xs) h = grind (arith, kept_alike p q xs h.1)

-- two tests that agree on each link leave the same links
pub links_stay : (f g : Link → Bool) (ls : List Link) → AllByRecursion (λ l. f l ≡ g l) ls
    → filter (λ l. not (f l)) ls ≡ filter (λ l. not (g l)) ls
links_stay f g ls h = kept_alike _ _ ls (each_map _ _ ls (λ l e. ap not e) h)

-- the list of the ids of some links contains an id exactly if one of the links has it
route_listed : (ls : List Link) (id : ℕ) → is_listed (map (λ l. l.id) ls) id ≡ list_any (λ l. eqb l.id id) ls
route_listed [] id = refl
route_listed (l ∷ ls) id = rw (eqb_swap id l.id, route_listed ls id) refl

-- if two tests agree on each link, they agree on the link that is found
found_same : (f g key : Link → Bool) (ls : List Link) → AllByRecursion (λ l. f l ≡ g l) ls
    → option_map_or f (find key ls) false ≡ option_map_or g (find key ls) false
found_same f g key [] h = refl
found_same f g key (l ∷ ls) h = grind (arith, found_same f g key ls h.1)

-- some link that is kept passes a test exactly if some link passes both tests
pub any_kept : (key goes : Link → Bool) (ls : List Link)
    → list_any key (filter goes ls) ≡ list_any (λ l. key l && goes l) ls
any_kept key goes [] = refl
any_kept key goes (l ∷ ls) = grind (arith, and-true (key l), any_kept key goes ls, and-false (key l))

-- if ids rise, some link that is kept has an id exactly if the link that is found by this id is kept
pub kept_with_id : (goes : Link → Bool) (id : ℕ) (ls : List Link) → IsIdsRising ls
    → list_any (λ k. eqb k.id id) (filter goes ls) ≡ option_map_or goes (find (λ k. eqb k.id id) ls) false
kept_with_id goes id ls rise = any_kept (λ k. eqb k.id id) goes ls ∙ any_with_id goes id ls rise

-- the link above a stream is listed exactly if the stream is below a link that goes
below_listed : (goes : Link → Bool) (ids : List ℕ) (ls : List Link) (s : StreamId) → AreLowersApart ls
    → IsListOf goes ids ls
    → option_map_or (λ l. is_listed ids l.id) (find (λ l. same_stream l.lower s) ls) false ≡ is_below (filter goes ls) s
below_listed goes ids ls s apart h =
    found_same (λ l. is_listed ids l.id) goes (λ l. same_stream l.lower s) ls h
    ∙ sym (any_once (λ l. same_stream l.lower s) goes (λ l. same_stream l.lower s && goes l) ls (once_below s ls apart)
    (λ l. refl))
    ∙ sym (any_kept (λ l. same_stream l.lower s) goes ls)

-- a place is a read side below a listed link exactly if it is one below a link that goes
read_listed : (goes : Link → Bool) (ids : List ℕ) (ls : List Link) (p : Place) → AreLowersApart ls
    → IsListOf goes ids ls → is_read_below_listed ls ids p ≡ is_read_below (filter goes ls) p
read_listed goes ids ls p apart h = grind (arith, below_listed goes ids ls p.stream apart h)

-- two tests that agree on each item remove the same items
pub same_kept : {X : Type 0} (f g : X → Bool) (xs : List X) → ((x : X) → f x ≡ g x)
    → filter (λ x. not (f x)) xs ≡ filter (λ x. not (g x)) xs
same_kept f g xs h = filter_agree (λ x. not (f x)) (λ x. not (g x)) (λ x. ap not (h x)) xs

-- the ids of the links that go, in order, are the ids of these links
pub ids_in_order : (goes : Link → Bool) (ls : List Link) (ids : List ℕ) → ids ≡ ids_of goes ls → AreIdsOf goes ls ids
ids_in_order goes ls ids e id = ap (λ (xs : List ℕ). is_listed xs id) e ∙ route_listed (filter goes ls) id

-- the ids of the links that go list these links and no others, in any order
pub listed_any : (goes : Link → Bool) (ls : List Link) (ids : List ℕ) → IsIdsRising ls → AreIdsOf goes ls ids
    → IsListOf goes ids ls
listed_any goes ls ids rise h = recursion_from_All (λ l. is_listed ids l.id ≡ goes l) ls (λ i d lt.
    let l = get_or ls i d in
    h l.id ∙ kept_with_id goes l.id ls rise
    ∙ rw (found_itself (λ k. eqb k.id l.id) ls i d (once_id l.id ls rise) lt (eq-eqb l.id l.id refl)) refl)

-- the configuration without the links with these ids, the routes to them, and the messages and full marks of their
-- lower streams' read sides
abbrev pub without_listed : Configuration → List ℕ → Configuration
without_listed c ids = record c {
  links = filter (λ l. not (is_one_of ids l)) c.links;
  routes = filter (λ r. not (is_listed ids r.id)) c.routes;
  flow = filter (λ h. not (is_read_below_listed c.links ids h.place)) c.flow;
  fulls = filter (λ p. not (is_read_below_listed c.links ids p)) c.fulls;
}

-- a configuration with these links, routes, messages and full places
abbrev parts : Configuration → List Link → List Route → List QueuedMessage → List Place → Configuration
parts c links routes flow fulls = record c { links = links; routes = routes; flow = flow; fulls = fulls }

-- equal parts make equal configurations
same_parts : (c : Configuration) (ls ks : List Link) (rs ss : List Route) (hs gs : List QueuedMessage)
    (ps qs : List Place) → ls ≡ ks → rs ≡ ss → hs ≡ gs → ps ≡ qs → parts c ls rs hs ps ≡ parts c ks ss gs qs
same_parts c ls ks rs ss hs gs ps qs a b d e = cc

-- removing links by a list of their ids removes the links that go
pub removed_is : (c : Configuration) (ids : List ℕ) → AreLowersApart c.links → IsIdsRising c.links
    → (goes : Link → Bool) → AreIdsOf goes c.links ids → without_listed c ids ≡ without_links c goes
removed_is c ids apart rise goes h = search (rules, listed_any, same_parts, links_stay, same_kept, read_listed)

-- a list of length 0 is empty
pub is_nothing : (ids : List ℕ) → eqb (length ids) 0 ≡ true → ids ≡ []
is_nothing ids h = nil_from_length ids (eqb-true (length ids) 0 h)

-- if the ids of the links that go are an empty list, no link goes
none_goes : (goes : Link → Bool) (ls : List Link) → AreIdsOf goes ls [] → filter goes ls ≡ []
none_goes goes ls h = no_ids (filter goes ls) h where
  no_ids : (ks : List Link) → ((id : ℕ) → is_listed [] id ≡ list_any (λ l. eqb l.id id) ks) → ks ≡ []
  no_ids [] f = refl
  no_ids (k ∷ ks) f = let e : false ≡ true = f k.id ∙ rw (eq-eqb k.id k.id refl) refl in absurd cc

-- if no link goes, all links stay
all_stay : (goes : Link → Bool) (ls : List Link) → filter goes ls ≡ [] → filter (λ l. not (goes l)) ls ≡ ls
all_stay goes [] h = refl
all_stay goes (l ∷ ls) h = grind (arith, all_stay goes ls)

-- a test that no item passes removes nothing
pub none_passes : {X : Type 0} (t : X → Bool) (xs : List X) → ((x : X) → t x ≡ false) → filter (λ x. not (t x)) xs ≡ xs
none_passes {X = X} t [] h = refl
none_passes {X = X} t (x ∷ xs) h = rw (h x) (ap (λ (zs : List X). x ∷ zs) (none_passes t xs h))

-- an empty list of ids removes no link
pub none_listed : (ids : List ℕ) (ls : List Link) → ids ≡ [] → ls ≡ filter (λ l. not (is_one_of ids l)) ls
none_listed ids ls none = sym (none_passes (is_one_of ids) ls (λ l. ap (λ (xs : List ℕ). is_one_of xs l) none))

-- without links, no place is a read side below a link
no_read : (p : Place) → is_read_below [] p ≡ false
no_read p = and-false (same_side p.side side.Read)

-- if the list of ids is empty, removing the links that go changes nothing
pub nothing_removed : (c : Configuration) (ids : List ℕ) → ids ≡ [] → (goes : Link → Bool) → AreIdsOf goes c.links ids
    → c ≡ without_links c goes
nothing_removed c ids none goes h =
    let gone = filter goes c.links in
    let no_link : gone ≡ [] = none_goes goes c.links (subst (AreIdsOf goes c.links) none h) in
    sym (same_parts c _ c.links _ c.routes _ c.flow _ c.fulls (all_stay goes c.links no_link)
    (none_passes (λ (r : Route). list_any (λ l. eqb l.id r.id) gone) c.routes
    (λ r. ap (list_any (λ l. eqb l.id r.id)) no_link))
    (none_passes (λ (h : QueuedMessage). is_read_below gone h.place) c.flow
    (λ h. ap (λ (ls : List Link). is_read_below ls h.place) no_link ∙ no_read h.place))
    (none_passes (is_read_below gone) c.fulls (λ p. ap (λ (ls : List Link). is_read_below ls p) no_link ∙ no_read p)))
