-- The list of routes after each change of the table.
use Rattle.smx_model.proofs.Common.{◌≡◌, ℕ, ◌<◌, ◌+◌, ◌&&◌, ◌||◌, ◌==◌, not, List, [], ◌∷◌, ◌++◌, length, get_or, take}
use Rattle.smx_model.proofs.Common.{filter, find, Option, Some, None, refl, sym, ap, ◌∙◌, inl, inr, list_any}
use Rattle.smx_model.proofs.Common.{lookup, keys_of, option_map, cases_Bool, take_more, Route, route_before}
use Rattle.smx_model.proofs.Common.{with_inserted, arith}
use Rattle.std.specs.List.{IsDistinct}
use Rattle.std.proofs.lemmas.Map.Entries.{option_filter}
use Rattle.smx_addresses.specs.Keys.{Key, is_key}
use Rattle.smx_addresses.specs.RouteLists.{target_of}
use Rattle.smx_addresses.specs.TableFields.{Entries, route_of, routes_of}
use Rattle.smx_addresses.proofs.ChangeLemmas.{Sets, finds_filter, finds_replaced, rises_replaced, found_kept}
use Rattle.smx_addresses.proofs.KeyLemmas.{found_find}
use Rattle.smx_addresses.proofs.OrderLemmas.{rising_filter, apart_rising}
use Rattle.smx_addresses.proofs.ListedTableLemmas.{Stands, in_order_stands, computed_is}

-- the list of a table

-- the table of routes contains exactly these routes, in order
abbrev pub HasList : Entries → List Route → Type 0
HasList = Stands target_of (λ r. r.id)

-- a route is determined by its address and its link
pub route_exact : (x y : Route) → target_of x ≡ target_of y → x.id ≡ y.id → x ≡ y
route_exact x y e f i = record { driver = (e i).0; addr = (e i).1; id = f i }

-- if no address occurs twice, a table of routes contains its own routes
pub has_list : (es : Entries) → IsDistinct is_key (keys_of es) → HasList es (routes_of es)
has_list es u = in_order_stands target_of (λ r. r.id) route_exact route_of (λ e. refl) (λ e. refl) es u

-- the routes that a table contains, in order, are its own
pub list_is : (es : Entries) (rs : List Route) → IsDistinct is_key (keys_of es) → HasList es rs → routes_of es ≡ rs
list_is es rs u h = computed_is target_of (λ r. r.id) route_exact route_of (λ e. refl) (λ e. refl) es rs u h

-- look-ups

-- a search for a driver's address in the list finds the route that the table has there
pub find_route : (es : Entries) (rs : List Route) (d a : ℕ) (r : Option ℕ) → routes_of es ≡ rs
    → IsDistinct is_key (keys_of es) → r ≡ lookup (is_key (d, a)) es
    → find (λ r. (r.driver == d) && (r.addr == a)) rs
    ≡ option_map (λ (id : ℕ). record { driver = d; addr = a; id = id }) r
find_route es rs d a r e u at =
    ap (find (λ r. (r.driver == d) && (r.addr == a))) (sym e)
    ∙ found_find target_of (λ r. r.id) (λ k id. record { driver = k.0; addr = k.1; id = id }) (λ r. refl) (routes_of es)
    (d, a)
    ∙ ap (option_map (λ (id : ℕ). record { driver = d; addr = a; id = id }))
    (sym ((has_list es u).finds (d, a)) ∙ sym at)

-- a route set in place of the old one, and a route removed

-- after a new route for an address, the list lacks the old one and has the new one in order
pub routed : (xs us : Entries) (d a id : ℕ) → IsDistinct is_key (keys_of xs) → IsDistinct is_key (keys_of us)
    → Sets xs us (d, a) (Some id)
    → routes_of us ≡ with_inserted route_before (filter (λ r. not ((r.driver == d) && (r.addr == a))) (routes_of xs))
    (record { driver = d; addr = a; id = id })
routed xs us d a id u v s =
    let x : Route = record { driver = d; addr = a; id = id } in
    let k = has_list xs u in
    list_is us _ v
    (record {
      rises = rises_replaced target_of (λ r. r.id) (routes_of xs) x k.rises;
      finds = finds_replaced target_of (λ r. r.id) (routes_of xs) xs us x k.finds s;
    })

-- after the route for an address is removed, the list lacks only that one
pub unrouted : (xs us : Entries) (d a : ℕ) → IsDistinct is_key (keys_of xs) → IsDistinct is_key (keys_of us)
    → Sets xs us (d, a) None
    → routes_of us ≡ filter (λ r. not ((r.driver == d) && (r.addr == a))) (routes_of xs)
unrouted xs us d a u v s =
    let k = has_list xs u in
    list_is us _ v
    (record {
      rises = rising_filter route_before _ (routes_of xs) k.rises;
      finds = finds_filter target_of (λ r. r.id) (routes_of xs) xs us (d, a) k.finds s;
    })

-- the routes to a link removed

-- an address is left if its route leads to another link
abbrev pub Unlinks : Entries → Entries → ℕ → Type 0
Unlinks xs us id = (q : Key) → lookup (is_key q) us ≡ option_filter (λ n. not (n == id)) (lookup (is_key q) xs)

-- after the routes to a link are removed, the list lacks those with its id
pub unlinked : (xs us : Entries) (id : ℕ) → IsDistinct is_key (keys_of xs) → IsDistinct is_key (keys_of us)
    → Unlinks xs us id → routes_of us ≡ filter (λ r. not (r.id == id)) (routes_of xs)
unlinked xs us id u v s =
    let k = has_list xs u in
    list_is us _ v (record {
      rises = rising_filter route_before _ (routes_of xs) k.rises;
      finds = λ q. s q ∙ ap (option_filter (λ n. not (n == id))) (k.finds q)
          ∙ sym (found_kept target_of (λ r. r.id) (λ n. not (n == id)) (routes_of xs)
          (apart_rising target_of (routes_of xs) k.rises) q);
    })

-- the routes to one more link removed

-- a route leads to one of some links and one more exactly if it leads to one of them or to that one
ids_more : (ids : List ℕ) (id : ℕ) (r : Route)
    → list_any (λ i. r.id == i) (ids ++ id ∷ []) ≡ (list_any (λ i. r.id == i) ids || (r.id == id))
ids_more [] id r = elim (cases_Bool (r.id == id)) [ inl t ↦ rw t refl | inr f ↦ rw f refl ]
ids_more (x ∷ ids) id r = elim (cases_Bool (r.id == x)) [ inl t ↦ rw t refl | inr f ↦ rw f (ids_more ids id r) ]

-- removing the routes to some links, then those to one more, removes those to all of them
unlinked_more : (rs : List Route) (ids : List ℕ) (id : ℕ)
    → filter (λ r. not (r.id == id)) (filter (λ r. not (list_any (λ i. r.id == i) ids)) rs)
    ≡ filter (λ r. not (list_any (λ i. r.id == i) (ids ++ id ∷ []))) rs
unlinked_more [] ids id = refl
unlinked_more (r ∷ rs) ids id = grind (arith, ids_more ids id r, unlinked_more rs ids id)

-- removing the routes to the first i links, then those to the next one, removes those to the first i + 1
pub unlinked_next : (rs : List Route) (ids : List ℕ) (i : ℕ) → i < length ids
    → filter (λ r. not (r.id == get_or ids i 0)) (filter (λ r. not (list_any (λ i. r.id == i) (take i ids))) rs)
    ≡ filter (λ r. not (list_any (λ i. r.id == i) (take (i + 1) ids))) rs
unlinked_next rs ids i lt = rw (take_more ids i 0 lt) (unlinked_more rs (take i ids) (get_or ids i 0))

-- removing the routes to no links removes nothing
pub unlinked_none : (rs : List Route) → filter (λ r. not (list_any (λ i. r.id == i) [])) rs ≡ rs
unlinked_none [] = refl
unlinked_none (r ∷ rs) = ap (λ x. r ∷ x) (unlinked_none rs)
