-- The list of bindings after each change of the table.
use Rattle.smx_model.proofs.Common.{◌≡◌, ℕ, true, false, ◌&&◌, ◌||◌, ◌==◌, not, List, [], ◌∷◌, filter, find, is_some}
use Rattle.smx_model.proofs.Common.{Option, Some, None, refl, sym, ap, ◌∙◌, arith, inl, inr, list_any}
use Rattle.smx_model.proofs.Common.{lookup, keys_of, option_map, cases_Bool, false≢true, nat_tests, same_Some, Binding}
use Rattle.smx_model.proofs.Common.{bind_before, with_inserted}
use Rattle.std.specs.List.{IsDistinct}
use Rattle.smx_addresses.specs.BindingLists.{address_of, stream_of, IsBindingList}
use Rattle.smx_addresses.specs.Keys.{Key, is_key, found, AreApart}
use Rattle.smx_addresses.specs.TableFields.{Entries, binding_of, bindings_of, AreBindings}
use Rattle.smx_addresses.proofs.ChangeLemmas.{Sets, finds_inserted, finds_filter}
use Rattle.smx_addresses.proofs.KeyLemmas.{is_key_sym, key_same, found_any, found_find, none_of, filter_all}
use Rattle.smx_addresses.proofs.KeyLemmas.{apart_filter, apart_inserted}
use Rattle.smx_addresses.proofs.OrderLemmas.{rising_filter, rising_inserted, apart_rising}
use Rattle.smx_addresses.proofs.ListedTableLemmas.{Stands, in_order_stands, computed_is}

-- the list of a table

-- the table of addresses contains exactly these bindings, in order
abbrev pub HasList : Entries → List Binding → Type 0
HasList = Stands address_of (λ b. b.minor)

-- a binding is determined by its address and its minor
pub binding_exact : (x y : Binding) → address_of x ≡ address_of y → x.minor ≡ y.minor → x ≡ y
binding_exact x y e f i = record { driver = (e i).0; addr = (e i).1; minor = f i }

-- if no address occurs twice, a table of addresses contains its own bindings
pub has_list : (es : Entries) → IsDistinct is_key (keys_of es) → HasList es (bindings_of es)
has_list es u = in_order_stands address_of (λ b. b.minor) binding_exact binding_of (λ e. refl) (λ e. refl) es u

-- the bindings that a table of addresses contains, in order, are its own
pub list_is : (es : Entries) (bs : List Binding) → IsDistinct is_key (keys_of es) → HasList es bs → bindings_of es ≡ bs
list_is es bs u h = computed_is address_of (λ b. b.minor) binding_exact binding_of (λ e. refl) (λ e. refl) es bs u h

-- the bindings of both tables form a list without duplicate addresses or streams
pub bindings_sound : (xs ys : Entries) → AreBindings xs ys → IsBindingList (bindings_of xs)
bindings_sound xs ys h = record { rise = (has_list xs h.unique).rises; streams = h.streams }

-- look-ups

-- the search by address
pub find_address : (xs : Entries) (bs : List Binding) (d a : ℕ) (r : Option ℕ) → bindings_of xs ≡ bs
    → IsDistinct is_key (keys_of xs) → r ≡ lookup (is_key (d, a)) xs
    → find (λ b. (b.driver == d) && (b.addr == a)) bs
    ≡ option_map (λ (m : ℕ). record { driver = d; addr = a; minor = m }) r
find_address xs bs d a r e u at =
    ap (find (λ b. (b.driver == d) && (b.addr == a))) (sym e)
    ∙ found_find address_of (λ b. b.minor) (λ k m. record { driver = k.0; addr = k.1; minor = m }) (λ b. refl)
    (bindings_of xs) (d, a)
    ∙ ap (option_map (λ (m : ℕ). record { driver = d; addr = a; minor = m }))
    (sym ((has_list xs u).finds (d, a)) ∙ sym at)

-- the search by stream
pub find_stream : (xs ys : Entries) (bs : List Binding) (d m : ℕ) (r : Option ℕ) → bindings_of xs ≡ bs
    → AreBindings xs ys → r ≡ lookup (is_key (d, m)) ys
    → find (λ b. (b.driver == d) && (b.minor == m)) bs
    ≡ option_map (λ (a : ℕ). record { driver = d; addr = a; minor = m }) r
find_stream xs ys bs d m r e h at =
    ap (find (λ b. (b.driver == d) && (b.minor == m))) (sym e)
    ∙ found_find stream_of (λ b. b.addr) (λ k a. record { driver = k.0; addr = a; minor = k.1 }) (λ b. refl)
    (bindings_of xs) (d, m)
    ∙ ap (option_map (λ (a : ℕ). record { driver = d; addr = a; minor = m })) (sym (h.addresses (d, m)) ∙ sym at)

-- some binding of a driver has an address or a minor exactly if one has the address or one has the minor
pub either_any : (d a m : ℕ) (bs : List Binding)
    → list_any (λ b. (b.driver == d) && ((b.addr == a) || (b.minor == m))) bs
    ≡ (list_any (λ b. is_key (address_of b) (d, a)) bs || list_any (λ b. is_key (stream_of b) (d, m)) bs)
either_any d a m [] = refl
either_any d a m (b ∷ bs) = grind (arith, either_any d a m bs, nat_tests)

-- the test for both, by the two tables
pub taken_either : (xs ys : Entries) (bs : List Binding) (d a m : ℕ) → bindings_of xs ≡ bs → AreBindings xs ys
    → list_any (λ b. (b.driver == d) && ((b.addr == a) || (b.minor == m))) bs
    ≡ (is_some (lookup (is_key (d, a)) xs) || is_some (lookup (is_key (d, m)) ys))
taken_either xs ys bs d a m e h = grind (arith, has_list, found_any, h.addresses (d, m), either_any)

-- one more binding

-- a binding of a driver's address passes the test for that address or any minor
taken_address : (d a m : ℕ) (b : Binding) → is_key (address_of b) (d, a) ≡ true
    → ((b.driver == d) && ((b.addr == a) || (b.minor == m))) ≡ true
taken_address d a m b h = grind (arith, nat_tests)

-- a binding of a driver's minor passes the test for that minor or any address
taken_stream : (d a m : ℕ) (b : Binding) → is_key (stream_of b) (d, m) ≡ true
    → ((b.driver == d) && ((b.addr == a) || (b.minor == m))) ≡ true
taken_stream d a m b h = grind (arith, nat_tests)

module _ (xs ys us vs : Entries) (d a m : ℕ) (h : AreBindings xs ys)
    (free : list_any (λ b. (b.driver == d) && ((b.addr == a) || (b.minor == m))) (bindings_of xs) ≡ false)
    (unique : IsDistinct is_key (keys_of us)) (s : Sets xs us (d, a) (Some m)) where
  added : Binding
  added = record { driver = d; addr = a; minor = m }

  free_address : list_any (λ b. is_key (address_of b) (d, a)) (bindings_of xs) ≡ false
  free_address = none_of _ _ (taken_address d a m) (bindings_of xs) free

  free_stream : list_any (λ b. is_key (stream_of b) (d, m)) (bindings_of xs) ≡ false
  free_stream = none_of _ _ (taken_stream d a m) (bindings_of xs) free

  -- after a free address is bound to a free stream, the list has the binding inserted in order
  pub bound : bindings_of us ≡ with_inserted bind_before (bindings_of xs) (record { driver = d; addr = a; minor = m })
  unfolding added
  bound =
      let k = has_list xs h.unique in
      list_is us _ unique (record {
        rises = rising_inserted address_of added (bindings_of xs) free_address k.rises;
        finds = finds_inserted address_of (λ b. b.minor)
            (bindings_of xs) bind_before xs us added k.finds free_address s;
      })

  -- if the other table also finds the stream's address, the two tables agree
  pub bound_whole : Sets ys vs (d, m) (Some a) → AreBindings us vs
  unfolding added
  bound_whole t = record {
    unique = unique;
    streams = rw bound (apart_inserted stream_of bind_before (bindings_of xs) added free_stream h.streams);
    addresses = rw bound
        (finds_inserted stream_of (λ b. b.addr) (bindings_of xs) bind_before ys vs added h.addresses free_stream t);
  }

-- one binding removed

-- only the binding of the stream has its address
has_address : (bs : List Binding) (d a m : ℕ) → found stream_of (λ b. b.addr) bs (d, m) ≡ Some a
    → list_any (λ b. is_key (address_of b) (d, a)) bs ≡ true
has_address [] d a m h = cc
has_address (b ∷ bs) d a m h = grind (arith, same_Some b.addr a, nat_tests, has_address bs d a m)

-- removing the binding of a stream removes that of its address
same_taken : (bs : List Binding) (d a m : ℕ) → AreApart address_of bs → AreApart stream_of bs
    → found stream_of (λ b. b.addr) bs (d, m) ≡ Some a
    → filter (λ b. not (is_key (stream_of b) (d, m))) bs ≡ filter (λ b. not (is_key (address_of b) (d, a))) bs
same_taken [] d a m u v h = refl
same_taken (b ∷ bs) d a m u v h = elim (cases_Bool (is_key (d, m) (stream_of b))) [
  | inl t ↦
      let same = same_Some b.addr a (rw t at h) in
      let x : is_key (stream_of b) (d, m) ≡ true = is_key_sym (stream_of b) (d, m) ∙ t in
      let y : is_key (address_of b) (d, a) ≡ true = grind (arith, nat_tests) in
      let i : list_any (λ c. is_key (stream_of c) (d, m)) bs
      ≡ false = ap (λ (k : Key). list_any (λ c. is_key (stream_of c) k) bs) (sym (key_same _ _ x)) ∙ v.0 in
      let j : list_any (λ c. is_key (address_of c) (d, a)) bs
      ≡ false = ap (λ (k : Key). list_any (λ c. is_key (address_of c) k) bs) (sym (key_same _ _ y)) ∙ u.0 in
      rw (x, y) (filter_all _ bs i ∙ sym (filter_all _ bs j))
  | inr f ↦
      let tail : found stream_of (λ c. c.addr) bs (d, m) ≡ Some a = rw f at h in
      let x : is_key (stream_of b) (d, m) ≡ false = is_key_sym (stream_of b) (d, m) ∙ f in
      elim (cases_Bool (is_key (address_of b) (d, a))) [
        | inl t ↦
            absurd (false≢true (sym u.0 ∙ ap (λ (k : Key). list_any (λ c. is_key (address_of c) k) bs) (key_same _ _ t)
            ∙ has_address bs d a m tail))
        | inr y ↦ rw (x, y) (ap (λ (cs : List Binding). b ∷ cs) (same_taken bs d a m u.1 v.1 tail))
      ]
]

module _ (xs ys us vs : Entries) (d a m : ℕ) (h : AreBindings xs ys) (at : lookup (is_key (d, m)) ys ≡ Some a)
    (unique : IsDistinct is_key (keys_of us)) (s : Sets xs us (d, a) None) where
  -- the stream was bound to this address
  pub unbound : bindings_of us ≡ filter (λ b. not ((b.driver == d) && (b.minor == m))) (bindings_of xs)
  unbound =
      let k = has_list xs h.unique in
      list_is us _ unique
      (record {
        rises = rising_filter bind_before _ (bindings_of xs) k.rises;
        finds = finds_filter address_of (λ b. b.minor) (bindings_of xs) xs us (d, a) k.finds s;
      })
      ∙ sym (same_taken (bindings_of xs) d a m (apart_rising address_of (bindings_of xs) k.rises) h.streams
      (sym (h.addresses (d, m)) ∙ at))

  -- if the other table no longer finds an address for the stream, the two tables agree
  pub unbound_whole : Sets ys vs (d, m) None → AreBindings us vs
  unbound_whole t = record {
    unique = unique;
    streams = rw unbound (apart_filter stream_of _ (bindings_of xs) h.streams);
    addresses = rw unbound (finds_filter stream_of (λ b. b.addr) (bindings_of xs) ys vs (d, m) h.addresses t);
  }

-- the stream was not bound
pub not_bound : (xs ys : Entries) (d m : ℕ) → AreBindings xs ys → lookup (is_key (d, m)) ys ≡ None
    → filter (λ b. not ((b.driver == d) && (b.minor == m))) (bindings_of xs) ≡ bindings_of xs
not_bound xs ys d m h none =
    filter_all (λ b. is_key (stream_of b) (d, m)) (bindings_of xs)
    (sym (found_any stream_of (λ b. b.addr) (bindings_of xs) (d, m)) ∙ ap is_some (sym (h.addresses (d, m)) ∙ none))
