-- The sets of keys at the links, after each change of the table of routes.
use Rattle.smx_model.proofs.Common.{◌≡◌, ℕ, Bool, true, false, cond, ◌==◌, not, List, Option, Some, None, Result, Ok}
use Rattle.smx_model.proofs.Common.{Err, refl, sym, ap, ◌∙◌, arith, if◌then◌else◌, inl, inr, list_any}
use Rattle.smx_model.proofs.Common.{lookup, keys_of, cases_Bool, eqb-true, nat_tests}
use Rattle.std.specs.List.{IsDistinct}
use Rattle.std.proofs.Common.{OnErr}
use Rattle.std.specs.HashSet.{HashSet}
use Rattle.std.specs.Option.{option_map_or}
use Rattle.std.proofs.lemmas.Map.Entries.{option_filter}
use Rattle.smx_addresses.specs.Keys.{Key, is_key, left_of}
use Rattle.smx_addresses.specs.TableFields.{Entries, AreRoutes}
use Rattle.smx_addresses.specs.Targets.{is_target, IsTargetSet}
use Rattle.smx_addresses.proofs.ChangeLemmas.{Sets}
use Rattle.smx_addresses.proofs.KeyLemmas.{key_same}
use Rattle.smx_addresses.proofs.RouteLemmas.{Unlinks}

-- the value at an address is the link
abbrev pub leads_to : ℕ → Option ℕ → Bool
leads_to id o = option_map_or (λ n. n == id) o false

-- a number that equals the first of two different numbers differs from the second
other_number : (a b i : ℕ) → (a == b) ≡ false → (a == i) ≡ true → (b == i) ≡ false
other_number a b i h k = grind (arith, nat_tests)

-- keys removed one by one

-- the look-up after a link's keys are removed
left_filtered : (id : ℕ) (b : Bool) (r : Option ℕ) → b ≡ leads_to id r
    → (if b then None else r) ≡ option_filter (λ n. not (n == id)) r
left_filtered id b None e = elim (cases_Bool b) [ inl t ↦ rw t refl | inr f ↦ rw f refl ]
left_filtered id b (Some n) e = rw e (elim (cases_Bool (n == id)) [ inl t ↦ rw t refl | inr f ↦ rw f refl ])

-- without the addresses that lead to one link, those that lead to another still do
leads_filtered : (id i : ℕ) (r : Option ℕ) → leads_to i (option_filter (λ n. not (n == id)) r)
    ≡ cond (id == i) false (leads_to i r)
leads_filtered id i None = elim (cases_Bool (id == i)) [ inl t ↦ rw t refl | inr f ↦ rw f refl ]
leads_filtered id i (Some n) = grind (arith, nat_tests)

-- a fact that holds anyway holds if the result is an error
pub on_err : {X E : Type 0} (r : Result X E) (P : Type 0) → P → OnErr r P
on_err (Ok x) P p = tt
on_err (Err e) P p = p

-- whether a test is true is the test itself
pub when_true : (b : Bool) → cond b true false ≡ b
when_true true = refl
when_true false = refl

module _ {S : Type 0} where
  module _ (xs us : Entries) (ts vs : List (ℕ × HashSet Key S)) (k : Key) (id : ℕ) (h : AreRoutes xs ts)
      (unique : IsDistinct is_key (keys_of us)) (s : Sets xs us k (Some id)) (t : IsTargetSet ts vs id k true) where
    now_there : (i : ℕ) (q : Key) → is_key k q ≡ true → leads_to i (lookup (is_key q) us) ≡ (id == i)
    now_there i q a = ap (leads_to i) (s q) ∙ rw a refl

    as_before : (i : ℕ) (q : Key) → is_key k q ≡ false → is_target vs i q ≡ leads_to i (lookup (is_key q) us)
    as_before i q a =
        let now : leads_to i (lookup (is_key q) us) ≡ leads_to i (lookup (is_key q) xs) = ap (leads_to i) (s q)
        ∙ rw a refl in
        t i q ∙ elim (cases_Bool (id == i)) [
          | inl b ↦ rw (a, b) (h.targets i q ∙ sym now)
          | inr b ↦
              rw b (h.targets i q ∙ sym now)
        ]

    was_at : (i : ℕ) (q : Key) → is_key k q ≡ true → is_target ts i q ≡ leads_to i (lookup (is_key k) xs)
    was_at i q a = h.targets i q ∙ ap (λ (p : Key). leads_to i (lookup (is_key p) xs)) (sym (key_same k q a))

    -- the key had no route to another link
    pub routed_there : ((i : ℕ) → (id == i) ≡ false → leads_to i (lookup (is_key k) xs) ≡ false) → AreRoutes us vs
    routed_there only = record {
      unique = unique;
      targets = λ i q. elim (cases_Bool (is_key k q)) [
        | inl a ↦ t i q ∙ elim (cases_Bool (id == i)) [
          | inl b ↦ rw (a, b) (sym (now_there i q a ∙ b))
          | inr b ↦ rw b (was_at i q a ∙ only i b ∙ sym (now_there i q a ∙ b))
        ]
        | inr a ↦ as_before i q a
      ];
    }

    -- the key had a route to another link
    pub routed_away : (ws : List (ℕ × HashSet Key S)) (old : ℕ) → lookup (is_key k) xs ≡ Some old → (old == id) ≡ false
        → IsTargetSet vs ws old k false → AreRoutes us ws
    routed_away ws old at other w = record {
      unique = unique;
      targets = λ i q. w i q ∙ elim (cases_Bool (is_key k q)) [
        | inl a ↦ elim (cases_Bool (old == i)) [
          | inl b ↦ rw (a, b) (sym (now_there i q a ∙ other_number old id i other b))
          | inr b ↦ rw b (t i q ∙ elim (cases_Bool (id == i)) [
            | inl c ↦ rw (a, c) (sym (now_there i q a ∙ c))
            | inr c ↦ rw c (was_at i q a ∙ ap (leads_to i) at ∙ b ∙ sym (now_there i q a ∙ c))
          ])
        ]
        | inr a ↦ elim (cases_Bool (old == i)) [ inl b ↦ rw (a, b) (as_before i q a) | inr b ↦ rw b (as_before i q a) ]
      ];
    }

  -- removing the keys of a link removes its routes
  pub link_unlinks : (xs us : Entries) (ts : List (ℕ × HashSet Key S)) (id : ℕ) (keys : HashSet Key S) → AreRoutes xs ts
      → lookup (λ i. id == i) ts ≡ Some keys
      → ((q : Key) → lookup (is_key q) us ≡ left_of keys.keys q (lookup (is_key q) xs)) → Unlinks xs us id
  link_unlinks xs us ts id keys h at s q =
      let there : is_target ts id q ≡ list_any (is_key q) keys.keys = rw at refl in
      s q ∙ left_filtered id (list_any (is_key q) keys.keys) (lookup (is_key q) xs) (sym there ∙ h.targets id q)

  -- a link without keys has no routes
  pub none_unlinks : (xs : Entries) (ts : List (ℕ × HashSet Key S)) (id : ℕ) → AreRoutes xs ts
      → lookup (λ i. id == i) ts ≡ None → Unlinks xs xs id
  none_unlinks xs ts id h at q =
      let there : is_target ts id q ≡ false = rw at refl in
      left_filtered id false (lookup (is_key q) xs) (sym there ∙ h.targets id q)

  -- without the link and its routes
  pub unlinked_whole : (xs us : Entries) (ts vs : List (ℕ × HashSet Key S)) (id : ℕ) → AreRoutes xs ts
      → IsDistinct is_key (keys_of us) → Unlinks xs us id
      → ((i : ℕ) → lookup (λ j. i == j) vs ≡ cond (id == i) None (lookup (λ j. i == j) ts)) → AreRoutes us vs
  unlinked_whole xs us ts vs id h unique s t = record {
    unique = unique;
    targets = λ i q.
        let now : leads_to i (lookup (is_key q) us) ≡ cond (id == i) false (leads_to i (lookup (is_key q) xs)) =
        ap (leads_to i) (s q) ∙ leads_filtered id i (lookup (is_key q) xs) in
        let there : is_target vs i q ≡ cond (id == i) false (is_target ts i q) =
        ap (λ (o : Option (HashSet Key S)). option_map_or (λ s. list_any (is_key q) s.keys) o false) (t i)
        ∙ elim (cases_Bool (id == i)) [ inl a ↦ rw a refl | inr a ↦ rw a refl ] in
        there ∙ ap (cond (id == i) false) (h.targets i q) ∙ sym now;
  }

  -- the sets after a change of the table that holds them

  -- a set that is written back with the same keys
  pub same_set : (ts vs : List (ℕ × HashSet Key S)) (id : ℕ) (s w : HashSet Key S) → lookup (λ j. id == j) ts ≡ Some s
      → w.keys ≡ s.keys
      → ((i : ℕ) → lookup (λ j. i == j) vs ≡ cond (id == i) (Some w) (lookup (λ j. i == j) ts)) → (i : ℕ) (q : Key)
      → is_target vs i q ≡ is_target ts i q
  same_set ts vs id s w at e t i q =
      ap (λ (o : Option (HashSet Key S)). option_map_or (λ x. list_any (is_key q) x.keys) o false) (t i)
      ∙ elim (cases_Bool (id == i)) [
        | inl a ↦
            let same : lookup (λ j. i == j) ts ≡ Some s =
            ap (λ n. lookup (λ j. n == j) ts) (sym (eqb-true id i a)) ∙ at in
            rw (a, same, e) refl
        | inr a ↦ rw a refl
      ]

  -- a first key, at an id that had no set
  pub new_set : (ts vs : List (ℕ × HashSet Key S)) (id : ℕ) (k : Key) (w : HashSet Key S)
      → lookup (λ j. id == j) ts ≡ None → ((q : Key) → list_any (is_key q) w.keys ≡ is_key k q)
      → ((i : ℕ) → lookup (λ j. i == j) vs ≡ cond (id == i) (Some w) (lookup (λ j. i == j) ts))
      → IsTargetSet ts vs id k true
  new_set ts vs id k w at e t i q =
      ap (λ (o : Option (HashSet Key S)). option_map_or (λ x. list_any (is_key q) x.keys) o false) (t i)
      ∙ elim (cases_Bool (id == i)) [
        | inl a ↦
            let same : lookup (λ j. i == j) ts ≡ None =
            ap (λ n. lookup (λ j. n == j) ts) (sym (eqb-true id i a)) ∙ at in
            elim (cases_Bool (is_key k q)) [ inl b ↦ rw (a, e q, b) refl | inr b ↦ rw (a, e q, b, same) refl ]
        | inr a ↦ rw a refl
      ]

  -- no key is removed from a set that does not exist
  pub no_set : (ts : List (ℕ × HashSet Key S)) (id : ℕ) (k : Key) → lookup (λ j. id == j) ts ≡ None
      → IsTargetSet ts ts id k false
  no_set ts id k at i q = elim (cases_Bool (id == i)) [
    | inl a ↦
        let same : lookup (λ j. i == j) ts ≡ None = ap (λ n. lookup (λ j. n == j) ts) (sym (eqb-true id i a)) ∙ at in
        elim (cases_Bool (is_key k q)) [ inl b ↦ rw (a, b, same) refl | inr b ↦ rw (a, b) refl ]
    | inr a ↦ rw a refl
  ]
  -- a copy
