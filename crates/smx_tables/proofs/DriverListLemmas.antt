-- Lists of drivers that are valid for a configuration, driver by driver.
use Rattle.smx_tables.proofs.Common.{◌≡◌, ℕ, ◌+◌, ◌<◌, ◌≤◌, List, [], ◌∷◌, ◌++◌, get_or, take, sym, ap, subst, ◌∙◌}
use Rattle.smx_tables.proofs.Common.{arith, length-append, AllByRecursion, nat_tests, take_more, recursion_from_All}
use Rattle.smx_tables.proofs.Common.{DriverSpec}
use Rattle.std.proofs.Common.{◌≢◌, length, Ok}
use Rattle.std.specs.Prelude.{Any}
use Rattle.std.proofs.lemmas.List.{length-take-le, get_or_default, get_or-take}
use Rattle.std.proofs.lemmas.List.Elements.{All-push}
use Rattle.std.proofs.lemmas.List.Quantifiers.{all_pairs_push}
use Rattle.smx_types.specs.Drivers.{spec_check}
use Rattle.smx_types.specs.declared.limits.TheConstants.{MAX_DRIVERS, MAX_MINORS}
use Rattle.smx_model.specs.DriverList.{IsDriverList}

-- a valid list with one more valid driver, whose name is new, is valid
one_more : (ds : List DriverSpec) (d : DriverSpec) → length ds < MAX_DRIVERS → IsDriverList ds → spec_check d ≡ Ok tt
    → (Any (λ e. e.name ≡ d.name) ds → ⊥) → IsDriverList (ds ++ d ∷ [])
one_more ds d few h can new = record {
  few = omega (arith, length-append ds (d ∷ []));
  each = All-push (λ e. spec_check e ≡ Ok tt) ds d h.each can;
  names = all_pairs_push (λ e f. e.name ≢ f.name) ds d h.names
      (λ k e lt same. new (k, get_or ds k e, lt, get_or_default ds k (get_or ds k e) e lt, same));
}

-- if the first drivers of a list are valid, they stay so with the next one, if it is valid and its name is new
pub next_driver : (ds : List DriverSpec) (i : ℕ) (d : DriverSpec) → i < length ds → length ds ≤ MAX_DRIVERS
    → d ≡ get_or ds i d
    → IsDriverList (take i ds) → spec_check d ≡ Ok tt → (Any (λ e. e.name ≡ d.name) (take i ds) → ⊥)
    → IsDriverList (take (i + 1) ds)
next_driver ds i d lt few here h can new =
    let next : take (i + 1) ds ≡ take i ds ++ d ∷ [] = take_more ds i d lt
    ∙ ap (λ (e : DriverSpec). take i ds ++ e ∷ []) (sym here) in
    subst IsDriverList (sym next) (one_more (take i ds) d (omega (arith, length-take-le i ds (omega arith))) h can new)

-- a list with a driver that has the name of an earlier one is invalid
pub taken_name : (ds : List DriverSpec) (i : ℕ) (d : DriverSpec) → i < length ds → d ≡ get_or ds i d
    → Any (λ e. e.name ≡ d.name) (take i ds) → IsDriverList ds → ⊥
taken_name ds i d lt here (k, e, before, at, same) h =
    grind (arith, length-take-le, get_or-take, get_or_default, h.names k i d)

-- ---- the minors of the drivers of a valid list

-- a driver that passes the check has at most as many minors as allowed
few_minors : (d : DriverSpec) → spec_check d ≡ Ok tt → d.minors ≤ MAX_MINORS
few_minors d can = grind (arith, nat_tests)

-- if each driver passes the check, each has at most as many minors as allowed
all_few : (ds : List DriverSpec) → AllByRecursion (λ d. spec_check d ≡ Ok tt) ds
    → AllByRecursion (λ d. d.minors ≤ MAX_MINORS) ds
all_few [] h = tt
all_few (d ∷ ds) h = (few_minors d h.0, all_few ds h.1)

-- each driver of a valid list has at most as many minors as allowed
pub minors_within : (ds : List DriverSpec) → IsDriverList ds → AllByRecursion (λ d. d.minors ≤ MAX_MINORS) ds
minors_within ds h = all_few ds (recursion_from_All (λ d. spec_check d ≡ Ok tt) ds h.each)
