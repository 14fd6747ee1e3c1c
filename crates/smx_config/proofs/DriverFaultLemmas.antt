-- A list of drivers has one fault at most.
use Rattle.smx_config.proofs.Common.{◌≡◌, ℕ, ◌<◌, List, length, take, Ok, Some, refl, sym, ap, subst, ◌∙◌, arith, inl}
use Rattle.smx_config.proofs.Common.{inr, cases_Bool, same_Some, DriverSpec}
use Rattle.std.proofs.Common.{ltb, get_or, Err}
use Rattle.std.specs.Prelude.{Any, slice_get}
use Rattle.std.proofs.lemmas.Bool.Decides.{nat_tests}
use Rattle.std.proofs.lemmas.List.{length-take-le, get_or-take, take-take}
use Rattle.std.proofs.lemmas.Option.{slice_get_within, slice_get-get_or}
use Rattle.smx_types.specs.Drivers.{spec_check}
use Rattle.smx_types.specs.declared.driver.SpecFault.{SpecFault}
use Rattle.smx_model.specs.DriverList.{IsDriverList}
use Rattle.smx_config.specs.DriverFaults.{IsFirstBad, RefusesDrivers}
use Rattle.smx_config.specs.declared.config_fault.ConfigFault.{ConfigFault}
use Rattle.smx_config.specs.declared.config_fault.ConfigFault.TheVariants.{BadSpec, SameName, TooMany, NoMemory}
use Rattle.smx_tables.proofs.DriverListLemmas.{taken_name}

-- an earlier driver has the name of this one
abbrev HasSameName : List DriverSpec → ℕ → DriverSpec → Type 0
HasSameName ds i d = Any (λ e. e.name ≡ d.name) (take i ds)

-- a driver of a valid list passes the check, and has a name of its own
good : (ds : List DriverSpec) (i : ℕ) (d : DriverSpec) → slice_get ds i ≡ Some d → IsDriverList ds
    → (spec_check d ≡ Ok tt) × (HasSameName ds i d → ⊥)
good ds i d here h = grind (arith, slice_get_within, same_Some, slice_get-get_or, h.each i d, taken_name)

-- if the drivers before one are a valid list, each of them passes the check, and has a name of its own
good_before : (ds : List DriverSpec) (i j : ℕ) (d e : DriverSpec) → slice_get ds i ≡ Some d → slice_get ds j ≡ Some e
    → i < j → IsDriverList (take j ds) → (spec_check d ≡ Ok tt) × (HasSameName ds i d → ⊥)
good_before ds i j d e here later before h =
    let few : j < length ds = slice_get_within ds j e later in
    let len = length-take-le j ds (omega (arith, few)) in
    let within = slice_get_within ds i d here in
    let at : get_or (take j ds) i d ≡ d =
    get_or-take j ds i d before ∙ same_Some _ _ (sym (slice_get-get_or ds i d within) ∙ here) in
    let found = slice_get-get_or (take j ds) i d (omega (arith, len, before)) ∙ ap Some at in
    let fine = good (take j ds) i d found h in
    (fine.0, λ same. fine.1 (subst (Any (λ e. e.name ≡ d.name)) (sym (take-take i j ds (omega (arith, before)))) same))

-- the driver makes the list invalid
abbrev Spoils : List DriverSpec → ℕ → DriverSpec → Type 0
Spoils ds i d = (spec_check d ≡ Ok tt) × (HasSameName ds i d → ⊥) → ⊥

-- it does so if it fails the check
bad_spec : (ds : List DriverSpec) (i : ℕ) (d : DriverSpec) (f : SpecFault) → spec_check d ≡ Err f → Spoils ds i d
bad_spec ds i d f bad fine = let same = sym bad ∙ fine.0 in absurd cc

-- it does so if an earlier driver has its name
same_name : (ds : List DriverSpec) (i : ℕ) (d : DriverSpec) → HasSameName ds i d → Spoils ds i d
same_name ds i d same fine = fine.1 same

-- the first such driver has only one number
one_number : (ds : List DriverSpec) (i j : ℕ) (d e : DriverSpec) → IsFirstBad ds i d → Spoils ds i d
    → IsFirstBad ds j e → Spoils ds j e → i ≡ j
one_number ds i j d e first bad other worse = elim (cases_Bool (ltb i j)) [
  | inl t ↦ absurd (bad (good_before ds i j d e first.here other.here (grind (arith, nat_tests)) other.before))
  | inr f ↦ elim (cases_Bool (ltb j i)) [
    | inl t ↦ absurd (worse (good_before ds j i e d other.here first.here (grind (arith, nat_tests)) first.before))
    | inr g ↦ grind (arith, nat_tests)
  ]
]

-- the first wrong driver of a list, at one number, is only one driver
one_driver : (ds : List DriverSpec) (i j : ℕ) (d e : DriverSpec) → IsFirstBad ds i d → IsFirstBad ds j e → i ≡ j → d ≡ e
one_driver ds i j d e first other same = grind (arith, same_Some)

-- a valid list has no such driver
none_spoils : (ds : List DriverSpec) (i : ℕ) (d : DriverSpec) → IsFirstBad ds i d → Spoils ds i d → IsDriverList ds → ⊥
none_spoils ds i d first bad h = bad (good ds i d first.here h)

-- if both drivers are the first wrong one, they have the same number and the same result of the check
one_check : (ds : List DriverSpec) (i j : ℕ) (d e : DriverSpec) → IsFirstBad ds i d → Spoils ds i d
    → IsFirstBad ds j e → Spoils ds j e → (i ≡ j) × (spec_check d ≡ spec_check e)
one_check ds i j d e first bad other worse =
    grind (arith, one_number ds i j d e first bad other worse, one_driver ds i j d e first other)

-- if a list is refused with two faults, they are the same
pub one_fault : (ds : List DriverSpec) (f g : ConfigFault) → RefusesDrivers ds f → RefusesDrivers ds g → f ≡ g
one_fault ds TooMany TooMany h k = refl
one_fault ds TooMany (BadSpec j g) h k = absurd (omega (arith, h, k.1.few))
one_fault ds TooMany (SameName j) h k = absurd (omega (arith, h, k.1.few))
one_fault ds TooMany NoMemory h k = absurd (omega (arith, h, k.few))
one_fault ds (BadSpec i f) TooMany h k = absurd (omega (arith, k, h.1.few))
one_fault ds (BadSpec i f) (BadSpec j g) h k =
    let one = one_check ds i j h.0 k.0 h.1 (bad_spec ds i h.0 f h.2) k.1 (bad_spec ds j k.0 g k.2) in
    let fault = sym h.2 ∙ one.1 ∙ k.2 in
    cc
one_fault ds (BadSpec i f) (SameName j) h k =
    let one = one_check ds i j h.0 k.0 h.1 (bad_spec ds i h.0 f h.2) k.1 (same_name ds j k.0 k.3) in
    let fault = sym h.2 ∙ one.1 ∙ k.2 in
    absurd cc
one_fault ds (BadSpec i f) NoMemory h k = absurd (none_spoils ds i h.0 h.1 (bad_spec ds i h.0 f h.2) k)
one_fault ds (SameName i) TooMany h k = absurd (omega (arith, k, h.1.few))
one_fault ds (SameName i) (BadSpec j g) h k =
    let one = one_check ds i j h.0 k.0 h.1 (same_name ds i h.0 h.3) k.1 (bad_spec ds j k.0 g k.2) in
    let fault = sym h.2 ∙ one.1 ∙ k.2 in
    absurd cc
one_fault ds (SameName i) (SameName j) h k =
    ap SameName (one_check ds i j h.0 k.0 h.1 (same_name ds i h.0 h.3) k.1 (same_name ds j k.0 k.3)).0
one_fault ds (SameName i) NoMemory h k = absurd (none_spoils ds i h.0 h.1 (same_name ds i h.0 h.3) k)
one_fault ds NoMemory TooMany h k = absurd (omega (arith, k, h.few))
one_fault ds NoMemory (BadSpec j g) h k = absurd (none_spoils ds j k.0 k.1 (bad_spec ds j k.0 g k.2) h)
one_fault ds NoMemory (SameName j) h k = absurd (none_spoils ds j k.0 k.1 (same_name ds j k.0 k.3) h)
one_fault ds NoMemory NoMemory h k = refl
