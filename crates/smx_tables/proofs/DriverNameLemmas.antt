-- Drivers by name.
use Rattle.std.proofs.Common.{◌≡◌, ℕ, ◌<◌, false, cond, List, [], length, get_or, Option, Some, None, sym, ap, ◌∙◌}
use Rattle.std.proofs.Common.{arith}
use Rattle.std.specs.Prelude.{position, nat_lt}
use Rattle.std.specs.Str.{bytes_eq}
use Rattle.std.proofs.lemmas.Bool.{false_from_ne_true, lt-ltb}
use Rattle.std.proofs.lemmas.List.Sums.{position_or_len_is}
use Rattle.std.proofs.lemmas.Option.{slice_get-get_or}
use Rattle.std.proofs.lemmas.Slice.Eq.{bytes_eq-Decides}
use Rattle.smx_types.specs.declared.driver.DriverKind.TheVariants.{Leaf}
use Rattle.smx_types.specs.declared.driver.DriverSpec.{DriverSpec}
use Rattle.smx_model.specs.DriverList.{IsDriverList, name_of}

-- the default for look-ups in a list of drivers
pub some_driver : DriverSpec
some_driver = record { name = []; kind = Leaf; minors = 0; high = 0; low = 0; max = 0 }

-- the name of a driver that exists
pub name_at : (drivers : List DriverSpec) (n : ℕ) → n < length drivers
    → name_of drivers n ≡ (get_or drivers n some_driver).name
name_at drivers n lt = grind (arith, slice_get-get_or, some_driver)

-- the number of the driver with this name
abbrev pub number_of : List DriverSpec → List ℕ → Option ℕ
number_of drivers name = position (λ d. bytes_eq d.name name) drivers

-- a driver is found by its name
pub found_by_name : (drivers : List DriverSpec) (n : ℕ) → IsDriverList drivers → n < length drivers
    → number_of drivers (name_of drivers n) ≡ Some n
found_by_name drivers n h lt =
    let here = name_at drivers n lt in
    let Others : Type 0 = (k : ℕ) → k < n → bytes_eq (get_or drivers k some_driver).name (name_of drivers n) ≡ false in
    let others : Others = λ k below. false_from_ne_true _
    (λ t. h.names k n some_driver below lt ((bytes_eq-Decides _ _).0 t ∙ here)) in
    let first = position_or_len_is (λ (d : DriverSpec). bytes_eq d.name (name_of drivers n)) drivers n some_driver
    (omega arith) others (λ l. (bytes_eq-Decides _ _).1 (sym here)) in
    ap (λ m. cond (nat_lt m (length drivers)) (Some m) None) first
    ∙ ap (λ b. cond b (Some n) None) (lt-ltb n (length drivers) lt)
