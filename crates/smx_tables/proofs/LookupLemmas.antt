-- Look-ups of a device's stream, and whether a search finds an item.
use Rattle.smx_tables.proofs.Common.{◌≡◌, ℕ, Bool, true, false, not, List, Some, None, Err, refl, sym, ap, ◌∙◌}
use Rattle.smx_tables.proofs.Common.{list_any, DriverSpec, Fault, Configuration, is_mux, leaf_stream, refuse}
use Rattle.smx_tables.proofs.Common.{exists}
use Rattle.std.proofs.Common.{find, Ok}
use Rattle.std.specs.Option.{is_some}
use Rattle.smx_types.specs.declared.reply.Fault.TheVariants.{NoMinor}
use Rattle.smx_model.specs.Lookups.{driver_of}
use Rattle.smx_links.proofs.LowerLemmas.{any_found as is_found}

-- a condition whose negation was not refused holds
pub is_there : (f : Fault) (test : Bool) → refuse f (not test) ≡ Ok tt → test ≡ true
is_there f true h = refl
is_there f false h = absurd cc

-- the stream of a leaf driver is refused with `NoMinor` if it doesn't exist
pub no_leaf : (drivers : List DriverSpec) (c : Configuration) (name : List ℕ) (n minor : ℕ)
    → driver_of drivers name ≡ Ok n → is_mux drivers n ≡ false
    → exists drivers c (record { driver = n; minor = minor }) ≡ false
    → Err NoMinor ≡ leaf_stream drivers c name minor
no_leaf drivers c name n minor e m x = rw (e, m, x) refl

-- if an item is found, some item passes the test
pub any_found : {X : Type 0} (test : X → Bool) (xs : List X) (x : X) → find test xs ≡ Some x
    → list_any test xs ≡ true
any_found test xs x e = sym (is_found test xs) ∙ ap is_some e

-- if no item is found, none passes the test
pub none_found : {X : Type 0} (test : X → Bool) (xs : List X) → find test xs ≡ None → list_any test xs ≡ false
none_found test xs e = sym (is_found test xs) ∙ ap is_some e
