-- Results of look-ups.
use Rattle.smx_tables.proofs.Common.{◌≡◌, Bool, true, List, find, Some, AllByRecursion, each_find}
-- a result that was computed from another result, together with that other one
pub use Rattle.smx_model.proofs.SettlingLemmas.{bound}
-- the item that is found passes the test
pub use Rattle.smx_model.proofs.TestLemmas.{find_passes as found_passes}
-- two items are equal if their options are
pub use Rattle.std.proofs.lemmas.Option.{same_Some as some_is}

-- the item that is found passes the test, and has every property that all items have
pub found_has : {X : Type 0} (P : X → Type 0) (test : X → Bool) (xs : List X) (x : X) → AllByRecursion P xs
    → find test xs ≡ Some x → (test x ≡ true) × P x
found_has P test xs x h e = (found_passes test xs x e, each_find P test xs x e h)
