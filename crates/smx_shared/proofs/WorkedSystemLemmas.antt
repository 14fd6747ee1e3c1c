-- A system that is sound, and one that is not.
use Rattle.std.proofs.Common.{ℕ, ◌≤◌, [], ◌∷◌, length, take, refl, arith}
use Rattle.smx_types.specs.declared.limits.TheConstants.{MAX_COMMANDS}
use Rattle.smx_model.specs.DriverList.{IsDriverList}
use Rattle.smx_model.specs.Histories.{IsLegal}
use Rattle.smx_model.specs.Worked.Common.{ip, mux, legal}
use Rattle.smx_model.specs.Worked.SecondIsIllegal.{history}
use Rattle.smx_shared.specs.Recorded.{Recorded, IsSoundSystem}
use Rattle.smx_shared.specs.WorkedSystems.{with_first, of_one_name}

-- the one driver is valid
one_driver : IsDriverList (mux ip 4 ∷ [])
one_driver = grind arith

-- a system with one entry meets the conditions of a sound system
pub with_one : ((s : Recorded) → IsDriverList s.drivers → s.limit ≤ MAX_COMMANDS → length s.history ≤ s.limit
    → IsLegal s.drivers s.history → IsSoundSystem s)
    → (limit : ℕ) → 1 ≤ limit → limit ≤ MAX_COMMANDS → IsSoundSystem (with_first 1 limit)
with_one enough limit some few =
    enough (with_first 1 limit) one_driver few some (legal (mux ip 4 ∷ []) (take 1 history) refl)

-- two drivers have the same name
pub one_name : IsSoundSystem of_one_name → ⊥
one_name h = h.valid_drivers.names 0 1 (mux ip 4) (omega arith) (omega arith) refl
