-- Moves, one after another.
use Rattle.smx_config.proofs.Common.{◌≡◌, ℕ, suc, ◌<◌, List, Some, refl, arith, DriverSpec, Place, Configuration}
use Rattle.smx_config.proofs.Common.{Machine, after_move}
use Rattle.std.proofs.Common.{zero, ◌-◌}
use Rattle.smx_model.specs.Settling.{least_movable, after_settling_within}
use Rattle.smx_model.proofs.LeastMarkedLemmas.{settling_moves}

-- settling is the move from the least movable place, and then settling with one move less
pub settled_one : (drivers : List DriverSpec) (n : ℕ) (c d : Configuration) (p : Place) → 0 < n
    → least_movable drivers c ≡ Some p → d ≡ after_move drivers c p
    → after_settling_within drivers (n - 1) d ≡ after_settling_within drivers n c
settled_one drivers zero c d p some e m = absurd (omega arith)
settled_one drivers (suc n) c d p some e m = grind (arith, settling_moves drivers n c p e)

-- after the last round
pub within_zero : (drivers : List DriverSpec) (n : ℕ) (c d : Configuration) → n ≡ 0
    → after_settling_within drivers n c ≡ d → c ≡ d
within_zero drivers zero c d z e = e
within_zero drivers (suc n) c d z e = absurd (omega arith)

-- a machine with the same drivers and this configuration is the old one with this configuration
pub settled_to : (m old : Machine) (c : Configuration) → m.drivers ≡ old.drivers → m.configuration ≡ c
    → m ≡ record old { configuration = c }
settled_to m old c same is = rw (← same, ← is) refl
