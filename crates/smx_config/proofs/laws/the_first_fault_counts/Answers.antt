use Rattle.std.proofs.Common.{arith, refl, rules}
use Rattle.smx_config.specs.WorkedDrivers.{with_numbers}
use Rattle.smx_config.proofs.laws.the_first_fault_counts.Goals as goal

pub returns-clause-minors : goal.returns-clause-minors
returns-clause-minors c =
    (with_numbers 0 8 8 0, record { few = search arith; here = refl; before = search (rules, arith) }, refl)

pub returns-clause-marks : goal.returns-clause-marks
returns-clause-marks c =
    (with_numbers 2 8 8 0, record { few = search arith; here = refl; before = search (rules, arith) }, refl)

pub returns-clause-longest : goal.returns-clause-longest
returns-clause-longest c =
    (with_numbers 2 8 3 0, record { few = search arith; here = refl; before = search (rules, arith) }, refl)

pub returns-clause-name : goal.returns-clause-name
returns-clause-name c = (
  with_numbers 2 8 3 16,
  record { few = search arith; here = refl; before = search (rules, arith) },
  refl,
  search (rules, arith),
)
