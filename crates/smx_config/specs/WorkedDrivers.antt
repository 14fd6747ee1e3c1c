-- Drivers with several faults at once, to show which of them is reported.
use Rattle.std.specs.Prelude.{ℕ}
use Rattle.smx_types.specs.declared.driver.DriverKind.TheVariants.{Leaf}
use Rattle.smx_types.specs.declared.driver.DriverSpec.{DriverSpec}
use Rattle.smx_model.specs.Worked.Common.{ip}

-- a driver with these minors, water marks and longest message; all such drivers have one name
abbrev pub with_numbers : ℕ → ℕ → ℕ → ℕ → DriverSpec
with_numbers minors high low max =
    record { name = ip; kind = Leaf; minors = minors; high = high; low = low; max = max }
