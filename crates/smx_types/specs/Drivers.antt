-- The validity of drivers.
use Rattle.std.specs.Prelude.{◌||◌, nat_lt, nat_le, if◌then◌else◌, Result, Ok, Err}
use Rattle.smx_types.specs.declared.driver.DriverSpec.{DriverSpec}
use Rattle.smx_types.specs.declared.driver.SpecFault.{SpecFault}
use Rattle.smx_types.specs.declared.driver.SpecFault.TheVariants.{BadMinors, BadMarks, BadMax}
use Rattle.smx_types.specs.declared.limits.TheConstants.{MAX_MINORS, MAX_HIGH, MAX_MESSAGE}

-- 1 to 64 minors, a low water mark below a high one of at most 4,096 bytes, messages of 1 to 1,024 bytes; or the
-- first fault of these
abbrev pub spec_check : DriverSpec → Result (Unit {0}) SpecFault
spec_check d =
    if nat_lt d.minors 1 || nat_lt MAX_MINORS d.minors then Err BadMinors
    else if nat_lt MAX_HIGH d.high || nat_le d.high d.low then Err BadMarks
    else if nat_lt d.max 1 || nat_lt MAX_MESSAGE d.max then Err BadMax
    else Ok tt
