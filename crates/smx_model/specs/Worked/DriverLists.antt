-- A longest list of drivers that a configuration can have, and lists that none can have, each for one reason.
use Rattle.std.specs.Prelude.{ℕ, List, [], ◌∷◌, map}
use Rattle.std.specs.List.{range_with_len}
use Rattle.smx_types.specs.declared.driver.DriverKind.TheVariants as driver
use Rattle.smx_model.specs.Worked.Common.{DriverSpec, ip, eth, mux, leaf}

-- a driver with the most minors, the highest water marks and the longest messages
abbrev pub largest : ℕ → DriverSpec
largest n = record { name = n ∷ []; kind = driver.Mux; minors = 64; high = 4096; low = 4095; max = 1024 }

-- 128 and 129 of these drivers, with different names
abbrev pub as_many_as_may_be : List DriverSpec
as_many_as_may_be = map largest (range_with_len 0 128)

abbrev pub one_too_many : List DriverSpec
one_too_many = map largest (range_with_len 0 129)

-- the second driver has no minors
abbrev pub without_minors : List DriverSpec
without_minors = mux ip 4 ∷ leaf eth 0 ∷ []

-- the first driver and the third have the same name
abbrev pub of_one_name : List DriverSpec
of_one_name = mux ip 4 ∷ leaf eth 2 ∷ leaf ip 2 ∷ []
