-- A system that is sound, and four that are not.
use Rattle.std.specs.Prelude.{ℕ, [], ◌∷◌, take}
use Rattle.smx_model.specs.Worked.Common.{ip, mux}
use Rattle.smx_model.specs.Worked.SecondIsIllegal.{history}
use Rattle.smx_shared.specs.Recorded.{Recorded}

-- one driver, a limit, and the first entries of a history whose second entry is illegal
abbrev pub with_first : ℕ → ℕ → Recorded
with_first entries limit = record {
  drivers = mux ip 4 ∷ [];
  limit = limit;
  history = take entries history;
}

-- two drivers with the same name
abbrev pub of_one_name : Recorded
of_one_name = record { drivers = mux ip 4 ∷ mux ip 4 ∷ []; limit = 10; history = [] }
