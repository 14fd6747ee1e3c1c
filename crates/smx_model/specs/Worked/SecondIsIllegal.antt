-- A history of four entries whose second entry is the first illegal one.
use Rattle.std.specs.Prelude.{List, [], ◌∷◌}
use Rattle.smx_model.specs.Worked.Common.{OpenClone, Dup, CloseAll, Fd, Done, Entry, DriverSpec, ◌does◌gets◌, ip, mux}

abbrev pub drivers : List DriverSpec
drivers = mux ip 4 ∷ []

-- process 1 gets minor 1
abbrev pub illegal : Entry
illegal = 1 does OpenClone ip gets Fd 0 2

-- the duplicate gets descriptor 1; the first reply and the last are correct
abbrev pub history : List Entry
history = 0 does OpenClone ip gets Fd 0 0
    ∷ illegal
    ∷ 0 does Dup 0 gets Fd 2 0
    ∷ 1 does CloseAll gets Done []
    ∷ []
