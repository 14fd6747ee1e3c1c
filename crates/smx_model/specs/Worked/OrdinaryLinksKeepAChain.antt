-- Ordinary links keep a chain of streams while its top is open, close no cycle, and are removed all at once.
use Rattle.std.specs.Prelude.{◌≡◌, List, [], ◌∷◌, refl}
use Rattle.smx_model.specs.Worked.Common.{OpenClone, Close, CloseAll, Link, Transmit, Fd, Id, Done, Fault, NoMinor}
use Rattle.smx_model.specs.Worked.Common.{Cycle, Empty, Entry, ConfigView, DriverSpec, IsLegal, after, view, legal}
use Rattle.smx_model.specs.Worked.Common.{◌does◌gets◌, eth, a, b, c, mux, leaf, no_lines}

abbrev pub drivers : List DriverSpec
drivers = mux a 2 ∷ mux b 2 ∷ mux c 2 ∷ leaf eth 2 ∷ []

abbrev pub history : List Entry
history = 0 does OpenClone a gets Fd 0 0
    ∷ 0 does OpenClone a gets Fd 1 1
    ∷ 0 does Close 0 gets Done []
    ∷ 0 does OpenClone b gets Fd 0 0
    ∷ 0 does OpenClone c gets Fd 2 0
    ∷ 0 does OpenClone eth gets Fd 3 0
    ∷ 0 does Link 2 3 gets Id 1
    ∷ 0 does Link 0 2 gets Id 2
    ∷ 0 does Link 1 0 gets Id 3
    ∷ 0 does OpenClone c gets Fd 4 1
    ∷ 0 does Link 4 1 gets Fault Cycle
    ∷ 0 does OpenClone a gets Fd 5 0
    ∷ 0 does Link 1 5 gets Fault Cycle
    ∷ 0 does Close 0 gets Done []
    ∷ 0 does Close 2 gets Done []
    ∷ 0 does Close 3 gets Done []
    ∷ 0 does Close 4 gets Done []
    ∷ 0 does Close 5 gets Done []
    ∷ 0 does Transmit eth 0 gets Fault Empty
    ∷ 0 does OpenClone c gets Fd 0 1
    ∷ 0 does CloseAll gets Done []
    ∷ 0 does Transmit eth 0 gets Fault NoMinor
    ∷ []

abbrev pub end : ConfigView
end = no_lines 4 1

pub is_legal : IsLegal drivers history
is_legal = legal drivers history refl

pub ends_so : view drivers (after drivers history) ≡ end
ends_so = refl
