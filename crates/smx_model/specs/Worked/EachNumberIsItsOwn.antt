-- A driver may be above one with a lower number; drivers, minors and processes are numbered independently.
use Rattle.std.specs.Prelude.{◌≡◌, List, [], ◌∷◌, refl}
use Rattle.smx_model.specs.Worked.Common.{OpenClone, OpenMinor, Link, Fd, Id, Fault, Below, Cycle, Ordinary, Entry}
use Rattle.smx_model.specs.Worked.Common.{ConfigView, DriverSpec, IsLegal, after, view, legal, ◌does◌gets◌, a, b, mux}
use Rattle.smx_model.specs.Worked.Common.{no_lines, fd_of, link_of}

abbrev pub drivers : List DriverSpec
drivers = mux a 4 ∷ mux b 2 ∷ []

abbrev pub history : List Entry
history = 0 does OpenClone a gets Fd 0 0
    ∷ 0 does OpenClone b gets Fd 1 0
    ∷ 0 does Link 1 0 gets Id 1
    ∷ 5 does OpenMinor a 3 gets Fd 0 3
    ∷ 1 does OpenMinor a 0 gets Fault Below
    ∷ 5 does OpenMinor b 0 gets Fd 1 0
    ∷ 5 does Link 0 1 gets Fault Cycle
    ∷ []

abbrev pub end : ConfigView
end = record (no_lines 2 1) {
  fds = fd_of 0 0 a 0 ∷ fd_of 0 1 b 0 ∷ fd_of 5 0 a 3 ∷ fd_of 5 1 b 0 ∷ [];
  links = link_of 1 b 0 a 0 Ordinary ∷ [];
}

pub is_legal : IsLegal drivers history
is_legal = legal drivers history refl

pub ends_so : view drivers (after drivers history) ≡ end
ends_so = refl
