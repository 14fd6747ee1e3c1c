-- Removing one link keeps those before and after it, and their routes.
use Rattle.std.specs.Prelude.{◌≡◌, List, [], ◌∷◌, ◌++◌, refl}
use Rattle.smx_types.specs.declared.command.Which.TheVariants as which
use Rattle.smx_model.specs.Worked.Common.{OpenClone, Link, Plink, Unlink, Punlink, Route, Fd, Id, Done, Ordinary}
use Rattle.smx_model.specs.Worked.Common.{Persistent, Entry, ConfigView, DriverSpec, IsLegal, after, view, legal}
use Rattle.smx_model.specs.Worked.Common.{◌does◌gets◌, eth, a, b, mux, leaf, no_lines, fd_of, link_of, route_of}
use Rattle.smx_model.specs.Worked.Common.{opened_a_b_eth}

abbrev pub drivers : List DriverSpec
drivers = mux a 2 ∷ mux b 2 ∷ leaf eth 5 ∷ []

abbrev pub history : List Entry
history = opened_a_b_eth
    ++ 0 does OpenClone eth gets Fd 3 1
    ∷ 0 does OpenClone eth gets Fd 4 2
    ∷ 0 does OpenClone eth gets Fd 5 3
    ∷ 0 does OpenClone eth gets Fd 6 4
    ∷ 0 does Link 0 2 gets Id 1
    ∷ 0 does Link 0 3 gets Id 2
    ∷ 0 does Link 0 4 gets Id 3
    ∷ 0 does Plink 1 5 gets Id 4
    ∷ 0 does Plink 0 6 gets Id 5
    ∷ 0 does Route 0 5 1 gets Done []
    ∷ 0 does Route 0 6 2 gets Done []
    ∷ 0 does Route 0 7 3 gets Done []
    ∷ 0 does Unlink 0 (which.Id 2) gets Done []
    ∷ 0 does Punlink 0 which.All gets Done []
    ∷ []

abbrev pub end : ConfigView
end = record (no_lines 6 1) {
  fds =
      fd_of 0 0 a 0
      ∷ fd_of 0 1 b 0
      ∷ fd_of 0 2 eth 0
      ∷ fd_of 0 3 eth 1
      ∷ fd_of 0 4 eth 2
      ∷ fd_of 0 5 eth 3
      ∷ fd_of 0 6 eth 4
      ∷ [];
  links =
      link_of 1 a 0 eth 0 Ordinary
      ∷ link_of 3 a 0 eth 2 Ordinary
      ∷ link_of 4 b 0 eth 3 Persistent
      ∷ [];
  routes = route_of a 5 1 ∷ route_of a 7 3 ∷ [];
}

pub is_legal : IsLegal drivers history
is_legal = legal drivers history refl

pub ends_so : view drivers (after drivers history) ≡ end
ends_so = refl
