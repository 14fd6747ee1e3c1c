-- Routes are shown by address, serve one driver and one address each, and are removed one at a time.
use Rattle.std.specs.Prelude.{◌≡◌, List, [], ◌∷◌, refl}
use Rattle.smx_types.specs.declared.stream.Side.TheVariants as side
use Rattle.smx_model.specs.Worked.Common.{OpenClone, Link, Route, Unroute, Write, Fd, Id, Took, Done, Fault, Cycle}
use Rattle.smx_model.specs.Worked.Common.{NoLink, Unrouted, Ordinary, Entry, ConfigView, DriverSpec, IsLegal, after}
use Rattle.smx_model.specs.Worked.Common.{view, legal, ◌does◌gets◌, eth, a, b, mux, leaf, no_lines, fd_of, link_of}
use Rattle.smx_model.specs.Worked.Common.{route_of, message_at}

abbrev pub drivers : List DriverSpec
drivers = mux a 2 ∷ mux b 2 ∷ leaf eth 3 ∷ []

abbrev pub history : List Entry
history = 0 does OpenClone a gets Fd 0 0
    ∷ 0 does OpenClone a gets Fd 1 1
    ∷ 0 does OpenClone b gets Fd 2 0
    ∷ 0 does OpenClone eth gets Fd 3 0
    ∷ 0 does OpenClone eth gets Fd 4 1
    ∷ 0 does OpenClone eth gets Fd 5 2
    ∷ 0 does Link 0 3 gets Id 1
    ∷ 0 does Link 2 4 gets Id 2
    ∷ 0 does Link 0 5 gets Id 3
    ∷ 0 does Route 0 9 2 gets Fault NoLink
    ∷ 0 does Route 0 9 1 gets Done []
    ∷ 0 does Route 0 5 3 gets Done []
    ∷ 0 does Route 0 9 1 gets Done []
    ∷ 0 does Route 2 7 2 gets Done []
    ∷ 0 does Write 1 7 (1 ∷ []) gets Took 1
    ∷ 0 does Write 0 11 (2 ∷ []) gets Took 2
    ∷ 0 does Route 0 4 1 gets Done []
    ∷ 0 does Route 2 4 2 gets Done []
    ∷ 0 does Unroute 0 4 gets Done []
    ∷ 0 does Route 0 7 3 gets Done []
    ∷ 0 does Unroute 0 7 gets Done []
    ∷ 0 does Unroute 0 7 gets Fault Unrouted
    ∷ 0 does Link 0 1 gets Fault Cycle
    ∷ 0 does Link 1 0 gets Fault Cycle
    ∷ []

abbrev pub end : ConfigView
end = record (no_lines 4 3) {
  fds =
      fd_of 0 0 a 0
      ∷ fd_of 0 1 a 1
      ∷ fd_of 0 2 b 0
      ∷ fd_of 0 3 eth 0
      ∷ fd_of 0 4 eth 1
      ∷ fd_of 0 5 eth 2
      ∷ [];
  links =
      link_of 1 a 0 eth 0 Ordinary
      ∷ link_of 2 b 0 eth 1 Ordinary
      ∷ link_of 3 a 0 eth 2 Ordinary
      ∷ [];
  routes = route_of a 5 3 ∷ route_of a 9 1 ∷ route_of b 4 2 ∷ route_of b 7 2 ∷ [];
  msgs = message_at a 0 side.Write 2 11 (2 ∷ []) ∷ message_at eth 2 side.Write 1 7 (1 ∷ []) ∷ [];
}

pub is_legal : IsLegal drivers history
is_legal = legal drivers history refl

pub ends_so : view drivers (after drivers history) ≡ end
ends_so = refl
