-- Bindings, routes and persistent links belong to one driver, and not to its neighbours.
use Rattle.std.specs.Prelude.{◌≡◌, List, [], ◌∷◌, refl}
use Rattle.smx_types.specs.declared.command.Which.TheVariants as which
use Rattle.smx_model.specs.Worked.Common.{OpenClone, Link, Plink, Unlink, Punlink, Bind, Unbind, Route, Unroute, Fd, Id}
use Rattle.smx_model.specs.Worked.Common.{Done, Fault, NoLink, Unbound, Unrouted, Ordinary, Persistent, Entry}
use Rattle.smx_model.specs.Worked.Common.{ConfigView, DriverSpec, IsLegal, after, view, legal, ◌does◌gets◌, eth, a, b}
use Rattle.smx_model.specs.Worked.Common.{mux, leaf, no_lines, fd_of, link_of, bind_of, route_of}

abbrev pub drivers : List DriverSpec
drivers = mux a 2 ∷ mux b 2 ∷ leaf eth 3 ∷ []

abbrev pub history : List Entry
history = 0 does OpenClone a gets Fd 0 0
    ∷ 0 does OpenClone a gets Fd 1 1
    ∷ 0 does OpenClone b gets Fd 2 0
    ∷ 0 does OpenClone eth gets Fd 3 0
    ∷ 0 does OpenClone eth gets Fd 4 1
    ∷ 0 does OpenClone eth gets Fd 5 2
    ∷ 0 does Plink 1 3 gets Id 1
    ∷ 0 does Link 0 4 gets Id 2
    ∷ 0 does Plink 2 5 gets Id 3
    ∷ 0 does Bind 0 9 gets Done []
    ∷ 0 does Unbind 2 gets Fault Unbound
    ∷ 0 does Unbind 1 gets Fault Unbound
    ∷ 0 does Bind 1 7 gets Done []
    ∷ 0 does Bind 2 4 gets Done []
    ∷ 0 does Unbind 0 gets Done []
    ∷ 0 does Bind 0 8 gets Done []
    ∷ 0 does Route 0 6 1 gets Done []
    ∷ 0 does Route 1 5 2 gets Done []
    ∷ 0 does Unroute 2 5 gets Fault Unrouted
    ∷ 0 does Route 2 5 1 gets Fault NoLink
    ∷ 0 does Route 2 5 3 gets Done []
    ∷ 0 does Route 2 4 3 gets Done []
    ∷ 0 does Route 0 4 2 gets Done []
    ∷ 0 does Unroute 0 4 gets Done []
    ∷ 0 does Unroute 2 5 gets Done []
    ∷ 0 does Punlink 2 (which.Id 1) gets Fault NoLink
    ∷ 0 does Punlink 1 (which.Id 2) gets Fault NoLink
    ∷ 0 does Unlink 2 (which.Id 3) gets Fault NoLink
    ∷ 0 does Unlink 2 which.All gets Done []
    ∷ []

abbrev pub end : ConfigView
end = record (no_lines 4 1) {
  fds =
      fd_of 0 0 a 0
      ∷ fd_of 0 1 a 1
      ∷ fd_of 0 2 b 0
      ∷ fd_of 0 3 eth 0
      ∷ fd_of 0 4 eth 1
      ∷ fd_of 0 5 eth 2
      ∷ [];
  links =
      link_of 1 a 1 eth 0 Persistent
      ∷ link_of 2 a 0 eth 1 Ordinary
      ∷ link_of 3 b 0 eth 2 Persistent
      ∷ [];
  binds = bind_of a 7 1 ∷ bind_of a 8 0 ∷ bind_of b 4 0 ∷ [];
  routes = route_of a 5 2 ∷ route_of a 6 1 ∷ route_of b 4 3 ∷ [];
}

pub is_legal : IsLegal drivers history
is_legal = legal drivers history refl

pub ends_so : view drivers (after drivers history) ≡ end
ends_so = refl
