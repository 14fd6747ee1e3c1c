-- A message goes up to the bound stream, not to the one that controls the link, and arrives whole.
use Rattle.std.specs.Prelude.{◌≡◌, List, [], ◌∷◌, ◌++◌, refl}
use Rattle.smx_model.specs.Worked.Common.{Plink, Bind, Route, Write, Read, Inject, Transmit, Id, Took, Got, Done, Fault}
use Rattle.smx_model.specs.Worked.Common.{Empty, Persistent, Entry, ConfigView, DriverSpec, IsLegal, after, view, legal}
use Rattle.smx_model.specs.Worked.Common.{◌does◌gets◌, ip, eth, mux, leaf, no_lines, link_of, bind_of, route_of}
use Rattle.smx_model.specs.Worked.Common.{opened_ip_ip_eth, fds_of_ip_ip_eth}

abbrev pub drivers : List DriverSpec
drivers = mux ip 4 ∷ record (leaf eth 2) { max = 2 } ∷ []

abbrev pub history : List Entry
history = opened_ip_ip_eth
    ++ 0 does Plink 0 2 gets Id 1
    ∷ 0 does Bind 1 9 gets Done []
    ∷ 0 does Inject eth 0 9 (170 ∷ []) gets Took 1
    ∷ 0 does Read 0 gets Fault Empty
    ∷ 0 does Read 1 gets Got 1 9 (170 ∷ [])
    ∷ 0 does Write 1 5 (1 ∷ []) gets Took 2
    ∷ 0 does Write 1 5 (2 ∷ []) gets Took 3
    ∷ 0 does Write 1 5 (0 ∷ 1 ∷ 2 ∷ 3 ∷ 4 ∷ 5 ∷ 6 ∷ 7 ∷ 8 ∷ 9 ∷ 10 ∷ 11 ∷ 12 ∷ 13 ∷ 14 ∷ 15 ∷ []) gets Took 4
    ∷ 0 does Route 1 5 1 gets Done []
    ∷ 0 does Transmit eth 0 gets Got 2 5 (1 ∷ [])
    ∷ 0 does Transmit eth 0 gets Got 3 5 (2 ∷ [])
    ∷ 0 does Transmit eth 0 gets Got 4 5 (0 ∷ 1 ∷ 2 ∷ 3 ∷ 4 ∷ 5 ∷ 6 ∷ 7 ∷ 8 ∷ 9 ∷ 10 ∷ 11 ∷ 12 ∷ 13 ∷ 14 ∷ 15 ∷ [])
    ∷ []

abbrev pub end : ConfigView
end = record (no_lines 2 5) {
  fds = fds_of_ip_ip_eth;
  links = link_of 1 ip 0 eth 0 Persistent ∷ [];
  binds = bind_of ip 9 1 ∷ [];
  routes = route_of ip 5 1 ∷ [];
}

pub is_legal : IsLegal drivers history
is_legal = legal drivers history refl

pub ends_so : view drivers (after drivers history) ≡ end
ends_so = refl
