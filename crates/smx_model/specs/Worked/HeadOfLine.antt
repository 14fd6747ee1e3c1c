-- A message without a route waits at the head of its queue and blocks those after it.
use Rattle.std.specs.Prelude.{◌≡◌, List, [], ◌∷◌, ◌++◌, refl}
use Rattle.smx_model.specs.Worked.Common.{Link, Route, Unroute, Write, Transmit, Id, Took, Got, Done, Fault, Unrouted}
use Rattle.smx_model.specs.Worked.Common.{Empty, Ordinary, Entry, ConfigView, IsLegal, after, view, legal, ◌does◌gets◌}
use Rattle.smx_model.specs.Worked.Common.{ip, eth, no_lines, link_of, route_of, ip_over_eth, opened_ip_eth}
use Rattle.smx_model.specs.Worked.Common.{fds_of_ip_eth}

abbrev pub history : List Entry
history = opened_ip_eth
    ++ 0 does Link 0 1 gets Id 1
    ∷ 0 does Route 0 6 1 gets Done []
    ∷ 0 does Write 0 5 (170 ∷ []) gets Took 1
    ∷ 0 does Write 0 6 (187 ∷ []) gets Took 2
    ∷ 0 does Transmit eth 0 gets Fault Empty
    ∷ 0 does Route 0 5 1 gets Done []
    ∷ 0 does Transmit eth 0 gets Got 1 5 (170 ∷ [])
    ∷ 0 does Unroute 0 6 gets Done []
    ∷ 0 does Unroute 0 6 gets Fault Unrouted
    ∷ 0 does Transmit eth 0 gets Got 2 6 (187 ∷ [])
    ∷ []

abbrev pub end : ConfigView
end = record (no_lines 2 3) {
  fds = fds_of_ip_eth;
  links = link_of 1 ip 0 eth 0 Ordinary ∷ [];
  routes = route_of ip 5 1 ∷ [];
}

pub is_legal : IsLegal ip_over_eth history
is_legal = legal ip_over_eth history refl

pub ends_so : view ip_over_eth (after ip_over_eth history) ≡ end
ends_so = refl
