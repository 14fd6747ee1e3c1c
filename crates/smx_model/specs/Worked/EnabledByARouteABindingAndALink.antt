-- A waiting message moves on once it has a route, a binding or a link.
use Rattle.std.specs.Prelude.{◌≡◌, List, [], ◌∷◌, ◌++◌, refl}
use Rattle.smx_types.specs.declared.command.Which.TheVariants as which
use Rattle.smx_model.specs.Worked.Common.{Link, Plink, Unlink, Bind, Route, Write, Read, Inject, Transmit, Id, Took}
use Rattle.smx_model.specs.Worked.Common.{Got, Done, Ordinary, Persistent, Entry, ConfigView, IsLegal, after, view}
use Rattle.smx_model.specs.Worked.Common.{legal, ◌does◌gets◌, ip, eth, no_lines, link_of, bind_of, route_of}
use Rattle.smx_model.specs.Worked.Common.{ip_over_eth, opened_ip_eth_eth, fds_of_ip_eth_eth}

abbrev pub history : List Entry
history = opened_ip_eth_eth
    ++ 0 does Link 0 1 gets Id 1
    ∷ 0 does Link 0 2 gets Id 2
    ∷ 0 does Route 0 5 1 gets Done []
    ∷ 0 does Write 0 5 (1 ∷ 2 ∷ 3 ∷ 4 ∷ 5 ∷ 6 ∷ 7 ∷ 8 ∷ []) gets Took 1
    ∷ 0 does Write 0 5 (10 ∷ []) gets Took 2
    ∷ 0 does Route 0 5 2 gets Done []
    ∷ 0 does Transmit eth 1 gets Got 2 5 (10 ∷ [])
    ∷ 0 does Transmit eth 0 gets Got 1 5 (1 ∷ 2 ∷ 3 ∷ 4 ∷ 5 ∷ 6 ∷ 7 ∷ 8 ∷ [])
    ∷ 0 does Inject eth 0 9 (204 ∷ []) gets Took 3
    ∷ 0 does Bind 0 9 gets Done []
    ∷ 0 does Read 0 gets Got 3 9 (204 ∷ [])
    ∷ 0 does Unlink 0 (which.Id 1) gets Done []
    ∷ 0 does Inject eth 0 9 (221 ∷ []) gets Took 4
    ∷ 0 does Plink 0 1 gets Id 3
    ∷ 0 does Read 0 gets Got 4 9 (221 ∷ [])
    ∷ []

abbrev pub end : ConfigView
end = record (no_lines 4 5) {
  fds = fds_of_ip_eth_eth;
  links = link_of 2 ip 0 eth 1 Ordinary ∷ link_of 3 ip 0 eth 0 Persistent ∷ [];
  binds = bind_of ip 9 0 ∷ [];
  routes = route_of ip 5 2 ∷ [];
}

pub is_legal : IsLegal ip_over_eth history
is_legal = legal ip_over_eth history refl

pub ends_so : view ip_over_eth (after ip_over_eth history) ≡ end
ends_so = refl
