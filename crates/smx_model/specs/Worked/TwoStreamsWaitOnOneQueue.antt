-- If two streams wait for one queue, the lesser moves first, and both move.
use Rattle.std.specs.Prelude.{◌≡◌, List, [], ◌∷◌, take, ◌++◌, refl}
use Rattle.smx_types.specs.declared.stream.Side.TheVariants as side
use Rattle.smx_model.specs.Worked.Common.{Link, Route, Write, Transmit, Id, Took, Got, Done, Fault, Empty, Ordinary}
use Rattle.smx_model.specs.Worked.Common.{Entry, ConfigView, IsLegal, after, view, legal, ◌does◌gets◌, ip, eth}
use Rattle.smx_model.specs.Worked.Common.{no_lines, link_of, route_of, message_at, MessageLine, ip_over_eth}
use Rattle.smx_model.specs.Worked.Common.{opened_ip_ip_eth, fds_of_ip_ip_eth}

abbrev pub history : List Entry
history = opened_ip_ip_eth
    ++ 0 does Link 0 2 gets Id 1
    ∷ 0 does Route 0 5 1 gets Done []
    ∷ 0 does Write 1 5 (1 ∷ 2 ∷ 3 ∷ 4 ∷ 5 ∷ 6 ∷ 7 ∷ 8 ∷ []) gets Took 1
    ∷ 0 does Write 1 5 (10 ∷ []) gets Took 2
    ∷ 0 does Write 0 5 (11 ∷ []) gets Took 3
    ∷ 0 does Transmit eth 0 gets Got 1 5 (1 ∷ 2 ∷ 3 ∷ 4 ∷ 5 ∷ 6 ∷ 7 ∷ 8 ∷ [])
    ∷ 0 does Transmit eth 0 gets Got 3 5 (11 ∷ [])
    ∷ 0 does Transmit eth 0 gets Got 2 5 (10 ∷ [])
    ∷ 0 does Transmit eth 0 gets Fault Empty
    ∷ []

abbrev pub end : ConfigView
end = record (no_lines 2 4) {
  fds = fds_of_ip_ip_eth;
  links = link_of 1 ip 0 eth 0 Ordinary ∷ [];
  routes = route_of ip 5 1 ∷ [];
}

pub is_legal : IsLegal ip_over_eth history
is_legal = legal ip_over_eth history refl

pub ends_so : view ip_over_eth (after ip_over_eth history) ≡ end
ends_so = refl

-- after the first drain of the queue both streams have moved on, the lesser first
abbrev pub woken : List MessageLine
woken = message_at eth 0 side.Write 3 5 (11 ∷ []) ∷ message_at eth 0 side.Write 2 5 (10 ∷ []) ∷ []

pub both_wake : (view ip_over_eth (after ip_over_eth (take 9 history))).msgs ≡ woken
both_wake = refl
