-- A full queue stays full until its low water mark, and then messages move on through the multiplexer.
use Rattle.std.specs.Prelude.{◌≡◌, List, [], ◌∷◌, ◌++◌, refl}
use Rattle.smx_types.specs.declared.stream.Side.TheVariants as side
use Rattle.smx_model.specs.Worked.Common.{Link, Route, Write, Transmit, Id, Took, Got, Done, Fault, Full, Ordinary}
use Rattle.smx_model.specs.Worked.Common.{Entry, ConfigView, IsLegal, after, view, legal, ◌does◌gets◌, ip, eth}
use Rattle.smx_model.specs.Worked.Common.{no_lines, link_of, route_of, message_at, full_at, ip_over_eth, opened_ip_eth}
use Rattle.smx_model.specs.Worked.Common.{fds_of_ip_eth}

abbrev pub history : List Entry
history = opened_ip_eth
    ++ 0 does Link 0 1 gets Id 1
    ∷ 0 does Route 0 5 1 gets Done []
    ∷ 0 does Write 0 5 (0 ∷ 0 ∷ 0 ∷ 1 ∷ []) gets Took 1
    ∷ 0 does Write 0 5 (0 ∷ 0 ∷ 0 ∷ 2 ∷ []) gets Took 2
    ∷ 0 does Write 0 5 (0 ∷ 0 ∷ 0 ∷ 3 ∷ []) gets Took 3
    ∷ 0 does Write 0 5 (0 ∷ 0 ∷ 0 ∷ 4 ∷ []) gets Took 4
    ∷ 0 does Write 0 5 (0 ∷ 0 ∷ 0 ∷ 5 ∷ []) gets Fault Full
    ∷ 0 does Transmit eth 0 gets Got 1 5 (0 ∷ 0 ∷ 0 ∷ 1 ∷ [])
    ∷ 0 does Write 0 5 (0 ∷ 0 ∷ 0 ∷ 5 ∷ []) gets Fault Full
    ∷ 0 does Transmit eth 0 gets Got 2 5 (0 ∷ 0 ∷ 0 ∷ 2 ∷ [])
    ∷ 0 does Write 0 5 (0 ∷ 0 ∷ 0 ∷ 5 ∷ []) gets Took 5
    ∷ []

abbrev pub end : ConfigView
end = record (no_lines 2 6) {
  fds = fds_of_ip_eth;
  links = link_of 1 ip 0 eth 0 Ordinary ∷ [];
  routes = route_of ip 5 1 ∷ [];
  msgs =
      message_at ip 0 side.Write 5 5 (0 ∷ 0 ∷ 0 ∷ 5 ∷ [])
      ∷ message_at eth 0 side.Write 3 5 (0 ∷ 0 ∷ 0 ∷ 3 ∷ [])
      ∷ message_at eth 0 side.Write 4 5 (0 ∷ 0 ∷ 0 ∷ 4 ∷ [])
      ∷ [];
  fulls = full_at eth 0 side.Write ∷ [];
}

pub is_legal : IsLegal ip_over_eth history
is_legal = legal ip_over_eth history refl

pub ends_so : view ip_over_eth (after ip_over_eth history) ≡ end
ends_so = refl
