-- Each driver has its own water marks and longest message, and each side its own queue.
use Rattle.std.specs.Prelude.{◌≡◌, List, [], ◌∷◌, ◌++◌, refl}
use Rattle.smx_types.specs.declared.stream.Side.TheVariants as side
use Rattle.smx_model.specs.Worked.Common.{Write, Read, Inject, Transmit, Took, Got, Fault, NoDriver, Full, BadSize}
use Rattle.smx_model.specs.Worked.Common.{Entry, ConfigView, DriverSpec, IsLegal, after, view, legal, ◌does◌gets◌, ip}
use Rattle.smx_model.specs.Worked.Common.{eth, mux, leaf, no_lines, message_at, full_at, opened_ip_ip_eth_eth}
use Rattle.smx_model.specs.Worked.Common.{fds_of_ip_ip_eth_eth}

abbrev pub drivers : List DriverSpec
drivers = record (mux ip 2) { low = 0 } ∷ record (leaf eth 2) { high = 6; low = 2; max = 2 } ∷ []

abbrev pub history : List Entry
history = opened_ip_ip_eth_eth
    ++ 0 does Write 2 5 (1 ∷ 2 ∷ 3 ∷ []) gets Fault BadSize
    ∷ 0 does Write 2 5 (1 ∷ []) gets Took 1
    ∷ 0 does Write 2 5 (2 ∷ 3 ∷ []) gets Took 2
    ∷ 0 does Write 2 5 (4 ∷ 5 ∷ []) gets Took 3
    ∷ 0 does Transmit eth 0 gets Got 1 5 (1 ∷ [])
    ∷ 0 does Write 2 5 (6 ∷ []) gets Took 4
    ∷ 0 does Write 2 5 (7 ∷ 8 ∷ []) gets Took 5
    ∷ 0 does Write 2 5 (9 ∷ []) gets Fault Full
    ∷ 0 does Transmit eth 0 gets Got 2 5 (2 ∷ 3 ∷ [])
    ∷ 0 does Transmit eth 0 gets Got 3 5 (4 ∷ 5 ∷ [])
    ∷ 0 does Write 2 5 (10 ∷ []) gets Fault Full
    ∷ 0 does Transmit eth 0 gets Got 4 5 (6 ∷ [])
    ∷ 0 does Write 2 5 (11 ∷ []) gets Took 6
    ∷ 0 does Inject eth 1 9 (1 ∷ 2 ∷ []) gets Took 7
    ∷ 0 does Inject eth 1 9 (3 ∷ 4 ∷ []) gets Took 8
    ∷ 0 does Inject eth 1 9 (5 ∷ 6 ∷ []) gets Took 9
    ∷ 0 does Inject eth 1 9 (7 ∷ []) gets Fault Full
    ∷ 0 does Write 3 5 (12 ∷ []) gets Took 10
    ∷ 0 does Inject eth 0 9 (13 ∷ []) gets Took 11
    ∷ 0 does Read 3 gets Got 7 9 (1 ∷ 2 ∷ [])
    ∷ 0 does Inject eth 1 9 (7 ∷ []) gets Fault Full
    ∷ 0 does Read 3 gets Got 8 9 (3 ∷ 4 ∷ [])
    ∷ 0 does Inject eth 1 9 (7 ∷ []) gets Took 12
    ∷ 0 does Inject eth 1 9 (8 ∷ 9 ∷ []) gets Took 13
    ∷ 0 does Inject eth 1 9 (10 ∷ 11 ∷ []) gets Took 14
    ∷ 0 does Write 1 5 (1 ∷ 2 ∷ 3 ∷ 4 ∷ 5 ∷ []) gets Took 15
    ∷ 0 does Write 1 5 (6 ∷ 7 ∷ 8 ∷ 9 ∷ 10 ∷ 11 ∷ 12 ∷ 13 ∷ 14 ∷ 15 ∷ []) gets Took 16
    ∷ 0 does Write 1 5 (16 ∷ []) gets Fault Full
    ∷ 0 does Inject ip 0 9 (170 ∷ []) gets Fault NoDriver
    ∷ 0 does Inject ip 5 9 (170 ∷ []) gets Fault NoDriver
    ∷ 0 does Transmit ip 0 gets Fault NoDriver
    ∷ []

abbrev pub end : ConfigView
end = record (no_lines 1 17) {
  fds = fds_of_ip_ip_eth_eth;
  msgs =
      message_at ip 1 side.Write 15 5 (1 ∷ 2 ∷ 3 ∷ 4 ∷ 5 ∷ [])
      ∷ message_at ip 1 side.Write 16 5 (6 ∷ 7 ∷ 8 ∷ 9 ∷ 10 ∷ 11 ∷ 12 ∷ 13 ∷ 14 ∷ 15 ∷ [])
      ∷ message_at eth 0 side.Write 5 5 (7 ∷ 8 ∷ [])
      ∷ message_at eth 0 side.Write 6 5 (11 ∷ [])
      ∷ message_at eth 0 side.Read 11 9 (13 ∷ [])
      ∷ message_at eth 1 side.Write 10 5 (12 ∷ [])
      ∷ message_at eth 1 side.Read 9 9 (5 ∷ 6 ∷ [])
      ∷ message_at eth 1 side.Read 12 9 (7 ∷ [])
      ∷ message_at eth 1 side.Read 13 9 (8 ∷ 9 ∷ [])
      ∷ message_at eth 1 side.Read 14 9 (10 ∷ 11 ∷ [])
      ∷ [];
  fulls = full_at ip 1 side.Write ∷ full_at eth 1 side.Read ∷ [];
}

pub is_legal : IsLegal drivers history
is_legal = legal drivers history refl

pub ends_so : view drivers (after drivers history) ≡ end
ends_so = refl
