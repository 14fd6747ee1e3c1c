-- Places are ordered by stream and then by side, dropped serials rise, and full marks stay unless a queue was emptied.
use Rattle.std.specs.Prelude.{◌≡◌, List, [], ◌∷◌, ◌++◌, refl}
use Rattle.smx_types.specs.declared.stream.Side.TheVariants as side
use Rattle.smx_model.specs.Worked.Common.{OpenClone, CloseAll, Write, Flush, Inject, Transmit, Fd, Took, Got, Done}
use Rattle.smx_model.specs.Worked.Common.{Fault, Full, RW, Entry, ConfigView, IsLegal, after, view, legal, ◌does◌gets◌}
use Rattle.smx_model.specs.Worked.Common.{eth, no_lines, fd_of, message_at, full_at, ip_over_eth, opened_ip_eth_eth}

abbrev pub history : List Entry
history = opened_ip_eth_eth
    ++ 0 does Write 2 5 (1 ∷ []) gets Took 1
    ∷ 0 does Inject eth 0 9 (2 ∷ []) gets Took 2
    ∷ 0 does Write 1 5 (3 ∷ []) gets Took 3
    ∷ 0 does CloseAll gets Done (1 ∷ 2 ∷ 3 ∷ [])
    ∷ 0 does OpenClone eth gets Fd 0 0
    ∷ 0 does OpenClone eth gets Fd 1 1
    ∷ 0 does Write 1 5 (1 ∷ 2 ∷ 3 ∷ 4 ∷ 5 ∷ []) gets Took 4
    ∷ 0 does Write 1 5 (6 ∷ 7 ∷ 8 ∷ []) gets Took 5
    ∷ 0 does Inject eth 0 9 (4 ∷ []) gets Took 6
    ∷ 0 does Flush 0 RW gets Done (6 ∷ [])
    ∷ 0 does Write 1 5 (9 ∷ []) gets Fault Full
    ∷ 0 does Transmit eth 1 gets Got 4 5 (1 ∷ 2 ∷ 3 ∷ 4 ∷ 5 ∷ [])
    ∷ 0 does Inject eth 0 9 (14 ∷ []) gets Took 7
    ∷ 0 does Write 1 5 (9 ∷ 10 ∷ 11 ∷ 12 ∷ 13 ∷ []) gets Took 8
    ∷ 0 does Transmit eth 1 gets Got 5 5 (6 ∷ 7 ∷ 8 ∷ [])
    ∷ []

abbrev pub end : ConfigView
end = record (no_lines 1 9) {
  fds = fd_of 0 0 eth 0 ∷ fd_of 0 1 eth 1 ∷ [];
  msgs =
      message_at eth 0 side.Read 7 9 (14 ∷ [])
      ∷ message_at eth 1 side.Write 8 5 (9 ∷ 10 ∷ 11 ∷ 12 ∷ 13 ∷ [])
      ∷ [];
  fulls = full_at eth 1 side.Write ∷ [];
}

pub is_legal : IsLegal ip_over_eth history
is_legal = legal ip_over_eth history refl

pub ends_so : view ip_over_eth (after ip_over_eth history) ≡ end
ends_so = refl
