-- Messages towards a hung-up stream wait, messages that came in from it still move up, and it stays hung up while a
-- link holds it. The streams beside it don't change.
use Rattle.std.specs.Prelude.{◌≡◌, List, [], ◌∷◌, ◌++◌, refl}
use Rattle.smx_types.specs.declared.command.Which.TheVariants as which
use Rattle.smx_types.specs.declared.stream.Side.TheVariants as side
use Rattle.smx_model.specs.Worked.Common.{OpenMinor, Close, Link, Unlink, Plink, Punlink, Bind, Route, Write, Read}
use Rattle.smx_model.specs.Worked.Common.{Flush, Inject, Transmit, Hangup, Fd, Id, Took, Got, Done, Eof, Fault, Empty}
use Rattle.smx_model.specs.Worked.Common.{Below, NotMux, R, Entry, ConfigView, IsLegal, after, view, legal, ◌does◌gets◌}
use Rattle.smx_model.specs.Worked.Common.{ip, eth, no_lines, fd_of, link_of, bind_of, hung_of, message_at, ip_over_eth}
use Rattle.smx_model.specs.Worked.Common.{opened_ip_eth_eth, Persistent}

abbrev pub history : List Entry
history = opened_ip_eth_eth
    ++ 0 does Link 0 1 gets Id 1
    ∷ 0 does Plink 0 2 gets Id 2
    ∷ 0 does Route 0 5 1 gets Done []
    ∷ 0 does Route 0 6 2 gets Done []
    ∷ 0 does Inject eth 1 9 (170 ∷ []) gets Took 1
    ∷ 0 does Hangup eth 1 gets Done []
    ∷ 0 does Close 2 gets Done []
    ∷ 0 does Bind 0 9 gets Done []
    ∷ 0 does Read 0 gets Got 1 9 (170 ∷ [])
    ∷ 0 does Read 0 gets Fault Empty
    ∷ 0 does Write 0 5 (187 ∷ []) gets Took 2
    ∷ 0 does Write 0 6 (204 ∷ []) gets Took 3
    ∷ 0 does Write 0 5 (221 ∷ []) gets Took 4
    ∷ 0 does Transmit eth 0 gets Got 2 5 (187 ∷ [])
    ∷ 0 does Transmit eth 0 gets Fault Empty
    ∷ 0 does Hangup eth 0 gets Done []
    ∷ 0 does Punlink 0 (which.Id 2) gets Done []
    ∷ 0 does OpenMinor eth 1 gets Fd 2 1
    ∷ 0 does Read 2 gets Fault Empty
    ∷ 0 does Flush 2 R gets Done []
    ∷ 0 does Unlink 0 (which.Id 1) gets Done []
    ∷ 0 does OpenMinor eth 0 gets Fd 3 0
    ∷ 0 does Read 3 gets Eof
    ∷ 0 does Plink 0 3 gets Id 3
    ∷ 0 does Link 1 0 gets Fault Below
    ∷ 0 does Write 1 5 (187 ∷ []) gets Fault Below
    ∷ 0 does Flush 3 R gets Fault Below
    ∷ 0 does Unlink 2 which.All gets Fault NotMux
    ∷ []

abbrev pub end : ConfigView
end = record (no_lines 4 5) {
  fds = fd_of 0 0 ip 0 ∷ fd_of 0 1 eth 0 ∷ fd_of 0 2 eth 1 ∷ fd_of 0 3 eth 0 ∷ [];
  links = link_of 3 ip 0 eth 0 Persistent ∷ [];
  binds = bind_of ip 9 0 ∷ [];
  msgs = message_at ip 0 side.Write 3 6 (204 ∷ []) ∷ message_at ip 0 side.Write 4 5 (221 ∷ []) ∷ [];
  hungs = hung_of eth 0 ∷ [];
}

pub is_legal : IsLegal ip_over_eth history
is_legal = legal ip_over_eth history refl

pub ends_so : view ip_over_eth (after ip_over_eth history) ≡ end
ends_so = refl
