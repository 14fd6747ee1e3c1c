-- A persistent link stays when its maker closes everything; its removal drops its queued message.
use Rattle.std.specs.Prelude.{◌≡◌, List, [], ◌∷◌, ◌++◌, refl}
use Rattle.smx_types.specs.declared.command.Which.TheVariants as which
use Rattle.smx_model.specs.Worked.Common.{OpenClone, CloseAll, Plink, Punlink, Route, Inject, Transmit, Fd, Id, Took}
use Rattle.smx_model.specs.Worked.Common.{Done, Fault, NoMinor, Entry, ConfigView, IsLegal, after, view, legal}
use Rattle.smx_model.specs.Worked.Common.{◌does◌gets◌, ip, eth, no_lines, fd_of, ip_over_eth, opened_ip_eth}

abbrev pub history : List Entry
history = opened_ip_eth
    ++ 0 does Plink 0 1 gets Id 1
    ∷ 0 does Route 0 7 1 gets Done []
    ∷ 0 does CloseAll gets Done []
    ∷ 0 does Inject eth 0 9 (170 ∷ []) gets Took 1
    ∷ 0 does OpenClone ip gets Fd 0 0
    ∷ 0 does Punlink 0 which.All gets Done (1 ∷ [])
    ∷ 0 does Transmit eth 0 gets Fault NoMinor
    ∷ []

abbrev pub end : ConfigView
end = record (no_lines 2 2) { fds = fd_of 0 0 ip 0 ∷ [] }

pub is_legal : IsLegal ip_over_eth history
is_legal = legal ip_over_eth history refl

pub ends_so : view ip_over_eth (after ip_over_eth history) ≡ end
ends_so = refl
