-- Unlink only removes ordinary links of its own stream, punlink only persistent links of its driver.
use Rattle.std.specs.Prelude.{◌≡◌, List, [], ◌∷◌, ◌++◌, refl}
use Rattle.smx_types.specs.declared.command.Which.TheVariants as which
use Rattle.smx_model.specs.Worked.Common.{Link, Plink, Unlink, Punlink, Id, Done, Fault, NotMux, NoLink, Entry}
use Rattle.smx_model.specs.Worked.Common.{ConfigView, IsLegal, after, view, legal, ◌does◌gets◌, no_lines, ip_over_eth}
use Rattle.smx_model.specs.Worked.Common.{opened_ip_ip_eth_eth, fds_of_ip_ip_eth_eth}

abbrev pub history : List Entry
history = opened_ip_ip_eth_eth
    ++ 0 does Link 0 2 gets Id 1
    ∷ 0 does Plink 0 3 gets Id 2
    ∷ 0 does Unlink 0 (which.Id 2) gets Fault NoLink
    ∷ 0 does Punlink 0 (which.Id 1) gets Fault NoLink
    ∷ 0 does Unlink 1 (which.Id 1) gets Fault NoLink
    ∷ 0 does Punlink 1 (which.Id 2) gets Done []
    ∷ 0 does Unlink 1 which.All gets Done []
    ∷ 0 does Unlink 0 which.All gets Done []
    ∷ 0 does Unlink 0 (which.Id 1) gets Fault NoLink
    ∷ 0 does Punlink 2 which.All gets Fault NotMux
    ∷ []

abbrev pub end : ConfigView
end = record (no_lines 3 1) { fds = fds_of_ip_ip_eth_eth }

pub is_legal : IsLegal ip_over_eth history
is_legal = legal ip_over_eth history refl

pub ends_so : view ip_over_eth (after ip_over_eth history) ≡ end
ends_so = refl
