-- Removing all ordinary links removes those of one stream; removing all persistent links removes those of the driver.
use Rattle.std.specs.Prelude.{◌≡◌, List, [], ◌∷◌, ◌++◌, refl}
use Rattle.smx_types.specs.declared.command.Which.TheVariants as which
use Rattle.smx_model.specs.Worked.Common.{Link, Plink, Unlink, Punlink, Id, Done, Fault, AlreadyBelow, Ordinary, Entry}
use Rattle.smx_model.specs.Worked.Common.{ConfigView, IsLegal, after, view, legal, ◌does◌gets◌, ip, eth, no_lines}
use Rattle.smx_model.specs.Worked.Common.{link_of, ip_over_eth, opened_ip_ip_eth_eth, fds_of_ip_ip_eth_eth}

abbrev pub history : List Entry
history = opened_ip_ip_eth_eth
    ++ 0 does Link 0 2 gets Id 1
    ∷ 0 does Link 1 3 gets Id 2
    ∷ 0 does Unlink 0 which.All gets Done []
    ∷ 0 does Plink 0 3 gets Fault AlreadyBelow
    ∷ 0 does Plink 0 2 gets Id 3
    ∷ 0 does Unlink 1 which.All gets Done []
    ∷ 0 does Plink 1 3 gets Id 4
    ∷ 0 does Unlink 0 which.All gets Done []
    ∷ 0 does Link 1 2 gets Fault AlreadyBelow
    ∷ 0 does Punlink 0 which.All gets Done []
    ∷ 0 does Link 0 3 gets Id 5
    ∷ []

abbrev pub end : ConfigView
end = record (no_lines 6 1) {
  fds = fds_of_ip_ip_eth_eth;
  links = link_of 5 ip 0 eth 1 Ordinary ∷ [];
}

pub is_legal : IsLegal ip_over_eth history
is_legal = legal ip_over_eth history refl

pub ends_so : view ip_over_eth (after ip_over_eth history) ≡ end
ends_so = refl
