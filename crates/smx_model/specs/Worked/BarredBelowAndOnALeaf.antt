-- Each command of a multiplexer is refused on a linked stream, and then on a leaf.
use Rattle.std.specs.Prelude.{◌≡◌, List, [], ◌∷◌, ◌++◌, refl}
use Rattle.smx_types.specs.declared.command.Which.TheVariants as which
use Rattle.smx_model.specs.Worked.Common.{Link, Unlink, Punlink, Bind, Unbind, Route, Unroute, Id, Fault, Below, NotMux}
use Rattle.smx_model.specs.Worked.Common.{Ordinary, Entry, ConfigView, IsLegal, after, view, legal, ◌does◌gets◌, ip}
use Rattle.smx_model.specs.Worked.Common.{eth, no_lines, link_of, ip_over_eth, opened_ip_eth_eth, fds_of_ip_eth_eth}

abbrev pub history : List Entry
history = opened_ip_eth_eth
    ++ 0 does Link 0 1 gets Id 1
    ∷ 0 does Unlink 1 which.All gets Fault Below
    ∷ 0 does Punlink 1 which.All gets Fault Below
    ∷ 0 does Bind 1 5 gets Fault Below
    ∷ 0 does Unbind 1 gets Fault Below
    ∷ 0 does Route 1 5 9 gets Fault Below
    ∷ 0 does Unroute 1 5 gets Fault Below
    ∷ 0 does Unlink 2 which.All gets Fault NotMux
    ∷ 0 does Punlink 2 which.All gets Fault NotMux
    ∷ 0 does Bind 2 5 gets Fault NotMux
    ∷ 0 does Unbind 2 gets Fault NotMux
    ∷ 0 does Route 2 5 9 gets Fault NotMux
    ∷ 0 does Unroute 2 5 gets Fault NotMux
    ∷ 0 does Link 2 1 gets Fault NotMux
    ∷ 0 does Link 1 1 gets Fault Below
    ∷ []

abbrev pub end : ConfigView
end = record (no_lines 2 1) { fds = fds_of_ip_eth_eth; links = link_of 1 ip 0 eth 0 Ordinary ∷ [] }

pub is_legal : IsLegal ip_over_eth history
is_legal = legal ip_over_eth history refl

pub ends_so : view ip_over_eth (after ip_over_eth history) ≡ end
ends_so = refl
