-- An address is bound once, a stream has one address, and a message for an unbound address waits.
use Rattle.std.specs.Prelude.{◌≡◌, List, [], ◌∷◌, ◌++◌, refl}
use Rattle.smx_model.specs.Worked.Common.{Plink, Bind, Unbind, Route, Read, Flush, Inject, Id, Took, Done, Fault}
use Rattle.smx_model.specs.Worked.Common.{NotMux, NoLink, AddressInUse, Unbound, Empty, R, Persistent, Entry}
use Rattle.smx_model.specs.Worked.Common.{ConfigView, IsLegal, after, view, legal, ◌does◌gets◌, ip, eth, no_lines}
use Rattle.smx_model.specs.Worked.Common.{link_of, ip_over_eth, opened_ip_ip_eth, fds_of_ip_ip_eth}

abbrev pub history : List Entry
history = opened_ip_ip_eth
    ++ 0 does Bind 2 9 gets Fault NotMux
    ∷ 0 does Plink 0 2 gets Id 1
    ∷ 0 does Inject eth 0 9 (170 ∷ []) gets Took 1
    ∷ 0 does Bind 0 9 gets Done []
    ∷ 0 does Bind 1 9 gets Fault AddressInUse
    ∷ 0 does Bind 0 8 gets Fault AddressInUse
    ∷ 0 does Inject eth 0 9 (187 ∷ []) gets Took 2
    ∷ 0 does Flush 0 R gets Done (1 ∷ 2 ∷ [])
    ∷ 0 does Unbind 0 gets Done []
    ∷ 0 does Unbind 0 gets Fault Unbound
    ∷ 0 does Read 0 gets Fault Empty
    ∷ 0 does Route 0 5 9 gets Fault NoLink
    ∷ []

abbrev pub end : ConfigView
end = record (no_lines 2 3) { fds = fds_of_ip_ip_eth; links = link_of 1 ip 0 eth 0 Persistent ∷ [] }

pub is_legal : IsLegal ip_over_eth history
is_legal = legal ip_over_eth history refl

pub ends_so : view ip_over_eth (after ip_over_eth history) ≡ end
ends_so = refl
