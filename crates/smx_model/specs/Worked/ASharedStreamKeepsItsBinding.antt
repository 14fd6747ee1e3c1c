-- A binding exists as long as its stream.
use Rattle.std.specs.Prelude.{◌≡◌, List, [], ◌∷◌, refl}
use Rattle.smx_model.specs.Worked.Common.{OpenClone, OpenMinor, CloseAll, Bind, Unbind, Fd, Done, Fault, AddressInUse}
use Rattle.smx_model.specs.Worked.Common.{Entry, ConfigView, IsLegal, after, view, legal, ◌does◌gets◌, ip, no_lines}
use Rattle.smx_model.specs.Worked.Common.{fd_of, ip_over_eth}

abbrev pub history : List Entry
history = 0 does OpenClone ip gets Fd 0 0
    ∷ 1 does OpenMinor ip 0 gets Fd 0 0
    ∷ 0 does Bind 0 9 gets Done []
    ∷ 0 does CloseAll gets Done []
    ∷ 1 does Bind 0 8 gets Fault AddressInUse
    ∷ 1 does Unbind 0 gets Done []
    ∷ []

abbrev pub end : ConfigView
end = record (no_lines 1 1) { fds = fd_of 1 0 ip 0 ∷ [] }

pub is_legal : IsLegal ip_over_eth history
is_legal = legal ip_over_eth history refl

pub ends_so : view ip_over_eth (after ip_over_eth history) ≡ end
ends_so = refl
