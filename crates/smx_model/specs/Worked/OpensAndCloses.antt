-- A closed descriptor is opened again, and a stream that nothing names ceases to exist.
use Rattle.std.specs.Prelude.{◌≡◌, List, [], ◌∷◌, refl}
use Rattle.smx_model.specs.Worked.Common.{OpenClone, Close, Fd, Done, Entry, ConfigView, IsLegal, after, view, legal}
use Rattle.smx_model.specs.Worked.Common.{◌does◌gets◌, ip, no_lines, fd_of, ip_over_eth}

abbrev pub history : List Entry
history = 0 does OpenClone ip gets Fd 0 0
    ∷ 0 does OpenClone ip gets Fd 1 1
    ∷ 0 does Close 0 gets Done []
    ∷ 0 does OpenClone ip gets Fd 0 0
    ∷ []

abbrev pub end : ConfigView
end = record (no_lines 1 1) { fds = fd_of 0 0 ip 0 ∷ fd_of 0 1 ip 1 ∷ [] }

pub is_legal : IsLegal ip_over_eth history
is_legal = legal ip_over_eth history refl

pub ends_so : view ip_over_eth (after ip_over_eth history) ≡ end
ends_so = refl
