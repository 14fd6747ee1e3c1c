-- With a full descriptor table, the other refusals of an open still come first.
use Rattle.std.specs.Prelude.{◌≡◌, List, [], ◌∷◌, ◌++◌, refl}
use Rattle.smx_model.specs.Worked.Common.{OpenClone, OpenMinor, Dup, Link, Fd, Id, Fault, BadDescriptor, Below}
use Rattle.smx_model.specs.Worked.Common.{NoDriver, NoMinor, TooManyDescriptors, Ordinary, Entry, ConfigView}
use Rattle.smx_model.specs.Worked.Common.{DriverSpec, IsLegal, after, view, legal, ◌does◌gets◌, ip, eth, tr, mux, leaf}
use Rattle.smx_model.specs.Worked.Common.{no_lines, fd_of, link_of, opened_ip_eth}

abbrev pub drivers : List DriverSpec
drivers = mux ip 2 ∷ leaf eth 2 ∷ []

abbrev pub history : List Entry
history = opened_ip_eth
    ++ 0 does Link 0 1 gets Id 1
    ∷ 0 does OpenClone eth gets Fd 2 1
    ∷ 0 does Dup 2 gets Fd 3 1
    ∷ 0 does OpenMinor ip 0 gets Fd 4 0
    ∷ 0 does OpenMinor ip 0 gets Fd 5 0
    ∷ 0 does OpenMinor ip 0 gets Fd 6 0
    ∷ 0 does OpenMinor ip 0 gets Fd 7 0
    ∷ 0 does OpenMinor ip 0 gets Fd 8 0
    ∷ 0 does OpenMinor ip 0 gets Fd 9 0
    ∷ 0 does OpenMinor ip 0 gets Fd 10 0
    ∷ 0 does OpenMinor ip 0 gets Fd 11 0
    ∷ 0 does OpenMinor ip 0 gets Fd 12 0
    ∷ 0 does OpenMinor ip 0 gets Fd 13 0
    ∷ 0 does OpenMinor ip 1 gets Fd 14 1
    ∷ 0 does OpenMinor ip 0 gets Fd 15 0
    ∷ 0 does OpenClone tr gets Fault NoDriver
    ∷ 0 does OpenClone eth gets Fault NoMinor
    ∷ 0 does OpenMinor tr 0 gets Fault NoDriver
    ∷ 0 does OpenMinor ip 2 gets Fault NoMinor
    ∷ 0 does OpenMinor eth 0 gets Fault Below
    ∷ 0 does OpenMinor ip 0 gets Fault TooManyDescriptors
    ∷ 0 does Dup 16 gets Fault BadDescriptor
    ∷ []

abbrev pub end : ConfigView
end = record (no_lines 2 1) {
  fds =
      fd_of 0 0 ip 0
      ∷ fd_of 0 1 eth 0
      ∷ fd_of 0 2 eth 1
      ∷ fd_of 0 3 eth 1
      ∷ fd_of 0 4 ip 0
      ∷ fd_of 0 5 ip 0
      ∷ fd_of 0 6 ip 0
      ∷ fd_of 0 7 ip 0
      ∷ fd_of 0 8 ip 0
      ∷ fd_of 0 9 ip 0
      ∷ fd_of 0 10 ip 0
      ∷ fd_of 0 11 ip 0
      ∷ fd_of 0 12 ip 0
      ∷ fd_of 0 13 ip 0
      ∷ fd_of 0 14 ip 1
      ∷ fd_of 0 15 ip 0
      ∷ [];
  links = link_of 1 ip 0 eth 0 Ordinary ∷ [];
}

pub is_legal : IsLegal drivers history
is_legal = legal drivers history refl

pub ends_so : view drivers (after drivers history) ≡ end
ends_so = refl
