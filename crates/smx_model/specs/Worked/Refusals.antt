-- Two processes: an open without its driver or minor is refused, and so is a dup or close without its descriptor. A
-- shared stream exists until its last close.
use Rattle.std.specs.Prelude.{◌≡◌, List, [], ◌∷◌, refl}
use Rattle.smx_model.specs.Worked.Common.{OpenClone, OpenMinor, Dup, Close, CloseAll, Fd, Done, Fault, BadDescriptor}
use Rattle.smx_model.specs.Worked.Common.{NoDriver, NoMinor, Entry, ConfigView, IsLegal, after, view, legal}
use Rattle.smx_model.specs.Worked.Common.{◌does◌gets◌, ip, eth, tr, no_lines, fd_of, few_and_small}

abbrev pub history : List Entry
history = 0 does OpenClone ip gets Fd 0 0
    ∷ 0 does Dup 1 gets Fault BadDescriptor
    ∷ 0 does Close 1 gets Fault BadDescriptor
    ∷ 1 does Close 0 gets Fault BadDescriptor
    ∷ 1 does OpenMinor ip 0 gets Fd 0 0
    ∷ 0 does OpenClone ip gets Fd 1 1
    ∷ 0 does OpenClone ip gets Fault NoMinor
    ∷ 1 does OpenMinor ip 2 gets Fault NoMinor
    ∷ 1 does OpenClone tr gets Fault NoDriver
    ∷ 1 does OpenMinor tr 0 gets Fault NoDriver
    ∷ 0 does OpenClone eth gets Fd 2 0
    ∷ 1 does OpenClone eth gets Fault NoMinor
    ∷ 0 does Close 0 gets Done []
    ∷ 1 does OpenClone ip gets Fault NoMinor
    ∷ 1 does CloseAll gets Done []
    ∷ 1 does OpenClone ip gets Fd 0 0
    ∷ 0 does Dup 2 gets Fd 0 0
    ∷ []

abbrev pub end : ConfigView
end = record (no_lines 1 1) {
  fds = fd_of 0 0 eth 0 ∷ fd_of 0 1 ip 1 ∷ fd_of 0 2 eth 0 ∷ fd_of 1 0 ip 0 ∷ [];
}

pub is_legal : IsLegal few_and_small history
is_legal = legal few_and_small history refl

pub ends_so : view few_and_small (after few_and_small history) ≡ end
ends_so = refl
