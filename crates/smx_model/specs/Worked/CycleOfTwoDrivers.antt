-- A link that would close a cycle of two drivers is refused, and so is opening a linked minor.
use Rattle.std.specs.Prelude.{◌≡◌, List, [], ◌∷◌, refl}
use Rattle.smx_model.specs.Worked.Common.{OpenClone, OpenMinor, Close, Link, Plink, Fd, Id, Done, Fault, Below, Cycle}
use Rattle.smx_model.specs.Worked.Common.{Persistent, Entry, ConfigView, IsLegal, after, view, legal, ◌does◌gets◌, a, b}
use Rattle.smx_model.specs.Worked.Common.{no_lines, fd_of, link_of, a_b_and_eth}

abbrev pub history : List Entry
history = 0 does OpenClone a gets Fd 0 0
    ∷ 0 does OpenClone b gets Fd 1 0
    ∷ 0 does Plink 0 1 gets Id 1
    ∷ 0 does Close 1 gets Done []
    ∷ 0 does OpenClone b gets Fd 1 1
    ∷ 0 does Link 1 0 gets Fault Cycle
    ∷ 0 does OpenMinor b 0 gets Fault Below
    ∷ []

abbrev pub end : ConfigView
end = record (no_lines 2 1) {
  fds = fd_of 0 0 a 0 ∷ fd_of 0 1 b 1 ∷ [];
  links = link_of 1 a 0 b 0 Persistent ∷ [];
}

pub is_legal : IsLegal a_b_and_eth history
is_legal = legal a_b_and_eth history refl

pub ends_so : view a_b_and_eth (after a_b_and_eth history) ≡ end
ends_so = refl
