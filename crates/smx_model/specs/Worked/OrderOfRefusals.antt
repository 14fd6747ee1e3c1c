-- The refusals of link and unlink are in the order of the table.
use Rattle.std.specs.Prelude.{◌≡◌, List, [], ◌∷◌, ◌++◌, refl}
use Rattle.smx_types.specs.declared.command.Which.TheVariants as which
use Rattle.smx_model.specs.Worked.Common.{OpenClone, Link, Plink, Unlink, Fd, Id, Fault, BadDescriptor, Below, NotMux}
use Rattle.smx_model.specs.Worked.Common.{AlreadyBelow, Cycle, Ordinary, Persistent, Entry, ConfigView, IsLegal, after}
use Rattle.smx_model.specs.Worked.Common.{view, legal, ◌does◌gets◌, eth, a, b, no_lines, fd_of, link_of, a_b_and_eth}
use Rattle.smx_model.specs.Worked.Common.{opened_a_b_eth}

abbrev pub history : List Entry
history = opened_a_b_eth
    ++ 0 does Link 0 0 gets Fault Cycle
    ∷ 0 does Link 2 0 gets Fault NotMux
    ∷ 0 does Link 2 9 gets Fault BadDescriptor
    ∷ 0 does Link 0 1 gets Id 1
    ∷ 0 does Link 1 2 gets Fault Below
    ∷ 0 does OpenClone b gets Fd 3 1
    ∷ 0 does Link 3 1 gets Fault AlreadyBelow
    ∷ 0 does Plink 0 2 gets Id 2
    ∷ 0 does Link 2 9 gets Fault BadDescriptor
    ∷ 0 does Link 2 0 gets Fault Below
    ∷ 0 does Unlink 2 (which.Id 1) gets Fault Below
    ∷ []

abbrev pub end : ConfigView
end = record (no_lines 3 1) {
  fds = fd_of 0 0 a 0 ∷ fd_of 0 1 b 0 ∷ fd_of 0 2 eth 0 ∷ fd_of 0 3 b 1 ∷ [];
  links = link_of 1 a 0 b 0 Ordinary ∷ link_of 2 a 0 eth 0 Persistent ∷ [];
}

pub is_legal : IsLegal a_b_and_eth history
is_legal = legal a_b_and_eth history refl

pub ends_so : view a_b_and_eth (after a_b_and_eth history) ≡ end
ends_so = refl
