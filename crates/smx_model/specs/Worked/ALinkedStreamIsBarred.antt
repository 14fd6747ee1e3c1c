-- A stream below a driver refuses read, write and bind. Its descriptor can be closed, and another descriptor used
-- after the unlink.
use Rattle.std.specs.Prelude.{◌≡◌, List, [], ◌∷◌, ◌++◌, refl}
use Rattle.smx_types.specs.declared.command.Which.TheVariants as which
use Rattle.smx_types.specs.declared.stream.Side.TheVariants as side
use Rattle.smx_model.specs.Worked.Common.{OpenClone, OpenMinor, Dup, Close, Link, Plink, Unlink, Bind, Write, Read}
use Rattle.smx_model.specs.Worked.Common.{Flush, Fd, Id, Took, Done, Fault, Below, AlreadyBelow, RW, Entry, ConfigView}
use Rattle.smx_model.specs.Worked.Common.{IsLegal, after, view, legal, ◌does◌gets◌, ip, eth, no_lines, fd_of}
use Rattle.smx_model.specs.Worked.Common.{message_at, ip_over_eth, opened_ip_eth}

abbrev pub history : List Entry
history = opened_ip_eth
    ++ 0 does OpenClone ip gets Fd 2 1
    ∷ 0 does Link 0 1 gets Id 1
    ∷ 0 does Plink 2 1 gets Fault AlreadyBelow
    ∷ 0 does Write 1 5 (170 ∷ []) gets Fault Below
    ∷ 0 does Read 1 gets Fault Below
    ∷ 0 does Bind 1 5 gets Fault Below
    ∷ 0 does Flush 1 RW gets Fault Below
    ∷ 0 does OpenMinor eth 0 gets Fault Below
    ∷ 0 does Dup 1 gets Fd 3 0
    ∷ 0 does Close 1 gets Done []
    ∷ 0 does Unlink 0 (which.Id 1) gets Done []
    ∷ 0 does Write 3 5 (170 ∷ []) gets Took 1
    ∷ []

abbrev pub end : ConfigView
end = record (no_lines 2 2) {
  fds = fd_of 0 0 ip 0 ∷ fd_of 0 2 ip 1 ∷ fd_of 0 3 eth 0 ∷ [];
  msgs = message_at eth 0 side.Write 1 5 (170 ∷ []) ∷ [];
}

pub is_legal : IsLegal ip_over_eth history
is_legal = legal ip_over_eth history refl

pub ends_so : view ip_over_eth (after ip_over_eth history) ≡ end
ends_so = refl
