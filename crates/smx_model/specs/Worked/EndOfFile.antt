-- After a hangup, messages that came in before it are read, and then end of file. A second hangup changes nothing,
-- and a hung-up stream can be linked below a driver.
use Rattle.std.specs.Prelude.{◌≡◌, List, [], ◌∷◌, refl}
use Rattle.smx_model.specs.Worked.Common.{OpenClone, Plink, Read, Inject, Hangup, Fd, Id, Took, Got, Done, Eof, Fault}
use Rattle.smx_model.specs.Worked.Common.{Below, Persistent, Entry, ConfigView, IsLegal, after, view, legal}
use Rattle.smx_model.specs.Worked.Common.{◌does◌gets◌, ip, eth, no_lines, fd_of, link_of, hung_of, ip_over_eth}

abbrev pub history : List Entry
history = 0 does OpenClone eth gets Fd 0 0
    ∷ 0 does Inject eth 0 9 (170 ∷ []) gets Took 1
    ∷ 0 does Hangup eth 0 gets Done []
    ∷ 0 does Hangup eth 0 gets Done []
    ∷ 0 does Read 0 gets Got 1 9 (170 ∷ [])
    ∷ 0 does Read 0 gets Eof
    ∷ 0 does OpenClone ip gets Fd 1 0
    ∷ 0 does Plink 1 0 gets Id 1
    ∷ 0 does Read 0 gets Fault Below
    ∷ []

abbrev pub end : ConfigView
end = record (no_lines 2 2) {
  fds = fd_of 0 0 eth 0 ∷ fd_of 0 1 ip 0 ∷ [];
  links = link_of 1 ip 0 eth 0 Persistent ∷ [];
  hungs = hung_of eth 0 ∷ [];
}

pub is_legal : IsLegal ip_over_eth history
is_legal = legal ip_over_eth history refl

pub ends_so : view ip_over_eth (after ip_over_eth history) ≡ end
ends_so = refl
