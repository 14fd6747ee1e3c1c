-- A flush empties the read side, the write side or both, and no other stream.
use Rattle.std.specs.Prelude.{◌≡◌, List, [], ◌∷◌, refl}
use Rattle.smx_model.specs.Worked.Common.{OpenClone, Write, Read, Flush, Inject, Fd, Took, Got, Done, R, W, RW, Entry}
use Rattle.smx_model.specs.Worked.Common.{ConfigView, IsLegal, after, view, legal, ◌does◌gets◌, eth, no_lines, fd_of}
use Rattle.smx_model.specs.Worked.Common.{ip_over_eth}

abbrev pub history : List Entry
history = 0 does OpenClone eth gets Fd 0 0
    ∷ 0 does OpenClone eth gets Fd 1 1
    ∷ 0 does Write 0 5 (170 ∷ []) gets Took 1
    ∷ 0 does Inject eth 0 9 (187 ∷ []) gets Took 2
    ∷ 0 does Inject eth 1 9 (204 ∷ []) gets Took 3
    ∷ 0 does Flush 0 R gets Done (2 ∷ [])
    ∷ 0 does Inject eth 0 9 (221 ∷ []) gets Took 4
    ∷ 0 does Flush 0 W gets Done (1 ∷ [])
    ∷ 0 does Write 0 5 (238 ∷ []) gets Took 5
    ∷ 0 does Flush 0 RW gets Done (4 ∷ 5 ∷ [])
    ∷ 0 does Read 1 gets Got 3 9 (204 ∷ [])
    ∷ []

abbrev pub end : ConfigView
end = record (no_lines 1 6) { fds = fd_of 0 0 eth 0 ∷ fd_of 0 1 eth 1 ∷ [] }

pub is_legal : IsLegal ip_over_eth history
is_legal = legal ip_over_eth history refl

pub ends_so : view ip_over_eth (after ip_over_eth history) ≡ end
ends_so = refl
