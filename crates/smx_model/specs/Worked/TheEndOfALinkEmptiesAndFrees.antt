-- Removing a link empties the read side below it, which then is not full.
use Rattle.std.specs.Prelude.{◌≡◌, List, [], ◌∷◌, ◌++◌, refl}
use Rattle.smx_types.specs.declared.command.Which.TheVariants as which
use Rattle.smx_model.specs.Worked.Common.{Close, Link, Unlink, Read, Inject, Id, Took, Got, Done, Fault, Full, Entry}
use Rattle.smx_model.specs.Worked.Common.{ConfigView, IsLegal, after, view, legal, ◌does◌gets◌, eth, no_lines, fd_of}
use Rattle.smx_model.specs.Worked.Common.{ip_over_eth, opened_ip_eth}

abbrev pub history : List Entry
history = opened_ip_eth
    ++ 0 does Link 0 1 gets Id 1
    ∷ 0 does Inject eth 0 9 (1 ∷ 2 ∷ 3 ∷ 4 ∷ 5 ∷ 6 ∷ 7 ∷ 8 ∷ []) gets Took 1
    ∷ 0 does Inject eth 0 9 (170 ∷ []) gets Fault Full
    ∷ 0 does Unlink 0 (which.Id 1) gets Done (1 ∷ [])
    ∷ 0 does Inject eth 0 9 (187 ∷ []) gets Took 2
    ∷ 0 does Read 1 gets Got 2 9 (187 ∷ [])
    ∷ 0 does Link 0 1 gets Id 2
    ∷ 0 does Inject eth 0 9 (1 ∷ 2 ∷ 3 ∷ 4 ∷ 5 ∷ 6 ∷ 7 ∷ 8 ∷ []) gets Took 3
    ∷ 0 does Inject eth 0 9 (204 ∷ []) gets Fault Full
    ∷ 0 does Close 0 gets Done (3 ∷ [])
    ∷ 0 does Inject eth 0 9 (221 ∷ []) gets Took 4
    ∷ 0 does Read 1 gets Got 4 9 (221 ∷ [])
    ∷ []

abbrev pub end : ConfigView
end = record (no_lines 3 5) { fds = fd_of 0 1 eth 0 ∷ [] }

pub is_legal : IsLegal ip_over_eth history
is_legal = legal ip_over_eth history refl

pub ends_so : view ip_over_eth (after ip_over_eth history) ≡ end
ends_so = refl
