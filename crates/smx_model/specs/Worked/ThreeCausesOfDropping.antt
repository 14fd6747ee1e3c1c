-- Unlinking, the end of a link with its controlling stream, and the last close: each names the messages that it drops.
use Rattle.std.specs.Prelude.{◌≡◌, List, [], ◌∷◌, ◌++◌, refl}
use Rattle.smx_types.specs.declared.command.Which.TheVariants as which
use Rattle.smx_model.specs.Worked.Common.{Close, Link, Unlink, Route, Write, Inject, Id, Took, Done, Entry, ConfigView}
use Rattle.smx_model.specs.Worked.Common.{IsLegal, after, view, legal, ◌does◌gets◌, eth, no_lines, ip_over_eth}
use Rattle.smx_model.specs.Worked.Common.{opened_ip_eth}

abbrev pub history : List Entry
history = opened_ip_eth
    ++ 0 does Link 0 1 gets Id 1
    ∷ 0 does Route 0 5 1 gets Done []
    ∷ 0 does Write 0 5 (170 ∷ []) gets Took 1
    ∷ 0 does Inject eth 0 9 (187 ∷ []) gets Took 2
    ∷ 0 does Unlink 0 (which.Id 1) gets Done (2 ∷ [])
    ∷ 0 does Write 0 5 (204 ∷ []) gets Took 3
    ∷ 0 does Close 1 gets Done (1 ∷ [])
    ∷ 0 does Close 0 gets Done (3 ∷ [])
    ∷ []

abbrev pub end : ConfigView
end = no_lines 2 4

pub is_legal : IsLegal ip_over_eth history
is_legal = legal ip_over_eth history refl

pub ends_so : view ip_over_eth (after ip_over_eth history) ≡ end
ends_so = refl
