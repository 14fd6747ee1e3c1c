-- Messages go down and up through two levels of multiplexers, and all links are removed at their last close.
use Rattle.std.specs.Prelude.{◌≡◌, List, [], ◌∷◌, ◌++◌, refl}
use Rattle.smx_model.specs.Worked.Common.{Close, Link, Bind, Route, Write, Read, Inject, Transmit, Id, Took, Got, Done}
use Rattle.smx_model.specs.Worked.Common.{Fault, Below, Entry, ConfigView, IsLegal, after, view, legal, ◌does◌gets◌}
use Rattle.smx_model.specs.Worked.Common.{eth, no_lines, fd_of, top_mid_and_eth, opened_top_mid_eth}

abbrev pub history : List Entry
history = opened_top_mid_eth
    ++ 0 does Link 1 2 gets Id 1
    ∷ 0 does Route 1 5 1 gets Done []
    ∷ 0 does Bind 1 9 gets Done []
    ∷ 0 does Link 0 1 gets Id 2
    ∷ 0 does Route 0 5 2 gets Done []
    ∷ 0 does Bind 0 9 gets Done []
    ∷ 0 does Route 1 6 1 gets Fault Below
    ∷ 0 does Write 0 5 (170 ∷ []) gets Took 1
    ∷ 0 does Inject eth 0 9 (187 ∷ []) gets Took 2
    ∷ 0 does Transmit eth 0 gets Got 1 5 (170 ∷ [])
    ∷ 0 does Read 0 gets Got 2 9 (187 ∷ [])
    ∷ 0 does Close 0 gets Done []
    ∷ 0 does Close 1 gets Done []
    ∷ []

abbrev pub end : ConfigView
end = record (no_lines 3 3) { fds = fd_of 0 2 eth 0 ∷ [] }

pub is_legal : IsLegal top_mid_and_eth history
is_legal = legal top_mid_and_eth history refl

pub ends_so : view top_mid_and_eth (after top_mid_and_eth history) ≡ end
ends_so = refl
