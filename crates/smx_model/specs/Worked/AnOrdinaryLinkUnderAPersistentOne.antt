-- A persistent link keeps a stream, whose ordinary link keeps the next one.
use Rattle.std.specs.Prelude.{◌≡◌, List, [], ◌∷◌, ◌++◌, refl}
use Rattle.smx_types.specs.declared.command.Which.TheVariants as which
use Rattle.smx_model.specs.Worked.Common.{OpenClone, CloseAll, Link, Plink, Punlink, Transmit, Fd, Id, Done, Fault}
use Rattle.smx_model.specs.Worked.Common.{NoMinor, Empty, Entry, ConfigView, IsLegal, after, view, legal, ◌does◌gets◌}
use Rattle.smx_model.specs.Worked.Common.{eth, top, no_lines, fd_of, top_mid_and_eth, opened_top_mid_eth}

abbrev pub history : List Entry
history = opened_top_mid_eth
    ++ 0 does Link 1 2 gets Id 1
    ∷ 0 does Plink 0 1 gets Id 2
    ∷ 0 does CloseAll gets Done []
    ∷ 0 does Transmit eth 0 gets Fault Empty
    ∷ 0 does OpenClone top gets Fd 0 0
    ∷ 0 does Punlink 0 (which.Id 2) gets Done []
    ∷ 0 does Transmit eth 0 gets Fault NoMinor
    ∷ []

abbrev pub end : ConfigView
end = record (no_lines 3 1) { fds = fd_of 0 0 top 0 ∷ [] }

pub is_legal : IsLegal top_mid_and_eth history
is_legal = legal top_mid_and_eth history refl

pub ends_so : view top_mid_and_eth (after top_mid_and_eth history) ≡ end
ends_so = refl
