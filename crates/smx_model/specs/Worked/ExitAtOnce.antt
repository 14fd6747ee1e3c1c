-- Exit closes all descriptors at once, so that no message moves in between.
use Rattle.std.specs.Prelude.{◌≡◌, List, [], ◌∷◌, ◌++◌, refl}
use Rattle.smx_types.specs.declared.stream.Side.TheVariants as side
use Rattle.smx_model.specs.Worked.Common.{CloseAll, Link, Plink, Bind, Inject, Transmit, Id, Took, Done, Fault, Empty}
use Rattle.smx_model.specs.Worked.Common.{Persistent, Entry, ConfigView, IsLegal, after, view, legal, ◌does◌gets◌, eth}
use Rattle.smx_model.specs.Worked.Common.{b, no_lines, link_of, message_at, a_b_and_eth, opened_a_b_eth}

abbrev pub history : List Entry
history = opened_a_b_eth
    ++ 0 does Plink 1 2 gets Id 1
    ∷ 0 does Bind 1 9 gets Done []
    ∷ 0 does Link 0 1 gets Id 2
    ∷ 0 does Inject eth 0 9 (1 ∷ 2 ∷ 3 ∷ 4 ∷ 5 ∷ 6 ∷ 7 ∷ 8 ∷ []) gets Took 1
    ∷ 0 does Inject eth 0 9 (170 ∷ []) gets Took 2
    ∷ 0 does CloseAll gets Done (1 ∷ [])
    ∷ 0 does Transmit eth 0 gets Fault Empty
    ∷ []

abbrev pub end : ConfigView
end = record (no_lines 3 3) {
  links = link_of 1 b 0 eth 0 Persistent ∷ [];
  msgs = message_at eth 0 side.Read 2 9 (170 ∷ []) ∷ [];
}

pub is_legal : IsLegal a_b_and_eth history
is_legal = legal a_b_and_eth history refl

pub ends_so : view a_b_and_eth (after a_b_and_eth history) ≡ end
ends_so = refl
