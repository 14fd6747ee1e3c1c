-- Messages without bytes or with too many, and the limits of minors, queues and numbers.
use Rattle.std.specs.Prelude.{◌≡◌, List, [], ◌∷◌, refl}
use Rattle.smx_types.specs.declared.stream.Side.TheVariants as side
use Rattle.smx_model.specs.Worked.Common.{OpenClone, OpenMinor, Write, Read, Flush, Inject, Fd, Took, Got, Done, Fault}
use Rattle.smx_model.specs.Worked.Common.{NoDriver, NoMinor, Full, BadSize, W, Entry, ConfigView, IsLegal, after, view}
use Rattle.smx_model.specs.Worked.Common.{legal, ◌does◌gets◌, eth, tr, no_lines, fd_of, message_at, few_and_small}

abbrev pub history : List Entry
history = 0 does OpenClone eth gets Fd 0 0
    ∷ 0 does Write 0 5 [] gets Fault BadSize
    ∷ 0 does Write 0 5 (170 ∷ 187 ∷ []) gets Took 1
    ∷ 0 does Write 0 5 (170 ∷ 187 ∷ 204 ∷ []) gets Fault BadSize
    ∷ 0 does Inject eth 0 0 [] gets Fault BadSize
    ∷ 0 does Inject eth 0 4294967295 (204 ∷ 221 ∷ []) gets Took 2
    ∷ 0 does Inject eth 0 0 (204 ∷ 221 ∷ 238 ∷ []) gets Fault BadSize
    ∷ 0 does Read 0 gets Got 2 4294967295 (204 ∷ 221 ∷ [])
    ∷ 0 does OpenClone eth gets Fault NoMinor
    ∷ 0 does OpenClone tr gets Fault NoDriver
    ∷ 0 does OpenMinor eth 1 gets Fault NoMinor
    ∷ 0 does Write 0 5 (170 ∷ 187 ∷ []) gets Took 3
    ∷ 0 does Write 0 5 (170 ∷ 187 ∷ []) gets Fault Full
    ∷ 0 does Write 0 5 [] gets Fault BadSize
    ∷ 0 does Flush 0 W gets Done (1 ∷ 3 ∷ [])
    ∷ 0 does Write 0 5 (1 ∷ []) gets Took 4
    ∷ []

abbrev pub end : ConfigView
end = record (no_lines 1 5) {
  fds = fd_of 0 0 eth 0 ∷ [];
  msgs = message_at eth 0 side.Write 4 5 (1 ∷ []) ∷ [];
}

pub is_legal : IsLegal few_and_small history
is_legal = legal few_and_small history refl

pub ends_so : view few_and_small (after few_and_small history) ≡ end
ends_so = refl
