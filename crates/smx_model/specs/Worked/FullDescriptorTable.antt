-- A process has sixteen descriptors, and no more.
use Rattle.std.specs.Prelude.{◌≡◌, List, [], ◌∷◌, refl}
use Rattle.smx_model.specs.Worked.Common.{OpenClone, OpenMinor, Dup, CloseAll, Fd, Done, Fault, BadDescriptor}
use Rattle.smx_model.specs.Worked.Common.{TooManyDescriptors, Entry, ConfigView, IsLegal, after, view, legal}
use Rattle.smx_model.specs.Worked.Common.{◌does◌gets◌, ip, no_lines, ip_over_eth}

abbrev pub history : List Entry
history = 0 does OpenMinor ip 0 gets Fd 0 0
    ∷ 0 does OpenMinor ip 0 gets Fd 1 0
    ∷ 0 does OpenMinor ip 0 gets Fd 2 0
    ∷ 0 does OpenMinor ip 0 gets Fd 3 0
    ∷ 0 does OpenMinor ip 0 gets Fd 4 0
    ∷ 0 does OpenMinor ip 0 gets Fd 5 0
    ∷ 0 does OpenMinor ip 0 gets Fd 6 0
    ∷ 0 does OpenMinor ip 0 gets Fd 7 0
    ∷ 0 does OpenMinor ip 0 gets Fd 8 0
    ∷ 0 does OpenMinor ip 0 gets Fd 9 0
    ∷ 0 does OpenMinor ip 0 gets Fd 10 0
    ∷ 0 does OpenMinor ip 0 gets Fd 11 0
    ∷ 0 does OpenMinor ip 0 gets Fd 12 0
    ∷ 0 does OpenMinor ip 0 gets Fd 13 0
    ∷ 0 does OpenMinor ip 0 gets Fd 14 0
    ∷ 0 does OpenMinor ip 0 gets Fd 15 0
    ∷ 0 does OpenMinor ip 0 gets Fault TooManyDescriptors
    ∷ 0 does OpenClone ip gets Fault TooManyDescriptors
    ∷ 0 does Dup 15 gets Fault TooManyDescriptors
    ∷ 0 does Dup 16 gets Fault BadDescriptor
    ∷ 0 does CloseAll gets Done []
    ∷ []

abbrev pub end : ConfigView
end = no_lines 1 1

pub is_legal : IsLegal ip_over_eth history
is_legal = legal ip_over_eth history refl

pub ends_so : view ip_over_eth (after ip_over_eth history) ≡ end
ends_so = refl
