-- The refusals after a hangup, and their place among the other refusals; a stream that is opened anew is not hung up.
use Rattle.std.specs.Prelude.{◌≡◌, List, [], ◌∷◌, ◌++◌, refl}
use Rattle.smx_types.specs.declared.command.Which.TheVariants as which
use Rattle.smx_types.specs.declared.stream.Side.TheVariants as side
use Rattle.smx_model.specs.Worked.Common.{OpenClone, Close, Link, Unlink, Route, Write, Read, Flush, Inject, Transmit}
use Rattle.smx_model.specs.Worked.Common.{Hangup, Fd, Id, Took, Done, Eof, Fault, BadDescriptor, NoDriver, NoMinor}
use Rattle.smx_model.specs.Worked.Common.{Empty, HungUp, W, Entry, ConfigView, IsLegal, after, view, legal, ◌does◌gets◌}
use Rattle.smx_model.specs.Worked.Common.{ip, eth, no_lines, fds_of_ip_eth, message_at, ip_over_eth, opened_ip_eth}

abbrev pub history : List Entry
history = opened_ip_eth
    ++ 0 does Link 0 1 gets Id 1
    ∷ 0 does Route 0 5 1 gets Done []
    ∷ 0 does Write 0 5 (170 ∷ []) gets Took 1
    ∷ 0 does Hangup eth 0 gets Done []
    ∷ 0 does Write 0 5 (187 ∷ []) gets Took 2
    ∷ 0 does Inject eth 0 9 (204 ∷ []) gets Fault HungUp
    ∷ 0 does Transmit eth 0 gets Fault HungUp
    ∷ 0 does Unlink 0 (which.Id 1) gets Done []
    ∷ 0 does Write 1 5 (221 ∷ []) gets Fault HungUp
    ∷ 0 does Write 1 5 [] gets Fault HungUp
    ∷ 0 does Read 1 gets Eof
    ∷ 0 does Link 1 0 gets Fault HungUp
    ∷ 0 does Link 1 9 gets Fault BadDescriptor
    ∷ 0 does Flush 1 W gets Fault HungUp
    ∷ 0 does Hangup ip 0 gets Fault NoDriver
    ∷ 0 does Hangup eth 1 gets Fault NoMinor
    ∷ 0 does Close 1 gets Done (1 ∷ [])
    ∷ 0 does OpenClone eth gets Fd 1 0
    ∷ 0 does Read 1 gets Fault Empty
    ∷ []

abbrev pub end : ConfigView
end = record (no_lines 2 3) { fds = fds_of_ip_eth; msgs = message_at ip 0 side.Write 2 5 (187 ∷ []) ∷ [] }

pub is_legal : IsLegal ip_over_eth history
is_legal = legal ip_over_eth history refl

pub ends_so : view ip_over_eth (after ip_over_eth history) ≡ end
ends_so = refl
