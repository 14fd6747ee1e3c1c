-- The changes of each entry of two histories, and those between two views: each group of lines, with lines that are
-- gone, lines that are new, and messages that moved.
use Rattle.std.specs.Prelude.{◌≡◌, ℕ, List, [], ◌∷◌, ◌++◌, refl}
use Rattle.smx_types.specs.declared.command.Which.TheVariants as which
use Rattle.smx_types.specs.declared.driver.DriverSpec.{DriverSpec}
use Rattle.smx_types.specs.declared.stream.Side.TheVariants as side
use Rattle.smx_types.specs.declared.view.MessageLine.{MessageLine}
use Rattle.smx_model.specs.Changes.{Change, changes}
use Rattle.smx_model.specs.Changes as change
use Rattle.smx_model.specs.Configuration.{Configuration, empty}
use Rattle.smx_model.specs.Histories.{after_from}
use Rattle.smx_model.specs.Worked.Common.{OpenClone, Close, CloseAll, Link, Plink, Unlink, Bind, Route, Write, Inject}
use Rattle.smx_model.specs.Worked.Common.{Transmit, Hangup, Fd, Id, Took, Got, Done, Fault, Full, Entry, ConfigView}
use Rattle.smx_model.specs.Worked.Common.{IsLegal, view, legal, ◌does◌gets◌, ip, eth, ip_over_eth, fd_of, link_of}
use Rattle.smx_model.specs.Worked.Common.{bind_of, route_of, message_at, full_at, hung_of, no_lines, Ordinary}
use Rattle.smx_model.specs.Worked.Common.{Persistent, opened_ip_eth_eth}

-- the changes of each entry, from this configuration on
abbrev pub changes_from : List DriverSpec → Configuration → List Entry → List (List Change)
changes_from drivers c [] = []
changes_from drivers c (e ∷ es) =
    let d : Configuration = after_from drivers c (e ∷ []) in
    changes (view drivers c) (view drivers d) ∷ changes_from drivers d es

-- the changes of each entry of a history
abbrev pub changes_of : List DriverSpec → List Entry → List (List Change)
changes_of drivers history = changes_from drivers empty history

-- four bytes, the last of which is this one
abbrev pub four : ℕ → List ℕ
four n = 0 ∷ 0 ∷ 0 ∷ n ∷ []

-- a message for address 5, and one for address 9
abbrev pub down : List ℕ → ℕ → MessageLine
down driver n = message_at driver 0 side.Write n 5 (four n)

abbrev pub up : List ℕ → MessageLine
up driver = message_at driver 0 side.Read 5 9 (171 ∷ [])

-- messages wait at two full queues, move on together, and go with the end of everything
abbrev pub history : List Entry
history = 0 does OpenClone ip gets Fd 0 0
    ∷ 1 does OpenClone eth gets Fd 0 0
    ∷ 1 does OpenClone ip gets Fd 1 1
    ∷ 1 does Link 1 0 gets Id 1
    ∷ 1 does Route 1 5 1 gets Done []
    ∷ 0 does Write 0 5 (four 1) gets Took 1
    ∷ 0 does Write 0 5 (four 2) gets Took 2
    ∷ 0 does Write 0 5 (four 3) gets Took 3
    ∷ 0 does Write 0 5 (four 4) gets Took 4
    ∷ 0 does Write 0 5 (four 5) gets Fault Full
    ∷ 0 does Transmit eth 0 gets Got 1 5 (four 1)
    ∷ 0 does Transmit eth 0 gets Got 2 5 (four 2)
    ∷ 0 does Inject eth 0 9 (171 ∷ []) gets Took 5
    ∷ 0 does Bind 0 9 gets Done []
    ∷ 1 does Close 1 gets Done []
    ∷ 0 does CloseAll gets Done (5 ∷ [])
    ∷ []

pub is_legal : IsLegal ip_over_eth history
is_legal = legal ip_over_eth history refl

abbrev pub history_changes : List (List Change)
history_changes = (change.New (change.Fd (fd_of 0 0 ip 0)) ∷ [])
    ∷ (change.New (change.Fd (fd_of 1 0 eth 0)) ∷ [])
    ∷ (change.New (change.Fd (fd_of 1 1 ip 1)) ∷ [])
    ∷ (change.New (change.Link (link_of 1 ip 1 eth 0 Ordinary)) ∷ [])
    ∷ (change.New (change.Route (route_of ip 5 1)) ∷ [])
    ∷ (change.New (change.Msg (down eth 1)) ∷ [])
    ∷ (change.New (change.Msg (down eth 2)) ∷ change.New (change.Full (full_at eth 0 side.Write)) ∷ [])
    ∷ (change.New (change.Msg (down ip 3)) ∷ [])
    ∷ (change.New (change.Msg (down ip 4)) ∷ change.New (change.Full (full_at ip 0 side.Write)) ∷ [])
    ∷ []
    ∷ (change.Gone (change.Msg (down eth 1)) ∷ [])
    ∷ (
    change.Gone (change.Msg (down eth 2))
    ∷ change.Moved (down ip 3) (down eth 3)
    ∷ change.Moved (down ip 4) (down eth 4)
    ∷ change.Gone (change.Full (full_at ip 0 side.Write))
    ∷ []
    )
    ∷ (change.New (change.Msg (up eth)) ∷ [])
    ∷ (change.New (change.Bind (bind_of ip 9 0)) ∷ change.Moved (up eth) (up ip) ∷ [])
    ∷ (
    change.Gone (change.Fd (fd_of 1 1 ip 1))
    ∷ change.Gone (change.Link (link_of 1 ip 1 eth 0 Ordinary))
    ∷ change.Gone (change.Route (route_of ip 5 1))
    ∷ []
    )
    ∷ (
    change.Gone (change.Fd (fd_of 0 0 ip 0))
    ∷ change.Gone (change.Bind (bind_of ip 9 0))
    ∷ change.Gone (change.Msg (up ip))
    ∷ []
    )
    ∷ []

pub changes_so : changes_of ip_over_eth history ≡ history_changes
changes_so = refl

-- a route is replaced; a device hangs up; an unlinking empties a queue
abbrev pub hangup_history : List Entry
hangup_history = opened_ip_eth_eth
    ++ 0 does Plink 0 1 gets Id 1
    ∷ 0 does Link 0 2 gets Id 2
    ∷ 0 does Route 0 5 1 gets Done []
    ∷ 0 does Route 0 5 2 gets Done []
    ∷ 0 does Inject eth 1 9 (171 ∷ []) gets Took 1
    ∷ 0 does Hangup eth 1 gets Done []
    ∷ 0 does Hangup eth 1 gets Done []
    ∷ 0 does Unlink 0 (which.Id 2) gets Done (1 ∷ [])
    ∷ 0 does Close 2 gets Done []
    ∷ []

pub is_legal_with_hangup : IsLegal ip_over_eth hangup_history
is_legal_with_hangup = legal ip_over_eth hangup_history refl

abbrev pub hangup_changes : List (List Change)
hangup_changes = (change.New (change.Fd (fd_of 0 0 ip 0)) ∷ [])
    ∷ (change.New (change.Fd (fd_of 0 1 eth 0)) ∷ [])
    ∷ (change.New (change.Fd (fd_of 0 2 eth 1)) ∷ [])
    ∷ (change.New (change.Link (link_of 1 ip 0 eth 0 Persistent)) ∷ [])
    ∷ (change.New (change.Link (link_of 2 ip 0 eth 1 Ordinary)) ∷ [])
    ∷ (change.New (change.Route (route_of ip 5 1)) ∷ [])
    ∷ (change.Gone (change.Route (route_of ip 5 1)) ∷ change.New (change.Route (route_of ip 5 2)) ∷ [])
    ∷ (change.New (change.Msg (message_at eth 1 side.Read 1 9 (171 ∷ []))) ∷ [])
    ∷ (change.New (change.Hung (hung_of eth 1)) ∷ [])
    ∷ []
    ∷ (
    change.Gone (change.Link (link_of 2 ip 0 eth 1 Ordinary))
    ∷ change.Gone (change.Route (route_of ip 5 2))
    ∷ change.Gone (change.Msg (message_at eth 1 side.Read 1 9 (171 ∷ [])))
    ∷ []
    )
    ∷ (change.Gone (change.Fd (fd_of 0 2 eth 1)) ∷ change.Gone (change.Hung (hung_of eth 1)) ∷ [])
    ∷ []

pub changes_so_with_hangup : changes_of ip_over_eth hangup_history ≡ hangup_changes
changes_so_with_hangup = refl

-- two views: of each group some lines stay, some are gone and some are new; of two messages one moved, and the other
-- has the same serial with other bytes
abbrev pub before : ConfigView
before = record (no_lines 3 5) {
  fds = fd_of 0 0 ip 0 ∷ fd_of 0 1 eth 0 ∷ fd_of 0 2 eth 1 ∷ [];
  links = link_of 1 ip 0 eth 0 Ordinary ∷ link_of 2 ip 0 eth 1 Persistent ∷ [];
  binds = bind_of ip 8 0 ∷ bind_of ip 9 0 ∷ [];
  routes = route_of ip 5 1 ∷ route_of ip 6 1 ∷ [];
  msgs = down ip 1 ∷ down ip 2 ∷ down ip 3 ∷ down eth 4 ∷ [];
  fulls = full_at ip 0 side.Read ∷ full_at eth 0 side.Write ∷ [];
  hungs = hung_of eth 0 ∷ hung_of eth 1 ∷ [];
}

abbrev pub after : ConfigView
after = record (no_lines 4 7) {
  fds = fd_of 0 0 ip 0 ∷ fd_of 0 1 eth 1 ∷ fd_of 1 0 ip 0 ∷ [];
  links = link_of 1 ip 0 eth 0 Persistent ∷ link_of 3 ip 0 eth 1 Persistent ∷ [];
  binds = bind_of ip 7 0 ∷ bind_of ip 9 1 ∷ [];
  routes = route_of ip 5 2 ∷ route_of ip 6 1 ∷ route_of ip 7 1 ∷ [];
  msgs = down ip 6 ∷ down ip 3 ∷ down eth 2 ∷ message_at eth 0 side.Write 4 5 [] ∷ [];
  fulls = full_at ip 0 side.Write ∷ full_at eth 0 side.Write ∷ [];
  hungs = hung_of ip 0 ∷ hung_of eth 1 ∷ [];
}

abbrev pub all_changes : List Change
all_changes = change.Gone (change.Fd (fd_of 0 1 eth 0))
    ∷ change.Gone (change.Fd (fd_of 0 2 eth 1))
    ∷ change.New (change.Fd (fd_of 0 1 eth 1))
    ∷ change.New (change.Fd (fd_of 1 0 ip 0))
    ∷ change.Gone (change.Link (link_of 1 ip 0 eth 0 Ordinary))
    ∷ change.Gone (change.Link (link_of 2 ip 0 eth 1 Persistent))
    ∷ change.New (change.Link (link_of 1 ip 0 eth 0 Persistent))
    ∷ change.New (change.Link (link_of 3 ip 0 eth 1 Persistent))
    ∷ change.Gone (change.Bind (bind_of ip 8 0))
    ∷ change.Gone (change.Bind (bind_of ip 9 0))
    ∷ change.New (change.Bind (bind_of ip 7 0))
    ∷ change.New (change.Bind (bind_of ip 9 1))
    ∷ change.Gone (change.Route (route_of ip 5 1))
    ∷ change.New (change.Route (route_of ip 5 2))
    ∷ change.New (change.Route (route_of ip 7 1))
    ∷ change.Gone (change.Msg (down ip 1))
    ∷ change.New (change.Msg (down ip 6))
    ∷ change.Moved (down ip 2) (down eth 2)
    ∷ change.Moved (down eth 4) (message_at eth 0 side.Write 4 5 [])
    ∷ change.Gone (change.Full (full_at ip 0 side.Read))
    ∷ change.New (change.Full (full_at ip 0 side.Write))
    ∷ change.Gone (change.Hung (hung_of eth 0))
    ∷ change.New (change.Hung (hung_of ip 0))
    ∷ []

pub differ_so : changes before after ≡ all_changes
differ_so = refl
