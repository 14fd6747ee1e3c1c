-- Hung-up streams are shown by driver and minor, each once; the unlinking commands are refused on one as on any leaf.
use Rattle.std.specs.Prelude.{◌≡◌, List, [], ◌∷◌, refl}
use Rattle.smx_types.specs.declared.command.Which.TheVariants as which
use Rattle.smx_model.specs.Worked.Common.{OpenClone, Dup, Close, Plink, Unlink, Bind, Route, Flush, Read, Hangup, Fd}
use Rattle.smx_model.specs.Worked.Common.{Done, Eof, Fault, NotMux, HungUp, RW, Entry, ConfigView, DriverSpec, IsLegal}
use Rattle.smx_model.specs.Worked.Common.{after, view, legal, ◌does◌gets◌, ip, eth, tr, leaf, mux, no_lines, fd_of}
use Rattle.smx_model.specs.Worked.Common.{hung_of}

abbrev pub drivers : List DriverSpec
drivers = leaf tr 2 ∷ mux ip 2 ∷ leaf eth 3 ∷ []

abbrev pub history : List Entry
history = 0 does OpenClone eth gets Fd 0 0
    ∷ 0 does OpenClone eth gets Fd 1 1
    ∷ 0 does OpenClone eth gets Fd 2 2
    ∷ 0 does OpenClone tr gets Fd 3 0
    ∷ 0 does OpenClone tr gets Fd 4 1
    ∷ 1 does OpenClone ip gets Fd 0 0
    ∷ 0 does Hangup eth 1 gets Done []
    ∷ 0 does Hangup tr 1 gets Done []
    ∷ 0 does Hangup eth 2 gets Done []
    ∷ 0 does Hangup eth 0 gets Done []
    ∷ 0 does Hangup eth 1 gets Done []
    ∷ 0 does Hangup tr 0 gets Done []
    ∷ 0 does Dup 2 gets Fd 5 2
    ∷ 0 does Close 2 gets Done []
    ∷ 0 does Close 3 gets Done []
    ∷ 0 does Read 4 gets Eof
    ∷ 0 does Flush 5 RW gets Fault HungUp
    ∷ 0 does Plink 5 0 gets Fault HungUp
    ∷ 0 does Unlink 5 which.All gets Fault NotMux
    ∷ 0 does Bind 5 9 gets Fault NotMux
    ∷ 0 does Route 5 9 1 gets Fault NotMux
    ∷ []

abbrev pub end : ConfigView
end = record (no_lines 1 1) {
  fds =
      fd_of 0 0 eth 0
      ∷ fd_of 0 1 eth 1
      ∷ fd_of 0 4 tr 1
      ∷ fd_of 0 5 eth 2
      ∷ fd_of 1 0 ip 0
      ∷ [];
  hungs = hung_of tr 1 ∷ hung_of eth 0 ∷ hung_of eth 1 ∷ hung_of eth 2 ∷ [];
}

pub is_legal : IsLegal drivers history
is_legal = legal drivers history refl

pub ends_so : view drivers (after drivers history) ≡ end
ends_so = refl
