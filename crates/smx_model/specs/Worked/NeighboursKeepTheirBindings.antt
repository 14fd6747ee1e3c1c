-- Bindings are shown by address, serve one driver and one address each, and are removed one at a time.
use Rattle.std.specs.Prelude.{◌≡◌, List, [], ◌∷◌, refl}
use Rattle.smx_types.specs.declared.stream.Side.TheVariants as side
use Rattle.smx_model.specs.Worked.Common.{OpenClone, Plink, Bind, Unbind, Inject, Fd, Id, Took, Done, Fault, Unbound}
use Rattle.smx_model.specs.Worked.Common.{Persistent, Entry, ConfigView, DriverSpec, IsLegal, after, view, legal}
use Rattle.smx_model.specs.Worked.Common.{◌does◌gets◌, eth, a, b, mux, leaf, no_lines, fd_of, link_of, bind_of}
use Rattle.smx_model.specs.Worked.Common.{message_at}

abbrev pub drivers : List DriverSpec
drivers = mux a 2 ∷ mux b 2 ∷ leaf eth 3 ∷ []

abbrev pub history : List Entry
history = 0 does OpenClone a gets Fd 0 0
    ∷ 0 does OpenClone a gets Fd 1 1
    ∷ 0 does OpenClone b gets Fd 2 0
    ∷ 0 does OpenClone b gets Fd 3 1
    ∷ 0 does OpenClone eth gets Fd 4 0
    ∷ 0 does OpenClone eth gets Fd 5 1
    ∷ 0 does OpenClone eth gets Fd 6 2
    ∷ 0 does Plink 0 4 gets Id 1
    ∷ 0 does Plink 0 5 gets Id 2
    ∷ 0 does Plink 2 6 gets Id 3
    ∷ 0 does Bind 0 9 gets Done []
    ∷ 0 does Bind 1 5 gets Done []
    ∷ 0 does Bind 2 5 gets Done []
    ∷ 0 does Bind 3 6 gets Done []
    ∷ 0 does Inject eth 0 7 (1 ∷ []) gets Took 1
    ∷ 0 does Inject eth 1 6 (2 ∷ []) gets Took 2
    ∷ 0 does Inject eth 2 9 (3 ∷ []) gets Took 3
    ∷ 0 does Unbind 2 gets Done []
    ∷ 0 does Bind 2 8 gets Done []
    ∷ 0 does Unbind 1 gets Done []
    ∷ 0 does Bind 1 4 gets Done []
    ∷ 0 does Unbind 0 gets Done []
    ∷ 0 does Unbind 0 gets Fault Unbound
    ∷ 0 does Unbind 1 gets Done []
    ∷ 0 does Bind 0 9 gets Done []
    ∷ 0 does Bind 1 4 gets Done []
    ∷ []

abbrev pub end : ConfigView
end = record (no_lines 4 4) {
  fds =
      fd_of 0 0 a 0
      ∷ fd_of 0 1 a 1
      ∷ fd_of 0 2 b 0
      ∷ fd_of 0 3 b 1
      ∷ fd_of 0 4 eth 0
      ∷ fd_of 0 5 eth 1
      ∷ fd_of 0 6 eth 2
      ∷ [];
  links =
      link_of 1 a 0 eth 0 Persistent
      ∷ link_of 2 a 0 eth 1 Persistent
      ∷ link_of 3 b 0 eth 2 Persistent
      ∷ [];
  binds = bind_of a 4 1 ∷ bind_of a 9 0 ∷ bind_of b 6 1 ∷ bind_of b 8 0 ∷ [];
  msgs =
      message_at eth 0 side.Read 1 7 (1 ∷ [])
      ∷ message_at eth 1 side.Read 2 6 (2 ∷ [])
      ∷ message_at eth 2 side.Read 3 9 (3 ∷ [])
      ∷ [];
}

pub is_legal : IsLegal drivers history
is_legal = legal drivers history refl

pub ends_so : view drivers (after drivers history) ≡ end
ends_so = refl
