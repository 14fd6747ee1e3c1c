-- A worked session: a text, the session over it, and its states after its first lines, typed in by hand.
use Rattle.std.specs.Prelude.{◌≡◌, ℕ, List, [], ◌∷◌, Some, None, codes, map, refl}
use Rattle.std.specs.Fmt.{digits}
use Rattle.smx_types.specs.declared.driver.DriverSpec.{DriverSpec}
use Rattle.smx_types.specs.declared.version.Version.TheVariants.{V2}
use Rattle.smx_model.specs.Configuration.{Configuration, empty}
use Rattle.smx_model.specs.Worked.Common.{Done, Fd, Hangup, OpenClone, ◌does◌gets◌}
use Rattle.smx_model.specs.Worked.Common.{eth, leaf}
use Rattle.smx_session.specs.FaultWords.{start_fault_words}
use Rattle.smx_session.specs.Sessions.{State, shown_lines}
use Rattle.smx_session.specs.declared.faults.StartFault.TheVariants as start

-- the table with one driver that has two minors
abbrev pub table : List ℕ
table = codes "programs 2\ndriver eth leaf 2 8 3 16\nend\n"

-- the one driver of the table
abbrev pub drivers : List DriverSpec
drivers = leaf eth 2 ∷ []

-- nothing is open, and no command was performed
abbrev pub begun : State
begun = record { version = V2; drivers = drivers; configuration = empty; last = None }

-- process 3 has minor 0
abbrev pub one_open : Configuration
one_open = record empty { fds = record { process = 3; fd = 0; stream = record { driver = 0; minor = 0 } } ∷ [] }

-- after `3 clone eth`
abbrev pub opened : State
opened = record begun { configuration = one_open; last = Some (3 does OpenClone eth gets Fd 0 0) }

-- after `5 hangup eth 0`, which only version 2 allows
abbrev pub hung : State
hung =
    record begun {
      configuration = record one_open { hungs = record { driver = 0; minor = 0 } ∷ [] };
      last = Some (5 does Hangup eth 0 gets Done []);
    }

-- before a command, only the next id and the next serial are shown; then the descriptor and the hung-up stream too
pub these_lines_are_shown : map shown_lines (begun ∷ opened ∷ hung ∷ []) ≡ codes "config\nnext 1 1\n"
    ∷ codes "config\nnext 1 1\nfd 3 0 eth 0\n" ∷ codes "config\nnext 1 1\nfd 3 0 eth 0\nhung eth 0\n" ∷ []
unfolding digits
these_lines_are_shown = refl

-- the words for out-of-memory, if no session starts
pub start_memory_words : start_fault_words start.NoMemory ≡ codes "no memory"
start_memory_words = refl
