-- The commands that do not allocate, counted for each kind of command.
use Rattle.std.specs.Prelude.{◌≡◌, List, [], ◌∷◌, filter, refl}
use Rattle.smx_types.specs.declared.command.Command.{Command}
use Rattle.smx_types.specs.declared.command.Which.TheVariants as which
use Rattle.smx_model.specs.Worked.Common.{OpenClone, OpenMinor, Dup, Close, CloseAll, Link, Plink, Unlink, Punlink}
use Rattle.smx_model.specs.Worked.Common.{Bind, Unbind, Route, Unroute, Write, Read, Flush, Inject, Transmit, Hangup}
use Rattle.smx_model.specs.Worked.Common.{RW, ip, eth}
use Rattle.smx_tables.specs.Machine.{takes_no_memory}

-- the commands that open, duplicate and close descriptors, and hang up a stream
abbrev pub of_streams : List Command
of_streams = OpenClone ip ∷ OpenMinor ip 0 ∷ Dup 0 ∷ Close 0 ∷ CloseAll ∷ Hangup eth 0 ∷ []

-- the commands that make and remove links
abbrev pub of_links : List Command
of_links = Link 0 1 ∷ Plink 0 1 ∷ Unlink 0 which.All ∷ Punlink 0 which.All ∷ []

-- the commands that bind streams to addresses and route addresses to links, and undo these
abbrev pub of_addresses : List Command
of_addresses = Bind 0 9 ∷ Unbind 0 ∷ Route 0 5 1 ∷ Unroute 0 5 ∷ []

-- the commands that send, take and flush messages
abbrev pub of_messages : List Command
of_messages = Write 0 5 (1 ∷ []) ∷ Read 0 ∷ Flush 0 RW ∷ Inject eth 0 9 (1 ∷ []) ∷ Transmit eth 0 ∷ []

-- of the commands on streams, only `dup` and `hangup` do not allocate
pub dup_and_hangup_take_none : filter takes_no_memory of_streams ≡ Dup 0 ∷ Hangup eth 0 ∷ []
dup_and_hangup_take_none = refl

-- of the commands on links, each allocates
pub each_on_links_takes_some : filter takes_no_memory of_links ≡ []
each_on_links_takes_some = refl

-- of the commands on addresses, only `unbind` and `unroute` do not allocate
pub unbind_and_unroute_take_none : filter takes_no_memory of_addresses ≡ Unbind 0 ∷ Unroute 0 5 ∷ []
unbind_and_unroute_take_none = refl

-- of the commands on messages, only `read` and `transmit` do not allocate
pub read_and_transmit_take_none : filter takes_no_memory of_messages ≡ Read 0 ∷ Transmit eth 0 ∷ []
read_and_transmit_take_none = refl
