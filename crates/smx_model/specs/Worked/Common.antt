-- The parts that the worked histories share: their notation, drivers, and openings.
use Rattle.std.specs.Prelude.{◌≡◌, ℕ, List, [], ◌∷◌, map, codes}
pub use Rattle.smx_types.specs.declared.command.Command.TheVariants.{OpenClone, OpenMinor, Dup, Close, CloseAll, Link}
pub use Rattle.smx_types.specs.declared.command.Command.TheVariants.{Plink, Unlink, Punlink, Bind, Unbind, Route}
pub use Rattle.smx_types.specs.declared.command.Command.TheVariants.{Unroute, Write, Read, Flush, Inject, Transmit}
pub use Rattle.smx_types.specs.declared.command.Command.TheVariants.{Hangup}
pub use Rattle.smx_types.specs.declared.command.Entry.{Entry}
pub use Rattle.smx_types.specs.declared.command.Sides.TheVariants.{R, W, RW}
pub use Rattle.smx_types.specs.declared.driver.DriverSpec.{DriverSpec}
pub use Rattle.smx_types.specs.declared.link.LinkKind.TheVariants.{Ordinary, Persistent}
pub use Rattle.smx_types.specs.declared.reply.Fault.TheVariants.{BadDescriptor, Below, NotMux, NoDriver, NoMinor}
pub use Rattle.smx_types.specs.declared.reply.Fault.TheVariants.{TooManyDescriptors, AlreadyBelow, Cycle, TooManyLinks}
pub use Rattle.smx_types.specs.declared.reply.Fault.TheVariants.{NoLink, AddressInUse, Unbound, Unrouted, Full, Empty}
pub use Rattle.smx_types.specs.declared.reply.Fault.TheVariants.{BadSize, HungUp}
pub use Rattle.smx_types.specs.declared.reply.Reply.TheVariants.{Fd, Id, Took, Got, Done, Eof, Fault}
pub use Rattle.smx_types.specs.declared.view.ConfigView.{ConfigView}
pub use Rattle.smx_types.specs.declared.view.MessageLine.{MessageLine}
pub use Rattle.smx_model.specs.Histories.{IsLegal, IsLegalFrom, after}
pub use Rattle.smx_model.specs.Views.{view}
use Rattle.smx_types.specs.declared.command.Command.{Command}
use Rattle.smx_types.specs.declared.driver.DriverKind.TheVariants as driver
use Rattle.smx_types.specs.declared.link.LinkKind.{LinkKind}
use Rattle.smx_types.specs.declared.reply.Reply.{Reply}
use Rattle.smx_types.specs.declared.stream.Side.{Side}
use Rattle.smx_types.specs.declared.view.BindingLine.{BindingLine}
use Rattle.smx_types.specs.declared.view.DescriptorLine.{DescriptorLine}
use Rattle.smx_types.specs.declared.view.FullLine.{FullLine}
use Rattle.smx_types.specs.declared.view.HungLine.{HungLine}
use Rattle.smx_types.specs.declared.view.LinkLine.{LinkLine}
use Rattle.smx_types.specs.declared.view.RouteLine.{RouteLine}
use Rattle.smx_model.specs.Commands.{step}
use Rattle.smx_model.specs.Configuration.{Configuration, empty}

-- a command of a process, and its reply
infix 70 ◌does◌gets◌
abbrev pub ◌does◌gets◌ : ℕ → Command → Reply → Entry
process does command gets reply = record { process = process; command = command; reply = reply }

-- the replies that the commands get, from this configuration on
abbrev pub replies_from : List DriverSpec → Configuration → List Entry → List Reply
replies_from drivers c [] = []
replies_from drivers c (e ∷ es) =
    (step drivers c e.process e.command).1 ∷ replies_from drivers (step drivers c e.process e.command).0 es

-- a history whose entries have these replies is legal
pub legal_from : (drivers : List DriverSpec) (c : Configuration) (es : List Entry)
    → replies_from drivers c es ≡ map (λ e. e.reply) es → IsLegalFrom drivers c es
legal_from drivers c [] same = tt
legal_from drivers c (e ∷ es) same = (cc, legal_from drivers (step drivers c e.process e.command).0 es cc)

pub legal : (drivers : List DriverSpec) (es : List Entry)
    → replies_from drivers empty es ≡ map (λ e. e.reply) es → IsLegal drivers es
legal drivers es same = legal_from drivers empty es same

-- names of drivers
abbrev pub ip : List ℕ
ip = codes "ip"

abbrev pub eth : List ℕ
eth = codes "eth"

abbrev pub tr : List ℕ
tr = codes "tr"

abbrev pub a : List ℕ
a = codes "a"

abbrev pub b : List ℕ
b = codes "b"

abbrev pub c : List ℕ
c = codes "c"

abbrev pub top : List ℕ
top = codes "top"

abbrev pub mid : List ℕ
mid = codes "mid"

-- a multiplexer and a leaf: a queue becomes full at 8 bytes and stops at 3, and a message has at most 16
abbrev pub mux : List ℕ → ℕ → DriverSpec
mux name minors = record { name = name; kind = driver.Mux; minors = minors; high = 8; low = 3; max = 16 }

abbrev pub leaf : List ℕ → ℕ → DriverSpec
leaf name minors = record { name = name; kind = driver.Leaf; minors = minors; high = 8; low = 3; max = 16 }

-- the drivers of most histories
abbrev pub ip_over_eth : List DriverSpec
ip_over_eth = mux ip 4 ∷ leaf eth 2 ∷ []

abbrev pub a_b_and_eth : List DriverSpec
a_b_and_eth = mux a 2 ∷ mux b 2 ∷ leaf eth 2 ∷ []

abbrev pub top_mid_and_eth : List DriverSpec
top_mid_and_eth = mux top 2 ∷ mux mid 2 ∷ leaf eth 2 ∷ []

abbrev pub few_and_small : List DriverSpec
few_and_small = mux ip 2 ∷ record (leaf eth 1) { high = 4; low = 0; max = 2 } ∷ []

-- lines of a view
abbrev pub fd_of : ℕ → ℕ → List ℕ → ℕ → DescriptorLine
fd_of process fd driver minor = record { process = process; fd = fd; driver = driver; minor = minor }

abbrev pub link_of : ℕ → List ℕ → ℕ → List ℕ → ℕ → LinkKind → LinkLine
link_of id upper upper_minor lower lower_minor kind = record {
  id = id;
  ctl_driver = upper;
  ctl_minor = upper_minor;
  lower_driver = lower;
  lower_minor = lower_minor;
  kind = kind;
}

abbrev pub bind_of : List ℕ → ℕ → ℕ → BindingLine
bind_of driver addr minor = record { driver = driver; addr = addr; minor = minor }

abbrev pub route_of : List ℕ → ℕ → ℕ → RouteLine
route_of driver addr id = record { driver = driver; addr = addr; id = id }

abbrev pub message_at : List ℕ → ℕ → Side → ℕ → ℕ → List ℕ → MessageLine
message_at driver minor side serial addr bytes = record {
  driver = driver;
  minor = minor;
  side = side;
  message = record { serial = serial; addr = addr; bytes = bytes };
}

abbrev pub full_at : List ℕ → ℕ → Side → FullLine
full_at driver minor side = record { driver = driver; minor = minor; side = side }

abbrev pub hung_of : List ℕ → ℕ → HungLine
hung_of driver minor = record { driver = driver; minor = minor }

-- a view with the next id, the next serial, and no lines
abbrev pub no_lines : ℕ → ℕ → ConfigView
no_lines next_id next_serial = record {
  next_id = next_id;
  next_serial = next_serial;
  fds = [];
  links = [];
  binds = [];
  routes = [];
  msgs = [];
  fulls = [];
  hungs = [];
}

-- process 0 opens streams of these drivers, one after the other; and the descriptors of these streams
abbrev pub opened_ip_eth : List Entry
opened_ip_eth = 0 does OpenClone ip gets Fd 0 0
    ∷ 0 does OpenClone eth gets Fd 1 0
    ∷ []

abbrev pub fds_of_ip_eth : List DescriptorLine
fds_of_ip_eth = fd_of 0 0 ip 0 ∷ fd_of 0 1 eth 0 ∷ []

abbrev pub opened_ip_eth_eth : List Entry
opened_ip_eth_eth = 0 does OpenClone ip gets Fd 0 0
    ∷ 0 does OpenClone eth gets Fd 1 0
    ∷ 0 does OpenClone eth gets Fd 2 1
    ∷ []

abbrev pub fds_of_ip_eth_eth : List DescriptorLine
fds_of_ip_eth_eth = fd_of 0 0 ip 0 ∷ fd_of 0 1 eth 0 ∷ fd_of 0 2 eth 1 ∷ []

abbrev pub opened_ip_ip_eth : List Entry
opened_ip_ip_eth = 0 does OpenClone ip gets Fd 0 0
    ∷ 0 does OpenClone ip gets Fd 1 1
    ∷ 0 does OpenClone eth gets Fd 2 0
    ∷ []

abbrev pub fds_of_ip_ip_eth : List DescriptorLine
fds_of_ip_ip_eth = fd_of 0 0 ip 0 ∷ fd_of 0 1 ip 1 ∷ fd_of 0 2 eth 0 ∷ []

abbrev pub opened_ip_ip_eth_eth : List Entry
opened_ip_ip_eth_eth = 0 does OpenClone ip gets Fd 0 0
    ∷ 0 does OpenClone ip gets Fd 1 1
    ∷ 0 does OpenClone eth gets Fd 2 0
    ∷ 0 does OpenClone eth gets Fd 3 1
    ∷ []

abbrev pub fds_of_ip_ip_eth_eth : List DescriptorLine
fds_of_ip_ip_eth_eth = fd_of 0 0 ip 0 ∷ fd_of 0 1 ip 1 ∷ fd_of 0 2 eth 0 ∷ fd_of 0 3 eth 1 ∷ []

abbrev pub opened_a_b_eth : List Entry
opened_a_b_eth = 0 does OpenClone a gets Fd 0 0
    ∷ 0 does OpenClone b gets Fd 1 0
    ∷ 0 does OpenClone eth gets Fd 2 0
    ∷ []

abbrev pub opened_top_mid_eth : List Entry
opened_top_mid_eth = 0 does OpenClone top gets Fd 0 0
    ∷ 0 does OpenClone mid gets Fd 1 0
    ∷ 0 does OpenClone eth gets Fd 2 0
    ∷ []
