-- The words that spell each value. Each value has one spelling.
use Rattle.std.specs.Prelude.{List, ℕ, [], ◌∷◌, ◌++◌, map, codes}
use Rattle.std.specs.Fmt.{decimal}
use Rattle.smx_types.specs.declared.command.Command.{Command}
use Rattle.smx_types.specs.declared.command.Command.TheVariants as command
use Rattle.smx_types.specs.declared.command.Entry.{Entry}
use Rattle.smx_types.specs.declared.command.Sides.{Sides}
use Rattle.smx_types.specs.declared.command.Sides.TheVariants as sides
use Rattle.smx_types.specs.declared.command.Which.{Which}
use Rattle.smx_types.specs.declared.command.Which.TheVariants as which
use Rattle.smx_types.specs.declared.driver.DriverKind.{DriverKind}
use Rattle.smx_types.specs.declared.driver.DriverKind.TheVariants as kind
use Rattle.smx_types.specs.declared.driver.DriverSpec.{DriverSpec}
use Rattle.smx_types.specs.declared.link.LinkKind.{LinkKind}
use Rattle.smx_types.specs.declared.link.LinkKind.TheVariants as link
use Rattle.smx_types.specs.declared.reply.Fault.{Fault}
use Rattle.smx_types.specs.declared.reply.Fault.TheVariants as fault
use Rattle.smx_types.specs.declared.reply.Reply.{Reply}
use Rattle.smx_types.specs.declared.reply.Reply.TheVariants as reply
use Rattle.smx_types.specs.declared.stream.Side.{Side}
use Rattle.smx_types.specs.declared.stream.Side.TheVariants as side
use Rattle.smx_types.specs.declared.view.BindingLine.{BindingLine}
use Rattle.smx_types.specs.declared.view.DescriptorLine.{DescriptorLine}
use Rattle.smx_types.specs.declared.view.FullLine.{FullLine}
use Rattle.smx_types.specs.declared.view.HungLine.{HungLine}
use Rattle.smx_types.specs.declared.view.LinkLine.{LinkLine}
use Rattle.smx_types.specs.declared.view.MessageLine.{MessageLine}
use Rattle.smx_types.specs.declared.view.RouteLine.{RouteLine}
use Rattle.smx_words.specs.HexWords.{hex_word}
use Rattle.smx_words.specs.Words.{LINE_FEED, line_of}

-- the kind of a driver
abbrev pub kind_word : DriverKind → List ℕ
kind_word kind.Leaf = codes "leaf"
kind_word kind.Mux = codes "mux"

-- an id, or all
abbrev pub which_word : Which → List ℕ
which_word (which.Id id) = decimal id
which_word which.All = codes "all"

-- the sides of a flush
abbrev pub sides_word : Sides → List ℕ
sides_word sides.R = codes "r"
sides_word sides.W = codes "w"
sides_word sides.RW = codes "rw"

-- the side of a stream
abbrev pub side_word : Side → List ℕ
side_word side.Write = codes "w"
side_word side.Read = codes "r"

-- the kind of a link is named like the command that makes it
abbrev pub link_kind_word : LinkKind → List ℕ
link_kind_word link.Ordinary = codes "link"
link_kind_word link.Persistent = codes "plink"

-- a driver: its name and kind, its minors, its high and its low water mark, and its longest message
abbrev pub driver_words : DriverSpec → List (List ℕ)
driver_words d =
    codes "driver" ∷ d.name ∷ kind_word d.kind ∷ decimal d.minors ∷ decimal d.high ∷ decimal
    d.low ∷ decimal d.max ∷ []

-- the words of a command, starting with its name
abbrev pub command_words : Command → List (List ℕ)
command_words (command.OpenClone driver) = codes "clone" ∷ driver ∷ []
command_words (command.OpenMinor driver minor) = codes "open" ∷ driver ∷ decimal minor ∷ []
command_words (command.Dup fd) = codes "dup" ∷ decimal fd ∷ []
command_words (command.Close fd) = codes "close" ∷ decimal fd ∷ []
command_words command.CloseAll = codes "exit" ∷ []
command_words (command.Link fd arg) = codes "link" ∷ decimal fd ∷ decimal arg ∷ []
command_words (command.Plink fd arg) = codes "plink" ∷ decimal fd ∷ decimal arg ∷ []
command_words (command.Unlink fd which) = codes "unlink" ∷ decimal fd ∷ which_word which ∷ []
command_words (command.Punlink fd which) = codes "punlink" ∷ decimal fd ∷ which_word which ∷ []
command_words (command.Bind fd addr) = codes "bind" ∷ decimal fd ∷ decimal addr ∷ []
command_words (command.Unbind fd) = codes "unbind" ∷ decimal fd ∷ []
command_words (command.Route fd addr id) = codes "route" ∷ decimal fd ∷ decimal addr ∷ decimal id ∷ []
command_words (command.Unroute fd addr) = codes "unroute" ∷ decimal fd ∷ decimal addr ∷ []
command_words (command.Write fd addr bytes) = codes "write" ∷ decimal fd ∷ decimal addr ∷ hex_word bytes ∷ []
command_words (command.Read fd) = codes "read" ∷ decimal fd ∷ []
command_words (command.Flush fd sides) = codes "flush" ∷ decimal fd ∷ sides_word sides ∷ []
command_words (command.Inject driver minor addr bytes) =
    codes "inject" ∷ driver ∷ decimal minor ∷ decimal addr ∷ hex_word bytes ∷ []
command_words (command.Transmit driver minor) = codes "transmit" ∷ driver ∷ decimal minor ∷ []
command_words (command.Hangup driver minor) = codes "hangup" ∷ driver ∷ decimal minor ∷ []

-- a call: the process and its command
abbrev pub call_words : ℕ × Command → List (List ℕ)
call_words call = decimal call.0 ∷ command_words call.1

-- an error of errno(3), and a word for its cause if the error has several
abbrev pub fault_words : Fault → List (List ℕ)
fault_words fault.BadDescriptor = codes "EBADF" ∷ codes "fd" ∷ []
fault_words fault.Below = codes "EINVAL" ∷ codes "below" ∷ []
fault_words fault.NotMux = codes "EINVAL" ∷ codes "notmux" ∷ []
fault_words fault.AlreadyBelow = codes "EINVAL" ∷ codes "already" ∷ []
fault_words fault.Cycle = codes "EINVAL" ∷ codes "cycle" ∷ []
fault_words fault.TooManyLinks = codes "EAGAIN" ∷ codes "links" ∷ []
fault_words fault.NoLink = codes "EINVAL" ∷ codes "id" ∷ []
fault_words fault.NoDriver = codes "ENXIO" ∷ codes "driver" ∷ []
fault_words fault.NoMinor = codes "ENXIO" ∷ codes "minor" ∷ []
fault_words fault.TooManyDescriptors = codes "EMFILE" ∷ []
fault_words fault.AddressInUse = codes "EADDRINUSE" ∷ []
fault_words fault.Unbound = codes "EINVAL" ∷ codes "unbound" ∷ []
fault_words fault.Unrouted = codes "EINVAL" ∷ codes "unrouted" ∷ []
fault_words fault.Full = codes "EAGAIN" ∷ codes "full" ∷ []
fault_words fault.Empty = codes "EAGAIN" ∷ codes "empty" ∷ []
fault_words fault.BadSize = codes "ERANGE" ∷ []
fault_words fault.HungUp = codes "ENXIO" ∷ codes "hangup" ∷ []

-- the words of a reply
abbrev pub reply_words : Reply → List (List ℕ)
reply_words (reply.Fd fd minor) = codes "fd" ∷ decimal fd ∷ decimal minor ∷ []
reply_words (reply.Id id) = codes "id" ∷ decimal id ∷ []
reply_words (reply.Took serial) = codes "took" ∷ decimal serial ∷ []
reply_words (reply.Got serial addr bytes) = codes "got" ∷ decimal serial ∷ decimal addr ∷ hex_word bytes ∷ []
reply_words (reply.Done dropped) = codes "done" ∷ map decimal dropped
reply_words reply.Eof = codes "eof" ∷ []
reply_words (reply.Fault f) = fault_words f

-- the process, its command, an equals sign, and the reply
abbrev pub entry_words : Entry → List (List ℕ)
entry_words e = decimal e.process ∷ (command_words e.command ++ codes "=" ∷ reply_words e.reply)

-- the line of an entry, with its line feed
abbrev pub entry_line : Entry → List ℕ
entry_line e = line_of (entry_words e) ++ LINE_FEED ∷ []

-- the start of the program of the process with this number
abbrev pub process_words : ℕ → List (List ℕ)
process_words number = codes "process" ∷ decimal number ∷ []

-- the id that the next link gets, and the serial that the next message gets
abbrev pub next_words : ℕ × ℕ → List (List ℕ)
next_words next = codes "next" ∷ decimal next.0 ∷ decimal next.1 ∷ []

-- an open descriptor: its process and number, and the driver and the minor of its stream
abbrev pub descriptor_words : DescriptorLine → List (List ℕ)
descriptor_words d = codes "fd" ∷ decimal d.process ∷ decimal d.fd ∷ d.driver ∷ decimal d.minor ∷ []

-- a link: its id, its controlling stream, its lower stream, and its kind
abbrev pub link_words : LinkLine → List (List ℕ)
link_words l =
    codes "link" ∷ decimal l.id ∷ l.ctl_driver ∷ decimal l.ctl_minor ∷ l.lower_driver ∷ decimal
    l.lower_minor ∷ link_kind_word l.kind ∷ []

-- a binding: its driver and address, and the minor that it is bound to
abbrev pub bind_words : BindingLine → List (List ℕ)
bind_words b = codes "bind" ∷ b.driver ∷ decimal b.addr ∷ decimal b.minor ∷ []

-- a route: its driver and address, and the id of its link
abbrev pub route_words : RouteLine → List (List ℕ)
route_words r = codes "route" ∷ r.driver ∷ decimal r.addr ∷ decimal r.id ∷ []

-- a queued message: its place, its serial and address, and its bytes
abbrev pub message_words : MessageLine → List (List ℕ)
message_words m =
    codes "msg" ∷ m.driver ∷ decimal m.minor ∷ side_word m.side ∷ decimal m.message.serial ∷ decimal
    m.message.addr ∷ hex_word m.message.bytes ∷ []

-- a full place
abbrev pub full_words : FullLine → List (List ℕ)
full_words f = codes "full" ∷ f.driver ∷ decimal f.minor ∷ side_word f.side ∷ []

-- a hung-up stream
abbrev pub hung_words : HungLine → List (List ℕ)
hung_words h = codes "hung" ∷ h.driver ∷ decimal h.minor ∷ []
