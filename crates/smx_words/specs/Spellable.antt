-- The values that can be spelled: names are valid, and numbers and bytes are in range. The types guarantee this.
use Rattle.std.specs.Prelude.{◌≡◌, ℕ, ◌<◌, ◌^◌, Bool, true, false, List, length}
use Rattle.std.specs.List.{AllByRecursion}
use Rattle.smx_types.specs.Names.{is_name}
use Rattle.smx_types.specs.Versions.{is_hangup, is_of_hangup, tells_of_hangup}
use Rattle.smx_types.specs.declared.command.Command.{Command}
use Rattle.smx_types.specs.declared.command.Command.TheVariants as command
use Rattle.smx_types.specs.declared.command.Entry.{Entry}
use Rattle.smx_types.specs.declared.command.Which.{Which}
use Rattle.smx_types.specs.declared.command.Which.TheVariants as which
use Rattle.smx_types.specs.declared.driver.DriverSpec.{DriverSpec}
use Rattle.smx_types.specs.declared.limits.TheConstants.{MAX_PROCESSES}
use Rattle.smx_types.specs.declared.reply.Reply.{Reply}
use Rattle.smx_types.specs.declared.reply.Reply.TheVariants as reply
use Rattle.smx_types.specs.declared.version.Version.{Version}
use Rattle.smx_types.specs.declared.version.Version.TheVariants.{V1, V2}
use Rattle.smx_types.specs.declared.view.BindingLine.{BindingLine}
use Rattle.smx_types.specs.declared.view.DescriptorLine.{DescriptorLine}
use Rattle.smx_types.specs.declared.view.FullLine.{FullLine}
use Rattle.smx_types.specs.declared.view.HungLine.{HungLine}
use Rattle.smx_types.specs.declared.view.LinkLine.{LinkLine}
use Rattle.smx_types.specs.declared.view.MessageLine.{MessageLine}
use Rattle.smx_types.specs.declared.view.RouteLine.{RouteLine}

-- a number has 32 bits
abbrev pub FitsNumber : ℕ → Type 0
FitsNumber n = n < 2 ^ 32

-- a valid driver name
abbrev pub FitsName : List ℕ → Type 0
FitsName text = is_name text ≡ true

-- a byte has 8 bits
abbrev pub FitsBytes : List ℕ → Type 0
FitsBytes bytes = AllByRecursion (λ b. b < 256) bytes

-- a process number is below the limit
abbrev pub FitsProcess : ℕ → Type 0
FitsProcess process = process < MAX_PROCESSES

-- any value of an enum in which each variant has its own word
abbrev pub FitsAlways : {X : Type 0} → X → Type 0
FitsAlways x = Unit {0}

-- an id is a number
abbrev pub FitsWhich : Which → Type 0
FitsWhich (which.Id id) = FitsNumber id
FitsWhich which.All = Unit {0}

-- the next id and the next serial are numbers
abbrev pub FitsNext : ℕ × ℕ → Type 0
FitsNext next = FitsNumber next.0 × FitsNumber next.1

-- a driver's name and numbers can be spelled
pub record FitsDriver (d : DriverSpec) : Type 0 where
  pub name : FitsName d.name
  pub minors : FitsNumber d.minors
  pub high : FitsNumber d.high
  pub low : FitsNumber d.low
  pub max : FitsNumber d.max

-- a command's names, numbers and bytes can be spelled
abbrev pub FitsCommand : Command → Type 0
FitsCommand (command.OpenClone driver) = FitsName driver
FitsCommand (command.OpenMinor driver minor) = FitsName driver × FitsNumber minor
FitsCommand (command.Dup fd) = FitsNumber fd
FitsCommand (command.Close fd) = FitsNumber fd
FitsCommand command.CloseAll = Unit {0}
FitsCommand (command.Link fd arg) = FitsNumber fd × FitsNumber arg
FitsCommand (command.Plink fd arg) = FitsNumber fd × FitsNumber arg
FitsCommand (command.Unlink fd which) = FitsNumber fd × FitsWhich which
FitsCommand (command.Punlink fd which) = FitsNumber fd × FitsWhich which
FitsCommand (command.Bind fd addr) = FitsNumber fd × FitsNumber addr
FitsCommand (command.Unbind fd) = FitsNumber fd
FitsCommand (command.Route fd addr id) = FitsNumber fd × FitsNumber addr × FitsNumber id
FitsCommand (command.Unroute fd addr) = FitsNumber fd × FitsNumber addr
FitsCommand (command.Write fd addr bytes) = FitsNumber fd × FitsNumber addr × FitsBytes bytes
FitsCommand (command.Read fd) = FitsNumber fd
FitsCommand (command.Flush fd sides) = FitsNumber fd
FitsCommand (command.Inject driver minor addr bytes) =
    FitsName driver × FitsNumber minor × FitsNumber addr × FitsBytes bytes
FitsCommand (command.Transmit driver minor) = FitsName driver × FitsNumber minor
FitsCommand (command.Hangup driver minor) = FitsName driver × FitsNumber minor

-- one or more serials, each of them a number
abbrev pub FitsSerials : List ℕ → Type 0
FitsSerials serials = (0 < length serials) × AllByRecursion FitsNumber serials

-- a reply's numbers and bytes can be spelled
abbrev pub FitsReply : Reply → Type 0
FitsReply (reply.Fd fd minor) = FitsNumber fd × FitsNumber minor
FitsReply (reply.Id id) = FitsNumber id
FitsReply (reply.Took serial) = FitsNumber serial
FitsReply (reply.Got serial addr bytes) = FitsNumber serial × FitsNumber addr × FitsBytes bytes
FitsReply (reply.Done dropped) = AllByRecursion FitsNumber dropped
FitsReply other = Unit {0}

-- this version can express the value: only version 2 can express hangups
abbrev pub CanTell : Version → Bool → Type 0
CanTell V1 hangup = hangup ≡ false
CanTell V2 hangup = Unit {0}

-- a command can be spelled, and this version can express it
abbrev pub FitsCommandIn : Version → Command → Type 0
FitsCommandIn version c = FitsCommand c × CanTell version (is_hangup c)

-- a reply can be spelled, and this version can express it
abbrev pub FitsReplyIn : Version → Reply → Type 0
FitsReplyIn version r = FitsReply r × CanTell version (tells_of_hangup r)

-- the process exists, and its command can be spelled
abbrev pub FitsCall : ℕ × Command → Type 0
FitsCall call = FitsProcess call.0 × FitsCommand call.1

-- a call can be spelled, and this version can express its command
abbrev pub FitsCallIn : Version → ℕ × Command → Type 0
FitsCallIn version call = FitsCall call × CanTell version (is_hangup call.1)

-- the process exists, and its command and reply can be spelled
pub record FitsEntry (e : Entry) : Type 0 where
  pub process : FitsProcess e.process
  pub command : FitsCommand e.command
  pub reply : FitsReply e.reply

-- an entry can be spelled, and this version can express its command and reply
abbrev pub FitsEntryIn : Version → Entry → Type 0
FitsEntryIn version e = FitsEntry e × CanTell version (is_of_hangup e)

-- the line of an open descriptor can be spelled
pub record FitsDescriptor (d : DescriptorLine) : Type 0 where
  pub process : FitsProcess d.process
  pub fd : FitsNumber d.fd
  pub driver : FitsName d.driver
  pub minor : FitsNumber d.minor

-- the line of a link can be spelled
pub record FitsLink (l : LinkLine) : Type 0 where
  pub id : FitsNumber l.id
  pub ctl_driver : FitsName l.ctl_driver
  pub ctl_minor : FitsNumber l.ctl_minor
  pub lower_driver : FitsName l.lower_driver
  pub lower_minor : FitsNumber l.lower_minor

-- the line of a binding can be spelled
pub record FitsBinding (b : BindingLine) : Type 0 where
  pub driver : FitsName b.driver
  pub addr : FitsNumber b.addr
  pub minor : FitsNumber b.minor

-- the line of a route can be spelled
pub record FitsRoute (r : RouteLine) : Type 0 where
  pub driver : FitsName r.driver
  pub addr : FitsNumber r.addr
  pub id : FitsNumber r.id

-- the line of a queued message can be spelled
pub record FitsMessage (m : MessageLine) : Type 0 where
  pub driver : FitsName m.driver
  pub minor : FitsNumber m.minor
  pub serial : FitsNumber m.message.serial
  pub addr : FitsNumber m.message.addr
  pub bytes : FitsBytes m.message.bytes

-- the line of a full place can be spelled
pub record FitsFull (f : FullLine) : Type 0 where
  pub driver : FitsName f.driver
  pub minor : FitsNumber f.minor

-- the line of a hung-up stream can be spelled
pub record FitsHung (h : HungLine) : Type 0 where
  pub driver : FitsName h.driver
  pub minor : FitsNumber h.minor
