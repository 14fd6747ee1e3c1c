-- Drivers and a view for worked pictures: each kind of line, both kinds of drivers and of links, and both sides.
use Rattle.std.specs.Prelude.{ℕ, List, [], ◌∷◌, codes}
use Rattle.smx_types.specs.declared.driver.DriverKind.TheVariants.{Leaf, Mux}
use Rattle.smx_types.specs.declared.driver.DriverSpec.{DriverSpec}
use Rattle.smx_types.specs.declared.link.LinkKind.TheVariants.{Ordinary, Persistent}
use Rattle.smx_types.specs.declared.stream.Side.{Side}
use Rattle.smx_types.specs.declared.stream.Side.TheVariants.{Read, Write}
use Rattle.smx_types.specs.declared.view.ConfigView.{ConfigView}
use Rattle.smx_types.specs.declared.view.MessageLine.{MessageLine}

-- names
abbrev pub ip : List ℕ
ip = codes "ip"

abbrev pub eth : List ℕ
eth = codes "eth"

-- a name that no driver has
abbrev pub tap : List ℕ
tap = codes "tap"

-- a multiplexer and a leaf, with a different number in each field
abbrev pub table : List DriverSpec
table =
    record { name = ip; kind = Mux; minors = 4; high = 8; low = 3; max = 16 }
    ∷ record { name = eth; kind = Leaf; minors = 2; high = 64; low = 9; max = 1024 } ∷ []

-- a message in a queue
abbrev pub message : List ℕ → ℕ → Side → ℕ → ℕ → List ℕ → MessageLine
message driver minor side serial addr bytes =
    record {
      driver = driver;
      minor = minor;
      side = side;
      message = record { serial = serial; addr = addr; bytes = bytes };
    }

-- seven messages in five queues; one queue has no bytes, and the driver of one does not exist
abbrev pub messages : List MessageLine
messages =
    message ip 1 Write 21 77 (192 ∷ 255 ∷ 0 ∷ [])
    ∷ message ip 1 Write 22 78 (1 ∷ 2 ∷ 3 ∷ 4 ∷ 5 ∷ [])
    ∷ message ip 1 Read 23 79 (7 ∷ [])
    ∷ message ip 1 Read 24 80 (8 ∷ [])
    ∷ message eth 0 Write 25 81 (9 ∷ [])
    ∷ message eth 1 Write 26 82 []
    ∷ message tap 1 Write 27 83 (9 ∷ 9 ∷ [])
    ∷ []

-- a view with a line of each kind
abbrev pub shown : ConfigView
shown =
    record {
      next_id = 3;
      next_serial = 28;
      fds = record { process = 5; fd = 6; driver = ip; minor = 1 } ∷ [];
      links =
          record { id = 1; ctl_driver = ip; ctl_minor = 3; lower_driver = eth; lower_minor = 0; kind = Ordinary }
          ∷ record { id = 2; ctl_driver = ip; ctl_minor = 2; lower_driver = eth; lower_minor = 1; kind = Persistent }
          ∷ [];
      binds = record { driver = ip; addr = 77; minor = 1 } ∷ [];
      routes = record { driver = ip; addr = 88; id = 2 } ∷ [];
      msgs = messages;
      fulls =
          record { driver = ip; minor = 1; side = Write } ∷ record { driver = eth; minor = 0; side = Read } ∷ [];
      hungs = record { driver = eth; minor = 1 } ∷ [];
    }

-- a view with no lines
abbrev pub nothing : ConfigView
nothing =
    record {
      next_id = 1;
      next_serial = 1;
      fds = [];
      links = [];
      binds = [];
      routes = [];
      msgs = [];
      fulls = [];
      hungs = [];
    }
