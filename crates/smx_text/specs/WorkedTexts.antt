-- Worked texts: values with each kind of line, command and reply, and their texts, both written out by hand.
use Rattle.std.specs.Prelude.{◌≡◌, ℕ, [], ◌∷◌, ◌++◌, List, Ok, Err, refl, codes}
use Rattle.std.specs.Fmt.{digits}
use Rattle.hex.specs.Hex.{encode_with}
use Rattle.smx_types.specs.ProgramLists.{ProgramLists, program_lists, raised}
use Rattle.smx_types.specs.declared.command.Command.TheVariants as command
use Rattle.smx_types.specs.declared.command.Entry.{Entry}
use Rattle.smx_types.specs.declared.command.Sides.TheVariants as sides
use Rattle.smx_types.specs.declared.command.Which.TheVariants as which
use Rattle.smx_types.specs.declared.driver.DriverKind.TheVariants as kind
use Rattle.smx_types.specs.declared.driver.DriverSpec.{DriverSpec}
use Rattle.smx_types.specs.declared.link.LinkKind.TheVariants as link
use Rattle.smx_types.specs.declared.reply.Fault.TheVariants as fault
use Rattle.smx_types.specs.declared.reply.Reply.TheVariants as reply
use Rattle.smx_types.specs.declared.stream.Side.TheVariants as side
use Rattle.smx_types.specs.declared.transcript.Transcript.{Transcript}
use Rattle.smx_types.specs.declared.version.Version.TheVariants.{V1, V2}
use Rattle.smx_types.specs.declared.view.ConfigView.{ConfigView}
use Rattle.smx_text.specs.declared.text_fault.Cause.TheVariants as cause
use Rattle.smx_text.specs.Grammar.{last_line}
use Rattle.smx_text.specs.ProgramsText.{programs_grammar, programs_text}
use Rattle.smx_text.specs.TranscriptText.{transcript_grammar, transcript_text}

-- a multiplexer and a leaf
abbrev pub drivers : List DriverSpec
drivers =
    record { name = codes "ip"; kind = kind.Mux; minors = 4; high = 8; low = 3; max = 16 }
    ∷ record { name = codes "eth"; kind = kind.Leaf; minors = 0; high = 4294967295; low = 10; max = 100 }
    ∷ []

-- ---- programs

-- each kind of command in the first program, none in the second, one in the last
abbrev pub programs : ProgramLists
programs = program_lists drivers ((
    command.OpenClone (codes "ip")
    ∷ command.OpenMinor (codes "eth") 2
    ∷ command.Dup 0
    ∷ command.Close 15
    ∷ command.CloseAll
    ∷ command.Link 0 1
    ∷ command.Plink 0 1
    ∷ command.Unlink 0 (which.Id 7)
    ∷ command.Unlink 0 which.All
    ∷ command.Punlink 0 (which.Id 8)
    ∷ command.Bind 0 9
    ∷ command.Unbind 0
    ∷ command.Route 0 5 7
    ∷ command.Unroute 0 5
    ∷ command.Write 0 5 (192 ∷ 255 ∷ 0 ∷ [])
    ∷ command.Write 0 4294967295 []
    ∷ command.Read 0
    ∷ command.Flush 0 sides.R
    ∷ command.Flush 0 sides.W
    ∷ command.Flush 0 sides.RW
    ∷ command.Inject (codes "eth") 0 9 (171 ∷ [])
    ∷ command.Transmit (codes "eth") 0
    ∷ []) ∷ [] ∷ (command.Punlink 1 which.All ∷ []) ∷ [])

-- the text of these programs
abbrev pub programs_bytes : List ℕ
programs_bytes =
    codes "programs 1\ndriver ip mux 4 8 3 16\ndriver eth leaf 0 4294967295 10 100\n"
    ++ codes "process 0\n"
    ++ codes "clone ip\nopen eth 2\ndup 0\nclose 15\n"
    ++ codes "exit\nlink 0 1\nplink 0 1\nunlink 0 7\n"
    ++ codes "unlink 0 all\npunlink 0 8\nbind 0 9\nunbind 0\n"
    ++ codes "route 0 5 7\nunroute 0 5\nwrite 0 5 c0ff00\nwrite 0 4294967295 -\n"
    ++ codes "read 0\nflush 0 r\nflush 0 w\nflush 0 rw\n"
    ++ codes "inject eth 0 9 ab\ntransmit eth 0\n"
    ++ codes "process 1\nprocess 2\npunlink 1 all\nend\n"

-- these programs have this text
pub is_text : programs_text programs ≡ programs_bytes
unfolding digits encode_with
is_text = refl

-- the text of these programs ends at line 30, with its line `end`
pub ends_at : last_line (programs_grammar V1) (Ok programs) ≡ 30
ends_at = refl

-- a fault at line 4 ends at line 4
pub stops_at : last_line (programs_grammar V1) (Err (record { line = 4; cause = cause.Form })) ≡ 4
stops_at = refl

-- programs with no driver and no process have the shortest text
pub is_shortest_text : programs_text (program_lists [] []) ≡ codes "programs 1\nend\n"
is_shortest_text = refl

-- hangups, which only version 2 can express
abbrev pub hangups : ProgramLists
hangups = program_lists drivers ((command.Hangup (codes "eth") 1 ∷ command.Hangup (codes "ip") 4294967295 ∷ []) ∷ [])

-- the text of these programs of hangups
abbrev pub hangups_bytes : List ℕ
hangups_bytes =
    codes "programs 2\ndriver ip mux 4 8 3 16\ndriver eth leaf 0 4294967295 10 100\n"
    ++ codes "process 0\nhangup eth 1\nhangup ip 4294967295\nend\n"

-- these programs of hangups have this text
pub is_text_of_hangups : programs_text hangups ≡ hangups_bytes
unfolding digits
is_text_of_hangups = refl

-- programs that version 1 can express also have a text in version 2
pub is_raised_text : programs_text (raised (program_lists [] [])) ≡ codes "programs 2\nend\n"
is_raised_text = refl

-- ---- a transcript

-- each kind of command, and each kind of reply
abbrev pub entries : List Entry
entries =
    record { process = 0; command = command.OpenClone (codes "ip"); reply = reply.Fd 0 3 }
    ∷ record { process = 63; command = command.OpenMinor (codes "eth") 2; reply = reply.Fault fault.NoMinor }
    ∷ record { process = 0; command = command.Dup 0; reply = reply.Fault fault.TooManyDescriptors }
    ∷ record { process = 0; command = command.Close 15; reply = reply.Fault fault.BadDescriptor }
    ∷ record { process = 0; command = command.CloseAll; reply = reply.Done [] }
    ∷ record { process = 0; command = command.Link 0 1; reply = reply.Id 7 }
    ∷ record { process = 0; command = command.Plink 0 1; reply = reply.Fault fault.Cycle }
    ∷ record { process = 0; command = command.Unlink 0 (which.Id 7); reply = reply.Fault fault.NoLink }
    ∷ record { process = 0; command = command.Unlink 0 which.All; reply = reply.Done (1 ∷ 2 ∷ []) }
    ∷ record { process = 0; command = command.Punlink 0 (which.Id 8); reply = reply.Fault fault.NotMux }
    ∷ record { process = 0; command = command.Bind 0 9; reply = reply.Fault fault.AddressInUse }
    ∷ record { process = 0; command = command.Unbind 0; reply = reply.Fault fault.Unbound }
    ∷ record { process = 0; command = command.Route 0 5 7; reply = reply.Fault fault.Below }
    ∷ record { process = 0; command = command.Unroute 0 5; reply = reply.Fault fault.Unrouted }
    ∷ record { process = 0; command = command.Write 0 5 (192 ∷ 255 ∷ 0 ∷ []); reply = reply.Took 4294967295 }
    ∷ record { process = 0; command = command.Write 0 4294967295 []; reply = reply.Fault fault.BadSize }
    ∷ record { process = 0; command = command.Read 0; reply = reply.Got 6 5 (1 ∷ 2 ∷ []) }
    ∷ record { process = 0; command = command.Flush 0 sides.R; reply = reply.Fault fault.Empty }
    ∷ record { process = 0; command = command.Flush 0 sides.W; reply = reply.Fault fault.Full }
    ∷ record { process = 0; command = command.Flush 0 sides.RW; reply = reply.Fault fault.AlreadyBelow }
    ∷ record { process = 0; command = command.Inject (codes "eth") 0 9 (171 ∷ []); reply = reply.Fault fault.NoDriver }
    ∷ record { process = 0; command = command.Transmit (codes "eth") 0; reply = reply.Fault fault.TooManyLinks }
    ∷ []

-- each kind of line of a view, and two of one kind
abbrev pub view : ConfigView
view = record {
  next_id = 2;
  next_serial = 6;
  fds = record { process = 0; fd = 1; driver = codes "eth"; minor = 2 }
      ∷ record { process = 63; fd = 15; driver = codes "ip"; minor = 3 } ∷ [];
  links =
      record {
        id = 1;
        ctl_driver = codes "ip";
        ctl_minor = 0;
        lower_driver = codes "eth";
        lower_minor = 3;
        kind = link.Persistent;
      }
      ∷ record {
        id = 4;
        ctl_driver = codes "ip";
        ctl_minor = 2;
        lower_driver = codes "eth";
        lower_minor = 1;
        kind = link.Ordinary;
      }
      ∷ [];
  binds = record { driver = codes "ip"; addr = 9; minor = 0 } ∷ [];
  routes = record { driver = codes "ip"; addr = 5; id = 1 } ∷ [];
  msgs =
      record {
        driver = codes "ip";
        minor = 0;
        side = side.Write;
        message = record { serial = 5; addr = 7; bytes = 0 ∷ 5 ∷ [] };
      }
      ∷ [];
  fulls = record { driver = codes "eth"; minor = 1; side = side.Read } ∷ [];
  hungs = [];
}

-- the drivers, the history and the view
abbrev pub transcript : Transcript
transcript = record { version = V1; drivers = drivers; entries = entries; view = view }

-- the text of this transcript
abbrev pub transcript_bytes : List ℕ
transcript_bytes =
    codes "transcript 1\ndriver ip mux 4 8 3 16\ndriver eth leaf 0 4294967295 10 100\n"
    ++ codes "0 clone ip = fd 0 3\n63 open eth 2 = ENXIO minor\n0 dup 0 = EMFILE\n"
    ++ codes "0 close 15 = EBADF fd\n0 exit = done\n0 link 0 1 = id 7\n"
    ++ codes "0 plink 0 1 = EINVAL cycle\n0 unlink 0 7 = EINVAL id\n0 unlink 0 all = done 1 2\n"
    ++ codes "0 punlink 0 8 = EINVAL notmux\n0 bind 0 9 = EADDRINUSE\n0 unbind 0 = EINVAL unbound\n"
    ++ codes "0 route 0 5 7 = EINVAL below\n0 unroute 0 5 = EINVAL unrouted\n0 write 0 5 c0ff00 = took 4294967295\n"
    ++ codes "0 write 0 4294967295 - = ERANGE\n0 read 0 = got 6 5 0102\n0 flush 0 r = EAGAIN empty\n"
    ++ codes "0 flush 0 w = EAGAIN full\n0 flush 0 rw = EINVAL already\n0 inject eth 0 9 ab = ENXIO driver\n"
    ++ codes "0 transmit eth 0 = EAGAIN links\n"
    ++ codes "config\nnext 2 6\nfd 0 1 eth 2\nfd 63 15 ip 3\nlink 1 ip 0 eth 3 plink\nlink 4 ip 2 eth 1 link\n"
    ++ codes "bind ip 9 0\nroute ip 5 1\nmsg ip 0 w 5 7 0005\nfull eth 1 r\nend\n"

-- this transcript has this text
pub is_transcript : transcript_text transcript ≡ transcript_bytes
unfolding digits encode_with
is_transcript = refl

-- the text of this transcript ends at line 36, with its line `end`
pub transcript_ends_at : last_line (transcript_grammar V1) (Ok transcript) ≡ 36
transcript_ends_at = refl

-- a hangup, and each reply that reports one
abbrev pub entries_of_hangups : List Entry
entries_of_hangups =
    record { process = 0; command = command.Hangup (codes "eth") 1; reply = reply.Done [] }
    ∷ record { process = 0; command = command.Hangup (codes "eth") 9; reply = reply.Fault fault.NoMinor }
    ∷ record { process = 63; command = command.Read 15; reply = reply.Eof }
    ∷ record { process = 0; command = command.Transmit (codes "eth") 1; reply = reply.Fault fault.HungUp }
    ∷ []

-- the drivers, a history with hangups, and a view with hung-up streams: only version 2 can express it
abbrev pub transcript_of_hangups : Transcript
transcript_of_hangups = record {
  version = V2;
  drivers = drivers;
  entries = entries_of_hangups;
  view =
      record view {
        hungs = record { driver = codes "eth"; minor = 1 } ∷ record { driver = codes "ip"; minor = 4294967295 } ∷ [];
      };
}

-- the text of this transcript of hangups
abbrev pub transcript_of_hangups_bytes : List ℕ
transcript_of_hangups_bytes =
    codes "transcript 2\ndriver ip mux 4 8 3 16\ndriver eth leaf 0 4294967295 10 100\n"
    ++ codes "0 hangup eth 1 = done\n0 hangup eth 9 = ENXIO minor\n"
    ++ codes "63 read 15 = eof\n0 transmit eth 1 = ENXIO hangup\n"
    ++ codes "config\nnext 2 6\nfd 0 1 eth 2\nfd 63 15 ip 3\nlink 1 ip 0 eth 3 plink\nlink 4 ip 2 eth 1 link\n"
    ++ codes "bind ip 9 0\nroute ip 5 1\nmsg ip 0 w 5 7 0005\nfull eth 1 r\n"
    ++ codes "hung eth 1\nhung ip 4294967295\nend\n"

-- this transcript of hangups has this text
pub is_transcript_of_hangups : transcript_text transcript_of_hangups ≡ transcript_of_hangups_bytes
unfolding digits encode_with
is_transcript_of_hangups = refl

-- a transcript of version 2 that version 1 could also express
abbrev pub shortest_transcript : Transcript
shortest_transcript = record {
  version = V2;
  drivers = [];
  entries = [];
  view =
      record {
        next_id = 1;
        next_serial = 1;
        fds = [];
        links = [];
        binds = [];
        routes = [];
        msgs = [];
        fulls = [];
        hungs = [];
      };
}

-- that transcript has the shortest text
pub is_shortest_transcript : transcript_text shortest_transcript ≡ codes "transcript 2\nconfig\nnext 1 1\nend\n"
unfolding digits
is_shortest_transcript = refl
